-- Lists that are put together of parts, one part more.
use Rattle.std.proofs.Common.{◌≡◌, ℕ, ◌+◌, ◌<◌, List, [], ◌∷◌, ◌++◌, length, take, get_or, refl, sym, ap, subst, ◌∙◌}
use Rattle.std.proofs.lemmas.List.{append-nil, append_assoc, take_more}
use Rattle.hatch_fill.specs.inner.Parts.{AreJoined, AreAdded}

module _ {A B : Type 0} (R : A → List B → Type 0) where
  joined_push : (xs : List A) (x : A) (all part : List B) → AreJoined R xs all → R x part → AreJoined R (xs ++ x ∷ []) (all ++ part)
  joined_push [] x all part e r = (part, [], ap (λ (ys : List B). ys ++ part) e ∙ sym (append-nil part), r, refl)
  joined_push (w ∷ xs) x all part (first, rest, e, p, more) r =
      (first, rest ++ part, ap (λ (ys : List B). ys ++ part) e ∙ append_assoc first rest part, p, joined_push xs x rest part more r)

  pub joined_more : (xs : List A) (k : ℕ) (x : A) (old new : List B) → k < length xs → x ≡ get_or xs k x → AreJoined R (take k xs) old → AreAdded (R x) old new → AreJoined R (take (k + 1) xs) new
  joined_more xs k x old new less is before (part, e, r) =
      subst (λ (ys : List A). AreJoined R ys new) (ap (λ (y : A). take k xs ++ y ∷ []) is ∙ sym (take_more xs k x less))
      (subst (λ (zs : List B). AreJoined R (take k xs ++ x ∷ []) zs) (sym e) (joined_push (take k xs) x old part before r))
