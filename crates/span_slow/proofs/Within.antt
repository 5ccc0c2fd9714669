-- What lies within the intervals of a list, or at an end of one, when the list has one more.
use Rattle.std.proofs.Common.{List, [], ◌∷◌, ◌++◌, sym, subst, ◌⊎◌, inl, inr, ⊎_elim}
use Rattle.std.specs.Prelude.{ℤ}
use Rattle.std.proofs.lemmas.List.Elements.{Contains-push, Contains-push_cases, Contains-append_left}
use Rattle.exact_frac.specs.declared.Frac.{Frac}
use Rattle.intervals.specs.declared.interval.Interval.{Interval}
use Rattle.geometry.specs.Places.{IsBetween}
use Rattle.cut_plane.specs.Beyond.{IsWithinAny}
use Rattle.span_slow.specs.inner.Hidden.{IsAtEnd, IsIntervalEnd}

module _ (xs : List (Interval Frac)) (x : Interval Frac) where
  pub within_old : (n m : ℤ) → IsWithinAny xs n m → IsWithinAny (xs ++ x ∷ []) n m
  within_old n m h = (h.0, Contains-append_left xs (x ∷ []) h.0 h.1, h.2)

  pub within_new : (n m : ℤ) → IsBetween x.from x.to n m → IsWithinAny (xs ++ x ∷ []) n m
  within_new n m h = (x, Contains-push xs x, h)

  pub within_cases : (n m : ℤ) → IsWithinAny (xs ++ x ∷ []) n m → IsWithinAny xs n m ⊎ IsBetween x.from x.to n m
  within_cases n m h = ⊎_elim (λ k. inl (h.0, k, h.2)) (λ e. inr (subst (λ (y : Interval Frac). IsBetween y.from y.to n m) (sym e) h.2)) (Contains-push_cases xs x h.0 h.1)

  pub at_old_end : (n m : ℤ) → IsAtEnd xs n m → IsAtEnd (xs ++ x ∷ []) n m
  at_old_end n m h = (h.0, Contains-append_left xs (x ∷ []) h.0 h.1, h.2)

  pub known_old : (r : Frac) → IsIntervalEnd xs r → IsIntervalEnd (xs ++ x ∷ []) r
  known_old r h = elim h [
    | inl z ↦ inl z
    | inr k ↦ elim k [ inl z ↦ inr (inl z) | inr e ↦ inr (inr (e.0, Contains-append_left xs (x ∷ []) e.0 e.1, e.2)) ]
  ]
