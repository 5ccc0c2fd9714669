-- A file that is fetched a block at a time.
use Rattle.std.proofs.Common.{◌≡◌, ◌<◌, ℕ, suc, zero, List, [], ◌∷◌, ◌++◌, length, take, drop, Option, Some, None, arith, ap, refl, sym, subst, ◌∙◌}
use Rattle.std.specs.Prelude.{IsSomeAnd}
use Rattle.std.proofs.lemmas.List.{take_all, length-take, append-nil}
use Rattle.std.proofs.Math.Seq.{take-add}
use Rattle.desk.specs.Taken.{AreFetched, nothing, block, IsTaken}
use Rattle.part_input.specs.inner.Fetch.{IsFetchedOnto, AddsFetched}

-- what is held begins so
abbrev pub IsFront : Option (List ℕ) → List ℕ → Type 0
IsFront None out = out ≡ []
IsFront (Some bytes) out = out ≡ take (length out) bytes

-- nothing yet
pub none_front : (held : Option (List ℕ)) (out : List ℕ) → out ≡ [] → IsFront held out
none_front None out none = none
none_front (Some bytes) out none = subst (λ (o : List ℕ). o ≡ take (length o) bytes) (sym none) refl

-- one block more, and what was fetched still begins what the file holds
pub goes_on : (held : Option (List ℕ)) (old : List ℕ) (n : ℕ) (new : List ℕ) → IsFront held old → IsFetchedOnto held old n new → IsFront held new
goes_on None old n new front fetched = absurd fetched
goes_on (Some bytes) old n new front fetched =
    fetched.onto ∙ ap (λ o. o ++ take n (drop (length old) bytes)) front ∙ sym (take-add (length old) n bytes)
    ∙ ap (λ k. take k bytes) (sym fetched.count)

-- no bytes more, and the whole file was fetched
pub ends : (held : Option (List ℕ)) (old : List ℕ) (n : ℕ) (new : List ℕ) → IsFront held old → IsFetchedOnto held old n new → n ≡ 0 → held ≡ Some new
ends None old n new front fetched none = absurd fetched
ends (Some bytes) old n new front fetched none =
    ap Some (sym (fetched.onto ∙ ap (λ k. old ++ take k (drop (length old) bytes)) none ∙ append-nil old ∙ front
    ∙ take_all (length old) bytes (fetched.end.0 none)))

-- a file that holds more than the limit is longer
pub is_longer : (held : Option (List ℕ)) (out : List ℕ) (limit : ℕ) → IsFront held out → limit < length out → IsSomeAnd held (λ bytes. limit < length bytes)
is_longer None out limit front long = omega (arith, ap length front)
is_longer (Some bytes) out limit front long = omega (arith, ap length front, length-take (length out) bytes)

-- ---- on every desk
none_of : (xs : List ℕ) → length xs ≡ 0 → xs ≡ []
none_of [] e = refl
none_of (x ∷ xs) e = absurd (omega (arith, e))

module _ {D : Type 0} (Fetches : D → List ℕ → ℕ → List ℕ → D → Type 0) (name : List ℕ) (start : D) where
  -- nothing yet
  pub none_fetched : (out : List ℕ) → out ≡ [] → AreFetched Fetches name start start out
  none_fetched out none = subst (AreFetched Fetches name start start) (sym none) (nothing start)

  module _ (before after : D) (old : List ℕ) (n : ℕ) (new : List ℕ) (are : AreFetched Fetches name start before old) (adds : AddsFetched Fetches name before after old n new) where
    -- one block more
    pub fetched_more : ¬ (n ≡ 0) → AreFetched Fetches name start after new
    fetched_more some = subst (AreFetched Fetches name start after) (sym adds.onto) (block start before after old adds.next are (longer n adds.count some) adds.fetched)
      where
        longer : (n : ℕ) → length adds.next ≡ n → ¬ (n ≡ 0) → 0 < length adds.next
        longer zero count some = absurd (some refl)
        longer (suc k) count some = omega (arith, count)

    -- no bytes more, and the text was taken
    pub taken_whole : n ≡ 0 → IsTaken Fetches name start after new
    taken_whole ends =
        let none : adds.next ≡ [] = none_of adds.next (adds.count ∙ ends) in
        let same : new ≡ old = adds.onto ∙ ap (λ (next : List ℕ). old ++ next) none ∙ append-nil old in
        record {
          last = before;
          fetched = subst (AreFetched Fetches name start before) (sym same) are;
          end = subst (λ (text : List ℕ). Fetches before name (length text) [] after) (sym same) (subst (λ (next : List ℕ). Fetches before name (length old) next after) none adds.fetched);
        }
