use Rattle.std.proofs.Common.{◌≡◌, ℕ, ◌+◌, ◌<◌, ◌≤◌, List, [], ◌∷◌, ◌++◌, drop, length, get_or, refl, sym, ap, ◌∙◌, arith}
use Rattle.std.proofs.lemmas.List.{append-nil, append_assoc, drop_more, length-drop}
use Rattle.intervals.specs.declared.interval.Interval.{Interval}
use Rattle.hatch_fill.specs.declared.places.HatchPlace.{HatchPlace}
use Rattle.hatch_fill.specs.inner.Stretches.{between, pairs_of}
use Rattle.hatch_fill.proofs.stretches.pairs.Goals as goal

-- one pair more
step : (places : List HatchPlace) (k : ℕ) (old : List (Interval HatchPlace)) (s t : HatchPlace) → k + 1 < length places → s ≡ get_or places k s → t ≡ get_or places (k + 1) t → old ++ pairs_of (drop k places) ≡ pairs_of places
    → (old ++ between s t) ++ pairs_of (drop (k + 2) places) ≡ pairs_of places
step places k old s t less is_s is_t e =
    append_assoc old (between s t) (pairs_of (drop (k + 2) places)) ∙ ap (λ (xs : List HatchPlace). old ++ pairs_of xs) (sym two) ∙ e
  where
    after : k + 1 + 1 ≡ k + 2
    after = omega arith

    two : drop k places ≡ s ∷ t ∷ drop (k + 2) places
    two =
        drop_more places k s (omega arith)
        ∙ (λ i. sym is_s i ∷ drop_more places (k + 1) t less i)
        ∙ (λ i. s ∷ sym is_t i ∷ drop (after i) places)

last : (places : List HatchPlace) (k : ℕ) (old : List (Interval HatchPlace)) → length places ≤ k + 1 → old ++ pairs_of (drop k places) ≡ pairs_of places → old ≡ pairs_of places
last places k old past e = sym (append-nil old) ∙ ap (λ (xs : List (Interval HatchPlace)). old ++ xs) (sym (few (drop k places) short)) ∙ e
  where
    short : length (drop k places) ≤ 1
    short = let long = length-drop k places in omega (arith, long)

    few : (xs : List HatchPlace) → length xs ≤ 1 → pairs_of xs ≡ []
    few [] h = refl
    few (x ∷ []) h = refl
    few (x ∷ y ∷ xs) h = absurd (omega arith)

pub returns : goal.returns
returns c = last c.args.places.now c.loop-k.k c.loop-k.intervals.items c.loop-k-test.false c.loop-k.invariant.1
