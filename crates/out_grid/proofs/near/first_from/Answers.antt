use Rattle.std.proofs.Common.{◌≡◌, ◌⊎◌, inl, inr, ℕ, zero, suc, ◌-◌, ◌<◌, ◌≤◌, List, Contains, Some, None, length, get_or, slice_get, ltb, ltb-true, ltb-false, sym, subst, rules, arith}
use Rattle.std.specs.Prelude.{Option}
use Rattle.std.specs.List.Sorted.{IsNonDecreasing}
use Rattle.std.proofs.lemmas.Bool.{cases_lt}
use Rattle.std.proofs.lemmas.List.Sorted.{IsPartitionPoint-from_clause, IsPartitionedBy-ltb}
use Rattle.std.proofs.lemmas.Option.{slice_get_within, get_or_from_slice_get, slice_get-get_or}
use Rattle.span_count.specs.Finders.{IsNext}
use Rattle.span_count.proofs.Lists.{none_past}
use Rattle.out_grid.proofs.near.first_from.Goals as goal

module _ (xs : List ℕ) (from place : ℕ) (sorted : IsNonDecreasing xs) (before : (k d : ℕ) → k < place → get_or xs k d < from)
    (after : (k d : ℕ) → place ≤ k → k < length xs → from ≤ get_or xs k d) where
  none_before : (k : ℕ) → from ≤ k → (i : ℕ) → i < length xs → get_or xs i k ≡ k → i < place → ⊥
  none_before k above i within is early = let l = before i k early in omega (arith, l, is, above)

  -- at that place there is the first, or nothing
  next_at : (found : Option ℕ) → found ≡ slice_get xs place → IsNext (Contains xs) from found
  next_at None e = λ k above there. none_before k above there.0 there.1 there.2 (omega (arith, there.1, none_past xs place (sym e)))
  next_at (Some n) e = (first n (after place n (omega arith) within_place) n_is, none_between)
    where
      within_place : place < length xs
      within_place = slice_get_within xs place n (sym e)

      n_is : get_or xs place n ≡ n
      n_is = get_or_from_slice_get xs place n n (sym e)

      first : (n : ℕ) {m : ℕ} → from ≤ m → m ≡ n → from ≤ n
      first n l is = omega (arith, l, is)

      none_between : (k : ℕ) → from ≤ k → k < n → Contains xs k → ⊥
      none_between k above below (i, within, is) = by (cases_lt i place)
        where
          by : (i < place) ⊎ (place ≤ i) → ⊥
          by (inl early) = none_before k above i within is early
          by (inr late) = let l = sorted place i k late within in omega (arith, l, is, below, get_or_from_slice_get xs place n k (sym e))

-- an item is the same by any default
same_item : (xs : List ℕ) (k d e : ℕ) → k < length xs → get_or xs k d ≡ get_or xs k e
same_item xs k d e within = sym (get_or_from_slice_get xs k (get_or xs k d) e (slice_get-get_or xs k d within))

-- what is before a place is below, where the number just before it is
before_place : (xs : List ℕ) (from place : ℕ) → IsNonDecreasing xs → place < length xs → (0 < place → get_or xs (place - 1) 0 < from) → (k d : ℕ) → k < place → get_or xs k d < from
before_place xs from zero sorted within last k d early = absurd (omega (arith, early))
before_place xs from (suc p) sorted within last k d early =
    let l = sorted k p d (omega (arith, early)) (omega (arith, within)) in
    let m = subst (λ (q : ℕ). get_or xs q 0 < from) (one_less p) (last (omega arith)) in
    omega (arith, l, m, same_item xs p 0 d (omega (arith, within)))
  where
    one_less : (p : ℕ) → suc p - 1 ≡ p
    one_less p = omega arith

-- what is behind a place that is reached is not below
after_place : (xs : List ℕ) (from place : ℕ) → IsNonDecreasing xs → from ≤ get_or xs place 0 → place < length xs → (k d : ℕ) → place ≤ k → k < length xs → from ≤ get_or xs k d
after_place xs from place sorted reached within k d late inside =
    let l = sorted place k d late inside in
    omega (arith, l, reached, same_item xs place 0 d within)

pub returns-then-is_first_from : goal.returns-then-is_first_from
returns-then-is_first_from c =
    let xs = c.args.numbers.now in
    let place = c.args.place in
    let sorted = c.requires in
    let so = c.if-is_first_from.true in
    let within = c.is_first_from.ensures.within so in
    let reached = c.is_first_from.ensures.reached so in
    next_at xs c.args.from place sorted (before_place xs c.args.from place sorted within (c.is_first_from.ensures.before so))
    (λ k d late inside. after_place xs c.args.from place sorted reached within k d late inside) c.at.result c.at.ensures

pub returns : goal.returns
returns c =
    let xs = c.args.numbers.now in
    let parted = IsPartitionedBy-ltb (λ (x : ℕ). x) xs c.args.from c.requires in
    let point = IsPartitionPoint-from_clause (λ (x : ℕ). ltb x c.args.from) _ _ c.partition_point.ensures.partitioned parted (λ a r q k. search rules) in
    next_at xs c.args.from c.partition_point.result c.requires (λ k d early. ltb-true _ _ (point.0 k d (omega arith) early)) (λ k d late within. ltb-false _ _ (point.1 k d late within))
    c.at-2.result c.at-2.ensures
