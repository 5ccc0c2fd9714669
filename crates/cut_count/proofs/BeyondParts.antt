-- The part of an edge beyond the plane of a cut, by the heights of its corners: all of it, none, or what is on one side of where it meets the plane.
use Rattle.std.proofs.Common.{◌≡◌, inl, inr, ◌+◌, ◌<◌, [], ◌∷◌, refl, sym, subst, ◌∙◌, arith}
use Rattle.std.specs.Prelude.{◌↔◌, ℤ, pos, ◌+ℤ◌, ◌-ℤ◌, ◌*ℤ◌, ◌<ℤ◌, ◌≤ℤ◌, unsigned_abs}
use Rattle.std.proofs.lemmas.Int.{ints}
use Rattle.integers.proofs.Comparisons.{at_most_of_less, less_not_at_most, sum_not_negative, times_one, zero_times}
use Rattle.integers.proofs.Ring.{var, con, ◌⊕◌, ◌⊖◌, ◌⊗◌, ring, gap_of_less}
use Rattle.integers.proofs.Signs.{mul_neg, mul_nonneg}
use Rattle.exact_frac.specs.declared.Frac.{Frac}
use Rattle.intervals.specs.declared.interval.Interval.{Interval}
use Rattle.lattice.specs.Cuts.{Plane}
use Rattle.geometry.specs.Cuts.{over_of}
use Rattle.geometry.specs.Parts.{Part, Edge}
use Rattle.geometry.specs.Places.{IsPlace, IsEarlier, IsBetween}
use Rattle.hiding_laws.specs.Values.{value_at}
use Rattle.cut_plane.specs.Beyond.{IsStretch, IsPartEnd, IsPartBeyond}
use Rattle.cut_plane.proofs.OneInterval.{within_none, all_one, within_one}
use Rattle.cut_count.proofs.EdgeHeights.{beyond_at, on_at}

-- ---- a value that is f at 0 and g at 1
-- below 0 at both, it is below 0 at inner places
below_all : (f g n m : ℤ) → f <ℤ pos 0 → g <ℤ pos 0 → pos 0 <ℤ n → n <ℤ m → value_at f g n m <ℤ pos 0
below_all f g n m first second hn hm = sum _ _ (mul_neg (m -ℤ n) f (gap_of_less n m hm) first) (mul_neg n g hn second)
  where
    sum : (x y : ℤ) → x <ℤ pos 0 → y <ℤ pos 0 → (x +ℤ y) <ℤ pos 0
    sum x y h k = omega (arith, ints)

below_none : (f g n m : ℤ) → pos 0 ≤ℤ f → pos 0 ≤ℤ g → pos 0 <ℤ n → n <ℤ m → ¬ (value_at f g n m <ℤ pos 0)
below_none f g n m first second hn hm less =
    less_not_at_most _ _ less (sum_not_negative _ _ (mul_nonneg (m -ℤ n) f (at_most_of_less _ _ (gap_of_less n m hm)) first) (mul_nonneg n g (at_most_of_less _ _ hn) second))

-- below 0 at 0, up to this place; at 1, from this place on
module _ (f g n m : ℤ) where
  by_rise : value_at f g n m ≡ (n *ℤ (g -ℤ f)) -ℤ ((pos 0 -ℤ f) *ℤ m)
  by_rise = ring (f ∷ g ∷ n ∷ m ∷ []) (((var 3 ⊖ var 2) ⊗ var 0) ⊕ (var 2 ⊗ var 1)) ((var 2 ⊗ (var 1 ⊖ var 0)) ⊖ ((con (pos 0) ⊖ var 0) ⊗ var 3)) refl

  by_fall : value_at f g n m ≡ (f *ℤ m) -ℤ (n *ℤ (f -ℤ g))
  by_fall = ring (f ∷ g ∷ n ∷ m ∷ []) (((var 3 ⊖ var 2) ⊗ var 0) ⊕ (var 2 ⊗ var 1)) ((var 0 ⊗ var 3) ⊖ (var 2 ⊗ (var 0 ⊖ var 1))) refl

  gap_below : (v x y : ℤ) → v ≡ x -ℤ y → (v <ℤ pos 0) ↔ (x <ℤ y)
  gap_below v x y e = ((λ h. omega (arith, ints)), (λ h. omega (arith, ints)))

  before : (k l : ℤ) → k ≡ pos 0 -ℤ f → l ≡ g -ℤ f → (value_at f g n m <ℤ pos 0) ↔ ((n *ℤ l) <ℤ (k *ℤ m))
  before k l hk hl = gap_below _ _ _ (by_rise ∙ (λ i. (n *ℤ sym hl i) -ℤ (sym hk i *ℤ m)))

  after : (k l : ℤ) → k ≡ f → l ≡ f -ℤ g → (value_at f g n m <ℤ pos 0) ↔ ((k *ℤ m) <ℤ (n *ℤ l))
  after k l hk hl = gap_below _ _ _ (by_fall ∙ (λ i. (sym hk i *ℤ m) -ℤ (n *ℤ sym hl i)))

nothing_before : (f g k l : ℤ) → k ≡ pos 0 -ℤ f → l ≡ g -ℤ f → value_at f g k l ≡ pos 0
nothing_before f g k l hk hl = (λ i. value_at f g (hk i) (hl i)) ∙ ring (f ∷ g ∷ []) ((((var 1 ⊖ var 0) ⊖ (con (pos 0) ⊖ var 0)) ⊗ var 0) ⊕ ((con (pos 0) ⊖ var 0) ⊗ var 1)) (con (pos 0)) refl

nothing_after : (f g k l : ℤ) → k ≡ f → l ≡ f -ℤ g → value_at f g k l ≡ pos 0
nothing_after f g k l hk hl = (λ i. value_at f g (hk i) (hl i)) ∙ ring (f ∷ g ∷ []) ((((var 0 ⊖ var 1) ⊖ var 0) ⊗ var 0) ⊕ (var 0 ⊗ var 1)) (con (pos 0)) refl

-- sizes of numbers on both sides of 0
rise_num : (f k : ℤ) → f <ℤ pos 0 → k ≡ pos (unsigned_abs f) → k ≡ pos 0 -ℤ f
rise_num f k h e = omega (arith, ints)

rise_den : (f g l : ℤ) → f <ℤ pos 0 → pos 0 ≤ℤ g → l ≡ pos (unsigned_abs f + unsigned_abs g) → l ≡ g -ℤ f
rise_den f g l h k e = omega (arith, ints)

fall_num : (f k : ℤ) → pos 0 ≤ℤ f → k ≡ pos (unsigned_abs f) → k ≡ f
fall_num f k h e = omega (arith, ints)

fall_den : (f g l : ℤ) → pos 0 ≤ℤ f → g <ℤ pos 0 → l ≡ pos (unsigned_abs f + unsigned_abs g) → l ≡ f -ℤ g
fall_den f g l h k e = omega (arith, ints)

-- ---- places
positive_one : (k : ℤ) → k ≡ pos 1 → pos 0 <ℤ k
positive_one k h = omega (arith, ints)

-- an inner place is after 0 and before 1
after_zero : (n m k l : ℤ) → pos 0 <ℤ n → k ≡ pos 0 → l ≡ pos 1 → (k *ℤ m) <ℤ (n *ℤ l)
after_zero n m k l hn hk hl = subst (λ (z : ℤ). (z *ℤ m) <ℤ (n *ℤ l)) (sym hk) (subst (λ (z : ℤ). (pos 0 *ℤ m) <ℤ (n *ℤ z)) (sym hl) (go (pos 0 *ℤ m) (n *ℤ pos 1) (zero_times m) (times_one n)))
  where
    go : (x y : ℤ) → x ≡ pos 0 → n ≡ y → x <ℤ y
    go x y e f = omega (arith, ints, hn)

before_one : (n m k l : ℤ) → n <ℤ m → k ≡ pos 1 → l ≡ pos 1 → (n *ℤ l) <ℤ (k *ℤ m)
before_one n m k l hm hk hl = subst (λ (z : ℤ). (n *ℤ l) <ℤ (z *ℤ m)) (sym hk) (subst (λ (z : ℤ). (n *ℤ z) <ℤ (pos 1 *ℤ m)) (sym hl) (go (n *ℤ pos 1) (pos 1 *ℤ m) (times_one n) (one_times m)))
  where
    one_times : (x : ℤ) → pos 1 *ℤ x ≡ x
    one_times x = ring (x ∷ []) (con (pos 1) ⊗ var 0) (var 0) refl

    go : (x y : ℤ) → n ≡ x → y ≡ m → x <ℤ y
    go x y e f = omega (arith, ints, hm)

module _ (c : Plane) {s : Part} (e : Edge s) where
  abbrev f : ℤ
  f = over_of c e.a

  abbrev g : ℤ
  g = over_of c e.b

  -- one interval of which the inner places are those of negative height
  part_one : (from to : Frac) → IsPlace from → IsPlace to → IsEarlier from to → IsPartEnd c e from → IsPartEnd c e to
      → ((n m : ℤ) → pos 0 <ℤ n → n <ℤ m → (value_at f g n m <ℤ pos 0) ↔ IsBetween from to n m) → IsPartBeyond c e (record { from = from; to = to } ∷ [])
  part_one from to from_place to_place earlier from_end to_end exactly =
      let x : Interval Frac = record { from = from; to = to } in
      record {
        stretches = all_one IsStretch x (record { from_place = from_place; to_place = to_place; earlier = earlier });
        ends = all_one (λ x. IsPartEnd c e x.from × IsPartEnd c e x.to) x (from_end, to_end);
        exactly = λ n m hn hm. (
          (λ beyond. (within_one x n m).0 ((exactly n m hn hm).0 ((beyond_at c e.a e.b n m).0 beyond))),
          (λ within. (beyond_at c e.a e.b n m).1 ((exactly n m hn hm).1 ((within_one x n m).1 within))),
        );
      }

  module _ (from to : Frac) (from_place : IsPlace from) (to_place : IsPlace to) where
    pub part_whole : f <ℤ pos 0 → g <ℤ pos 0 → from.num ≡ pos 0 → from.den ≡ pos 1 → to.num ≡ pos 1 → to.den ≡ pos 1 → IsPartBeyond c e (record { from = from; to = to } ∷ [])
    part_whole first second zero one last whole =
        part_one from to from_place to_place (after_zero to.num to.den from.num from.den (positive_one to.num last) zero one) (inl zero) (inr (inl (last ∙ sym whole)))
        (λ n m hn hm. ((λ h. (after_zero n m from.num from.den hn zero one, before_one n m to.num to.den hm last whole)), (λ h. below_all f g n m first second hn hm)))

    pub part_before : f <ℤ pos 0 → pos 0 ≤ℤ g → from.num ≡ pos 0 → from.den ≡ pos 1 → to.num ≡ pos (unsigned_abs f) → to.den ≡ pos (unsigned_abs f + unsigned_abs g) → IsPartBeyond c e (record { from = from; to = to } ∷ [])
    part_before first second zero one num den =
        let k = rise_num f to.num first num in
        let l = rise_den f g to.den first second den in
        part_one from to from_place to_place (after_zero to.num to.den from.num from.den (positive_num to.num k) zero one) (inl zero) (inr (inr (on_at c e.a e.b to.num to.den (nothing_before f g to.num to.den k l))))
        (λ n m hn hm. ((λ h. (after_zero n m from.num from.den hn zero one, (before f g n m to.num to.den k l).0 h)), (λ h. (before f g n m to.num to.den k l).1 h.1)))
      where
        positive_num : (k : ℤ) → k ≡ pos 0 -ℤ f → pos 0 <ℤ k
        positive_num k e = omega (arith, ints, first)

    pub part_after : pos 0 ≤ℤ f → g <ℤ pos 0 → from.num ≡ pos (unsigned_abs f) → from.den ≡ pos (unsigned_abs f + unsigned_abs g) → to.num ≡ pos 1 → to.den ≡ pos 1 → IsPartBeyond c e (record { from = from; to = to } ∷ [])
    part_after first second num den last whole =
        let k = fall_num f from.num first num in
        let l = fall_den f g from.den first second den in
        part_one from to from_place to_place (before_one from.num from.den to.num to.den (less_den from.num from.den k l) last whole) (inr (inr (on_at c e.a e.b from.num from.den (nothing_after f g from.num from.den k l)))) (inr (inl (last ∙ sym whole)))
        (λ n m hn hm. ((λ h. ((after f g n m from.num from.den k l).0 h, before_one n m to.num to.den hm last whole)), (λ h. (after f g n m from.num from.den k l).1 h.0)))
      where
        less_den : (k l : ℤ) → k ≡ f → l ≡ f -ℤ g → k <ℤ l
        less_den k l e h = omega (arith, ints, second)

  pub part_none : pos 0 ≤ℤ f → pos 0 ≤ℤ g → IsPartBeyond c e []
  part_none first second = record {
    stretches = λ k y h. absurd (omega arith);
    ends = λ k y h. absurd (omega arith);
    exactly = λ n m hn hm. (
      (λ beyond. absurd (below_none f g n m first second hn hm ((beyond_at c e.a e.b n m).0 beyond))),
      (λ within. absurd (within_none n m within)),
    );
  }
