-- The part of an edge that is beyond the plane: where a value that is linear along it is positive.
use Rattle.std.proofs.Common.{◌≡◌, inl, inr, [], ◌∷◌, Option, Some, None, sym, ap, subst, ◌∙◌, refl, arith}
use Rattle.std.specs.Prelude.{ℤ, pos, ◌-ℤ◌, ◌*ℤ◌, ◌<ℤ◌, ◌≤ℤ◌, IfSome, IfNone, option_to_list}
use Rattle.std.proofs.lemmas.Int.{ints, by_lt_z}
use Rattle.geometry.proofs.FacePoints.{edge_point-at_share}
use Rattle.integers.proofs.Comparisons.{at_most_of_less, at_most_of_same, positive_not_zero, times_zero, same_of_both, less_not_at_most, positive_of_more}
use Rattle.integers.proofs.Ring.{var, ◌⊕◌, ◌⊖◌, ◌⊗◌, ring, gap_of_less}
use Rattle.integers.proofs.Signs.{mul_neg, mul_nonneg, zero_of_mul}
use Rattle.exact_frac.specs.declared.Frac.{Frac}
use Rattle.lattice.specs.Cuts.{Plane, toward_of, IsBeyond}
use Rattle.geometry.specs.Faces.{share_point}
use Rattle.geometry.specs.Parts.{Part, Edge}
use Rattle.geometry.specs.Cuts.{IsOrdinaryInCut}
use Rattle.hiding_laws.specs.Values.{value_at}
use Rattle.hiding_laws.specs.CutValues.{below_of}
use Rattle.hiding_laws.proofs.CutPlanes.{below-beyond, below-on, corner-not-level, below-share, ordinary-in-plain}
use Rattle.hiding_laws.proofs.FrontEnds.{not-at-start, not-at-finish}
use Rattle.intervals.specs.declared.interval.Interval.{Interval}
use Rattle.span_slow.specs.declared.linear.Linear.{Linear}
use Rattle.geometry.specs.Places.{point_at, IsPlace, IsEarlier, IsBetween, IsFromTo}
use Rattle.span_slow.specs.inner.Hidden.{IsRootOrEnd, IsWhereNonnegative}
use Rattle.cut_plane.specs.Beyond.{IsStretch, IsPartEnd, IsPartBeyond}
use Rattle.span_slow.proofs.LinearValues.{level_value}
use Rattle.geometry.proofs.PlaceFractions.{strict, earlier_between}
use Rattle.span_slow.proofs.Where.{Tells, told, IsRootOrEndAt, cut_at}
use Rattle.cut_plane.proofs.OneInterval.{within_none, within_one, all_one}

-- ---- a value that is at least 0 on both sides of a place is 0 there only if it is 0 all along
-- two values of what is linear
values_apart : (f g n m k l : ℤ) → (m *ℤ value_at f g k l) -ℤ (l *ℤ value_at f g n m) ≡ ((k *ℤ m) -ℤ (n *ℤ l)) *ℤ (g -ℤ f)
values_apart f g n m k l =
    ring (f ∷ g ∷ n ∷ m ∷ k ∷ l ∷ [])
    ((var 3 ⊗ (((var 5 ⊖ var 4) ⊗ var 0) ⊕ (var 4 ⊗ var 1))) ⊖ (var 5 ⊗ (((var 3 ⊖ var 2) ⊗ var 0) ⊕ (var 2 ⊗ var 1))))
    (((var 4 ⊗ var 3) ⊖ (var 2 ⊗ var 5)) ⊗ (var 1 ⊖ var 0)) refl

-- a value that is 0 here and at least 0 at another place rises toward it
rises : (f g n m k l : ℤ) → pos 0 <ℤ m → pos 0 ≤ℤ value_at f g k l → value_at f g n m ≡ pos 0 → pos 0 ≤ℤ (((k *ℤ m) -ℤ (n *ℤ l)) *ℤ (g -ℤ f))
rises f g n m k l positive least zero =
    go (m *ℤ value_at f g k l) (l *ℤ value_at f g n m) _ (values_apart f g n m k l) (mul_nonneg m _ (at_most_of_less _ _ positive) least) (nothing l _ zero)
  where
    nothing : (l v : ℤ) → v ≡ pos 0 → l *ℤ v ≡ pos 0
    nothing l v h = ap (λ (z : ℤ). l *ℤ z) h ∙ times_zero l

    go : (a b x : ℤ) → a -ℤ b ≡ x → pos 0 ≤ℤ a → b ≡ pos 0 → pos 0 ≤ℤ x
    go a b x e h k = omega (arith, ints)

level_all : (f g n m k l i j : ℤ) → pos 0 <ℤ m → (k *ℤ m) <ℤ (n *ℤ l) → (n *ℤ j) <ℤ (i *ℤ m) → pos 0 ≤ℤ value_at f g k l → pos 0 ≤ℤ value_at f g i j → value_at f g n m ≡ pos 0 → f ≡ g
level_all f g n m k l i j positive before after first second zero =
    by_lt_z f g (λ up. absurd (fall (k *ℤ m) (n *ℤ l) (g -ℤ f) before (gap_of_less f g up) (rises f g n m k l positive first zero)))
    (λ down. by_lt_z g f (λ less. absurd (climb (i *ℤ m) (n *ℤ j) (g -ℤ f) after (drop f g less) (rises f g n m i j positive second zero)))
    (λ up. same_of_both f g up down))
  where
    drop : (f g : ℤ) → g <ℤ f → (g -ℤ f) <ℤ pos 0
    drop f g h = omega (arith, ints)

    turn : (x y z : ℤ) → z *ℤ (x -ℤ y) ≡ (x -ℤ y) *ℤ z
    turn x y z = ring (x ∷ y ∷ z ∷ []) (var 2 ⊗ (var 0 ⊖ var 1)) ((var 0 ⊖ var 1) ⊗ var 2) refl

    fall : (x y z : ℤ) → x <ℤ y → pos 0 <ℤ z → pos 0 ≤ℤ ((x -ℤ y) *ℤ z) → ⊥
    fall x y z less up h = less_not_at_most (z *ℤ (x -ℤ y)) (pos 0) (mul_neg z (x -ℤ y) up (drop y x less)) (subst (λ (v : ℤ). pos 0 ≤ℤ v) (sym (turn x y z)) h)

    climb : (x y z : ℤ) → y <ℤ x → z <ℤ pos 0 → pos 0 ≤ℤ ((x -ℤ y) *ℤ z) → ⊥
    climb x y z less down h = less_not_at_most ((x -ℤ y) *ℤ z) (pos 0) (mul_neg (x -ℤ y) z (gap_of_less y x less) down) h

module _ (c : Plane) {s : Part} (e : Edge s) (v : Linear) (tells : Tells e v (below_of c)) where
  at : (n m : ℤ) → value_at v.start v.end n m ≡ below_of c (share_point e.a e.b n m)
  at n m = told e v (below_of c) n m tells (below-share c e.a e.b n m)

  module _ (x : Interval Frac) (least : IsWhereNonnegative (v ∷ []) x) where
    value_least : (n m : ℤ) → pos 0 <ℤ m → pos 0 ≤ℤ n → n ≤ℤ m → IsFromTo x.from x.to n m → pos 0 ≤ℤ value_at v.start v.end n m
    value_least n m positive first last within = ((least.exactly n m positive first last).0 within).0

    there : (n m : ℤ) → pos 0 <ℤ n → n <ℤ m → IsBeyond c (share_point e.a e.b n m) → IsBetween x.from x.to n m
    there n m hn hm beyond =
        let value : pos 0 <ℤ value_at v.start v.end n m = subst (λ (z : ℤ). pos 0 <ℤ z) (sym (at n m)) ((below-beyond c (share_point e.a e.b n m)).0 beyond) in
        let closed = (least.exactly n m (positive_of_more n m hn hm) (at_most_of_less _ _ hn) (at_most_of_less _ _ hm)).1 (at_most_of_less _ _ value, _) in (
          strict closed.0 (λ h. cut n m hn hm value (cut_at (v ∷ []) x.from n m (sym h) least.from_end)),
          strict closed.1 (λ h. cut n m hn hm value (cut_at (v ∷ []) x.to n m h least.to_end)),
        )
      where
        cut : (n m : ℤ) → pos 0 <ℤ n → n <ℤ m → pos 0 <ℤ value_at v.start v.end n m → IsRootOrEndAt (v ∷ []) n m → ⊥
        cut n m hn hm value (inl h) = omega (arith, ints)
        cut n m hn hm value (inr (inl h)) = omega (arith, ints)
        cut n m hn hm value (inr (inr (inl (changes, zero)))) = positive_not_zero _ value zero
        cut n m hn hm value (inr (inr (inr h))) = elim h [ ]

    back : IsEarlier x.from x.to → (n m : ℤ) → pos 0 <ℤ n → n <ℤ m → IsBetween x.from x.to n m → IsBeyond c (share_point e.a e.b n m)
    back earlier n m hn hm (after, before) =
        let positive = positive_of_more n m hn hm in
        (below-beyond c (share_point e.a e.b n m)).1 (subst (λ (z : ℤ). pos 0 <ℤ z) (at n m) (strict (value_least n m positive (at_most_of_less _ _ hn) (at_most_of_less _ _ hm) (at_most_of_less _ _ after, at_most_of_less _ _ before)) (λ zero.
        let same = level_all v.start v.end n m x.from.num x.from.den x.to.num x.to.den positive after before
        (value_least x.from.num x.from.den x.from.positive least.from_place.least least.from_place.most (at_most_of_same _ _ refl, at_most_of_less _ _ earlier))
        (value_least x.to.num x.to.den x.to.positive least.to_place.least least.to_place.most (at_most_of_less _ _ earlier, at_most_of_same _ _ refl)) (sym zero) in
        corner-not-level c e.a (sym tells.0 ∙ zero_of_mul m v.start positive (sym (level_value v.start v.end n m same) ∙ sym zero)))))

    part_end : (r : Frac) → IsRootOrEnd (v ∷ []) r → IsPartEnd c e r
    part_end r (inl h) = inl h
    part_end r (inr (inl h)) = inr (inl h)
    part_end r (inr (inr (inl (changes, zero)))) = inr (inr (below-on c (point_at e r) (sym (at r.num r.den) ∙ zero)))
    part_end r (inr (inr (inr h))) = elim h [ ]

    part_one : IsEarlier x.from x.to → IsPartBeyond c e (x ∷ [])
    part_one earlier = record {
      stretches = all_one IsStretch x (record { from_place = least.from_place; to_place = least.to_place; earlier = earlier });
      ends = all_one (λ x. IsPartEnd c e x.from × IsPartEnd c e x.to) x (part_end x.from least.from_end, part_end x.to least.to_end);
      exactly = λ n m hn hm. ((λ beyond. (within_one x n m).0 (there n m hn hm beyond)), (λ within. back earlier n m hn hm ((within_one x n m).1 within)));
    }

    part_none : ¬ IsEarlier x.from x.to → IsPartBeyond c e []
    part_none later = record {
      stretches = λ k y h. absurd (omega arith);
      ends = λ k y h. absurd (omega arith);
      exactly = λ n m hn hm. (
        (λ beyond.
            let between = there n m hn hm beyond in
            absurd (later (earlier_between x.from.num x.from.den x.to.num x.to.den n m x.from.positive x.to.positive (positive_of_more n m hn hm) between.0 between.1))),
        (λ within. absurd (within_none n m within)),
      );
    }

    pub part_is : (o : Option (Interval Frac)) → IfSome o (λ y. (y ≡ x) × IsEarlier x.from x.to) → IfNone o (¬ IsEarlier x.from x.to) → IsPartBeyond c e (option_to_list o)
    part_is (Some y) (same, earlier) dropped = subst (λ (z : Interval Frac). IsPartBeyond c e (z ∷ [])) (sym same) (part_one earlier)
    part_is None kept later = part_none later

-- no end of the part is at an ordinary point
pub part_end_apart : (c : Plane) (s : Part) (e : Edge s) (r : Frac) → IsPlace r → IsPartEnd c e r → ¬ IsOrdinaryInCut c s (point_at e r)
part_end_apart c s e r place (inl h) ordinary = not-at-start (toward_of c) s e r.num r.den r.positive place.least place.most h (ordinary-in-plain c s (point_at e r) ordinary)
part_end_apart c s e r place (inr (inl h)) ordinary = not-at-finish (toward_of c) s e r.num r.den r.positive place.least place.most h (ordinary-in-plain c s (point_at e r) ordinary)
part_end_apart c s e r place (inr (inr h)) ordinary =
    ordinary.off_ends e (point_at e r) (edge_point-at_share e.a e.b r.num r.den r.positive place.least place.most) h (record { across = refl; upward = refl })
