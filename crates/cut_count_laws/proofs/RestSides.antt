-- On which sides of an edge's line are the ends of what the plane leaves of a side, by the values of the side's corners.
use Rattle.std.proofs.Common.{◌≡◌, ◌⊎◌, ℕ, ◌+◌, zero, suc, inl, inr, [], ◌∷◌, refl, sym, ap, subst, ◌∙◌, arith, Bool, true, false}
use Rattle.std.specs.Prelude.{◌↔◌, ℤ, pos, negsuc, ◌+ℤ◌, ◌-ℤ◌, ◌*ℤ◌, ◌<ℤ◌, unsigned_abs, cond}
use Rattle.std.specs.Int.Signed.{lt_z}
use Rattle.std.proofs.lemmas.Int.{ints}
use Rattle.integers.proofs.Comparisons.{positive_at}
use Rattle.integers.proofs.Ring.{Expr, var, con, ◌⊕◌, ◌⊖◌, ◌⊗◌, ring}
use Rattle.integers.proofs.Signs.{mul_pos, mul_neg, pos_of_mul}
use Rattle.lattice.specs.declared.points.Corner.{Corner}
use Rattle.lattice.specs.Triple.{Triple, right_axis, up_axis}
use Rattle.lattice.specs.Points.{Point, point_of}
use Rattle.lattice.specs.Cuts.{Plane, toward_of, IsBeyond}
use Rattle.lattice.proofs.SightLines.{right_axis-is}
use Rattle.geometry.specs.Cuts.{over_of, crossing_of}
use Rattle.geometry.specs.Faces.{edge_sum}
use Rattle.geometry.specs.Parts.{Part, Edge}
use Rattle.geometry.proofs.Borders.{over_beyond, over_before, side_of_corner}
use Rattle.geometry.proofs.FacePoints.{dot-edge_sum}
use Rattle.hiding_laws.specs.Values.{side_of}
use Rattle.hiding_laws.proofs.Screens.{Screen, area_of, turn_of}
use Rattle.hiding_laws.proofs.ScreenScale.{turn_scale}
use Rattle.geometry.specs.Counts.{Side, to_left, to_right}
use Rattle.geometry.specs.Shares.{mark}
use Rattle.hiding_laws.proofs.Seen.{on, scale, scale_pos, mark_pos, mark_neg}
use Rattle.cut_count_laws.specs.CutEnds.{cut_end, PointStandsOn}
use Rattle.cut_count_laws.specs.CutCovers.{RestOfSideReaches}
use Rattle.cut_plane.proofs.Tested.{less_of}
use Rattle.hiding_laws.proofs.Near.{tilt}

-- ---- marks and sides do not change with a scale

pub mark_scale : (k : Side) (s z : ℤ) → pos 0 <ℤ s → mark k (s *ℤ z) ≡ mark k z
mark_scale k s (pos zero) h = ap (mark k) (ring (s ∷ []) (var 0 ⊗ con (pos 0)) (con (pos 0)) refl)
mark_scale k s (pos (suc n)) h = mark_pos k _ (mul_pos s (pos (suc n)) h (omega (arith, ints))) ∙ sym (mark_pos k (pos (suc n)) (omega (arith, ints)))
mark_scale k s (negsuc n) h = mark_neg k _ (mul_neg s (negsuc n) h (omega (arith, ints))) ∙ sym (mark_neg k (negsuc n) (omega (arith, ints)))

sided_scale : (k : Side) (s z : ℤ) → tilt k (s *ℤ z) ≡ s *ℤ tilt k z
sided_scale to_left s z = refl
sided_scale to_right s z = ring (s ∷ z ∷ []) (con (pos 0) ⊖ (var 0 ⊗ var 1)) (var 0 ⊗ (con (pos 0) ⊖ var 1)) refl

pub sided_sum : (k : Side) (a b x y : ℤ) → tilt k ((a *ℤ x) +ℤ (b *ℤ y)) ≡ (a *ℤ tilt k x) +ℤ (b *ℤ tilt k y)
sided_sum to_left a b x y = refl
sided_sum to_right a b x y = ring (a ∷ b ∷ x ∷ y ∷ []) (con (pos 0) ⊖ ((var 0 ⊗ var 2) ⊕ (var 1 ⊗ var 3))) ((var 0 ⊗ (con (pos 0) ⊖ var 2)) ⊕ (var 1 ⊗ (con (pos 0) ⊖ var 3))) refl

pub sided_pos : (k : Side) (s z : ℤ) → pos 0 <ℤ s → (pos 0 <ℤ tilt k (s *ℤ z)) ↔ (pos 0 <ℤ tilt k z)
sided_pos k s z s_pos = (
  (λ h. pos_of_mul s _ s_pos (positive_at _ _ (sym (sided_scale k s z)) h)),
  (λ h. positive_at _ _ (sided_scale k s z) (mul_pos s _ s_pos h)),
)

module _ (d : Triple) (a b : Corner) where
  -- twice the area of the triangle of the edge and a corner, as they are seen
  abbrev pub value : Corner → ℤ
  value x = area_of (on d a) (on d b) (on d x)

  corner_value : (x : Corner) → scale d *ℤ side_of d a b (point_of x) ≡ value x
  corner_value x = sym (turn_scale d (right_axis d) (right_axis-is d).level a b (point_of x)) ∙ flat (on d x) (on d a) (on d b) refl
    where
      flat : (s p q : Screen) → s.w ≡ pos 1 → turn_of s p q ≡ area_of p q s
      flat s p q e =
          (λ r. turn_of record { u = s.u; v = s.v; h = s.h; w = e r } p q)
          ∙ ring (s.u ∷ s.v ∷ p.u ∷ p.v ∷ q.u ∷ q.v ∷ [])
          (((var 0 ⊗ (var 3 ⊖ var 5)) ⊖ (var 1 ⊗ (var 2 ⊖ var 4))) ⊕ (con (pos 1) ⊗ ((var 2 ⊗ var 5) ⊖ (var 4 ⊗ var 3))))
          (((var 4 ⊖ var 2) ⊗ (var 1 ⊖ var 3)) ⊖ ((var 5 ⊖ var 3) ⊗ (var 0 ⊖ var 2))) refl

  sum_value : (x y : Corner) (i j : ℕ) → scale d *ℤ side_of d a b (edge_sum x y i j) ≡ (pos i *ℤ value x) +ℤ (pos j *ℤ value y)
  sum_value x y i j =
      sym (turn_scale d (right_axis d) (right_axis-is d).level a b (edge_sum x y i j))
      ∙ (λ r. turn_of record { u = dot-edge_sum (right_axis d) x y i j r; v = dot-edge_sum (up_axis d) x y i j r; h = pos 0; w = pos (i + j) } (on d a) (on d b))
      ∙ sums (on d x) (on d y) (on d a) (on d b) (pos i) (pos j)
    where
      sums : (x y p q : Screen) (i j : ℤ) → turn_of record { u = (i *ℤ x.u) +ℤ (j *ℤ y.u); v = (i *ℤ x.v) +ℤ (j *ℤ y.v); h = pos 0; w = i +ℤ j } p q ≡ (i *ℤ area_of p q x) +ℤ (j *ℤ area_of p q y)
      sums x y p q i j =
          let area = λ (u v : Expr). ((var 6 ⊖ var 4) ⊗ (v ⊖ var 5)) ⊖ ((var 7 ⊖ var 5) ⊗ (u ⊖ var 4)) in
          ring (x.u ∷ x.v ∷ y.u ∷ y.v ∷ p.u ∷ p.v ∷ q.u ∷ q.v ∷ i ∷ j ∷ [])
          (((((var 8 ⊗ var 0) ⊕ (var 9 ⊗ var 2)) ⊗ (var 5 ⊖ var 7)) ⊖ (((var 8 ⊗ var 1) ⊕ (var 9 ⊗ var 3)) ⊗ (var 4 ⊖ var 6))) ⊕ ((var 8 ⊕ var 9) ⊗ ((var 4 ⊗ var 7) ⊖ (var 6 ⊗ var 5))))
          ((var 8 ⊗ area (var 0) (var 1)) ⊕ (var 9 ⊗ area (var 2) (var 3))) refl

  stands_where : (k : Side) (p : Point) (v : ℤ) → scale d *ℤ side_of d a b p ≡ v → PointStandsOn k d a b p ↔ (pos 0 <ℤ tilt k v)
  stands_where k p v e = subst (λ v. PointStandsOn k d a b p ↔ (pos 0 <ℤ tilt k v)) e (by k)
    where
      up : (z : ℤ) → z <ℤ pos 0 → pos 0 <ℤ (pos 0 -ℤ z)
      up z h = omega (arith, ints)

      down : (z : ℤ) → pos 0 <ℤ (pos 0 -ℤ z) → z <ℤ pos 0
      down z h = omega (arith, ints)

      by : (k : Side) → PointStandsOn k d a b p ↔ (pos 0 <ℤ tilt k (scale d *ℤ side_of d a b p))
      by to_left = ((λ h. mul_pos _ _ (scale_pos d) h), (λ h. pos_of_mul _ _ (scale_pos d) h))
      by to_right = ((λ h. (sided_pos to_right (scale d) (side_of d a b p) (scale_pos d)).1 (up _ h)), (λ h. down _ ((sided_pos to_right (scale d) (side_of d a b p) (scale_pos d)).0 h)))

  mark_where : (k : Side) (p : Point) (v : ℤ) → scale d *ℤ side_of d a b p ≡ v → mark k (side_of d a b p) ≡ mark k v
  mark_where k p v e = sym (mark_scale k (scale d) (side_of d a b p) (scale_pos d)) ∙ ap (mark k) e

-- ---- the ends of what is left of a side
less_is : {A : Type 0} (z : ℤ) (x y : A) → z <ℤ pos 0 → cond (lt_z z (pos 0)) x y ≡ x
less_is (pos n) x y h = absurd (omega (arith, ints))
less_is (negsuc n) x y h = refl

more_is : {A : Type 0} (z : ℤ) (x y : A) → pos 0 <ℤ z → cond (lt_z z (pos 0)) x y ≡ y
more_is z x y h = by (lt_z z (pos 0)) refl
  where
    both : (z : ℤ) → z <ℤ pos 0 → pos 0 <ℤ z → ⊥
    both z h l = omega (arith, ints)

    by : (b : Bool) → lt_z z (pos 0) ≡ b → cond b x y ≡ y
    by false e = refl
    by true e = absurd (both z (less_of z (pos 0) e) h)

module _ (k : Side) (c : Plane) {s : Part} (e : Edge s) where
  abbrev at : Corner → ℤ
  at x = value (toward_of c) e.a e.b x

  -- the value where the side from x to y crosses the plane, times the distances' sum
  abbrev pub cut_value : Corner → Corner → ℤ
  cut_value x y = (pos (unsigned_abs (over_of c y)) *ℤ at x) +ℤ (pos (unsigned_abs (over_of c x)) *ℤ at y)

  pub cut_value_back : (x y : Corner) → cut_value x y ≡ cut_value y x
  cut_value_back x y = ring (pos (unsigned_abs (over_of c y)) ∷ at x ∷ pos (unsigned_abs (over_of c x)) ∷ at y ∷ []) ((var 0 ⊗ var 1) ⊕ (var 2 ⊗ var 3)) ((var 2 ⊗ var 3) ⊕ (var 0 ⊗ var 1)) refl

  stands_corner : (x y : Corner) → over_of c x <ℤ pos 0 → PointStandsOn k (toward_of c) e.a e.b (cut_end c x y) ↔ (pos 0 <ℤ tilt k (at x))
  stands_corner x y h = subst (λ p. PointStandsOn k (toward_of c) e.a e.b p ↔ (pos 0 <ℤ tilt k (at x))) (sym (less_is (over_of c x) (point_of x) (crossing_of c x y) h))
      (stands_where (toward_of c) e.a e.b k (point_of x) _ (corner_value (toward_of c) e.a e.b x))

  stands_crossing : (x y : Corner) → pos 0 <ℤ over_of c x → PointStandsOn k (toward_of c) e.a e.b (cut_end c x y) ↔ (pos 0 <ℤ tilt k (cut_value x y))
  stands_crossing x y h = subst (λ p. PointStandsOn k (toward_of c) e.a e.b p ↔ (pos 0 <ℤ tilt k (cut_value x y))) (sym (more_is (over_of c x) (point_of x) (crossing_of c x y) h))
      (stands_where (toward_of c) e.a e.b k (crossing_of c x y) _ (sum_value (toward_of c) e.a e.b x y (unsigned_abs (over_of c y)) (unsigned_abs (over_of c x))))

  pub mark_corner : (x y : Corner) → over_of c x <ℤ pos 0 → mark k (side_of (toward_of c) e.a e.b (cut_end c x y)) ≡ mark k (at x)
  mark_corner x y h = ap (λ p. mark k (side_of (toward_of c) e.a e.b p)) (less_is (over_of c x) (point_of x) (crossing_of c x y) h)
      ∙ mark_where (toward_of c) e.a e.b k (point_of x) _ (corner_value (toward_of c) e.a e.b x)

  pub mark_crossing_of : (x y : Corner) → mark k (side_of (toward_of c) e.a e.b (crossing_of c x y)) ≡ mark k (cut_value x y)
  mark_crossing_of x y = mark_where (toward_of c) e.a e.b k (crossing_of c x y) _ (sum_value (toward_of c) e.a e.b x y (unsigned_abs (over_of c y)) (unsigned_abs (over_of c x)))

  pub mark_crossing : (x y : Corner) → pos 0 <ℤ over_of c x → mark k (side_of (toward_of c) e.a e.b (cut_end c x y)) ≡ mark k (cut_value x y)
  mark_crossing x y h = ap (λ p. mark k (side_of (toward_of c) e.a e.b p)) (more_is (over_of c x) (point_of x) (crossing_of c x y) h) ∙ mark_crossing_of x y

  beyond_of : (x : Corner) → over_of c x <ℤ pos 0 → IsBeyond c (point_of x)
  beyond_of x h = elim (side_of_corner c x) [ inl b ↦ b | inr b ↦ absurd (both _ h (over_before c x b)) ]
    where
      both : (z : ℤ) → z <ℤ pos 0 → pos 0 <ℤ z → ⊥
      both z h l = omega (arith, ints)

  not_beyond : (x : Corner) → pos 0 <ℤ over_of c x → ¬ IsBeyond c (point_of x)
  not_beyond x h b = both _ (over_beyond c x b) h
    where
      both : (z : ℤ) → z <ℤ pos 0 → pos 0 <ℤ z → ⊥
      both z h l = omega (arith, ints)

  -- a side beyond the plane, one that goes beyond it, and one that is before it
  pub reaches_whole : (x y : Corner) → over_of c x <ℤ pos 0 → over_of c y <ℤ pos 0
      → RestOfSideReaches k c e x y ↔ ((pos 0 <ℤ tilt k (at x)) ⊎ (pos 0 <ℤ tilt k (at y)))
  reaches_whole x y h l = (
    (λ r. elim r.reaches [ inl a ↦ inl ((stands_corner x y h).0 a) | inr a ↦ inr ((stands_corner y x l).0 a) ]),
    (λ r. record { left = inl (beyond_of x h); reaches = elim r [ inl a ↦ inl ((stands_corner x y h).1 a) | inr a ↦ inr ((stands_corner y x l).1 a) ] }),
  )

  pub reaches_going : (x y : Corner) → pos 0 <ℤ over_of c x → over_of c y <ℤ pos 0
      → RestOfSideReaches k c e x y ↔ ((pos 0 <ℤ tilt k (cut_value x y)) ⊎ (pos 0 <ℤ tilt k (at y)))
  reaches_going x y h l = (
    (λ r. elim r.reaches [ inl a ↦ inl ((stands_crossing x y h).0 a) | inr a ↦ inr ((stands_corner y x l).0 a) ]),
    (λ r. record { left = inr (beyond_of y l); reaches = elim r [ inl a ↦ inl ((stands_crossing x y h).1 a) | inr a ↦ inr ((stands_corner y x l).1 a) ] }),
  )

  pub reaches_back : (x y : Corner) → over_of c x <ℤ pos 0 → pos 0 <ℤ over_of c y
      → RestOfSideReaches k c e x y ↔ ((pos 0 <ℤ tilt k (at x)) ⊎ (pos 0 <ℤ tilt k (cut_value y x)))
  reaches_back x y h l = (
    (λ r. elim r.reaches [ inl a ↦ inl ((stands_corner x y h).0 a) | inr a ↦ inr ((stands_crossing y x l).0 a) ]),
    (λ r. record { left = inl (beyond_of x h); reaches = elim r [ inl a ↦ inl ((stands_corner x y h).1 a) | inr a ↦ inr ((stands_crossing y x l).1 a) ] }),
  )

  pub reaches_none : (x y : Corner) → pos 0 <ℤ over_of c x → pos 0 <ℤ over_of c y → ¬ RestOfSideReaches k c e x y
  reaches_none x y h l r = elim r.left [ inl b ↦ not_beyond x h b | inr b ↦ not_beyond y l b ]
