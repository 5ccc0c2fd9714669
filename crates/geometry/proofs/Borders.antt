-- Borders: how high sums of corners are above the plane of a cut, where sides cross it, and that border points are never hidden.
use Rattle.std.proofs.Common.{◌≡◌, ℕ, suc, zero, ◌+◌, ◌<◌, ◌⊎◌, inl, inr, [], ◌∷◌, refl, subst, ◌∙◌, unsigned_abs, arith}
use Rattle.std.specs.Prelude.{ℤ, pos, ◌+ℤ◌, ◌-ℤ◌, ◌*ℤ◌, ◌<ℤ◌}
use Rattle.std.proofs.lemmas.Int.{ints, by_lt_z}
use Rattle.integers.proofs.Absolutes.{pos-sum_of_three, pos-sum, abs_of_positive, abs_of_negative}
use Rattle.integers.proofs.Comparisons.{gap_of_same, same_of_both}
use Rattle.integers.proofs.Ring.{Expr, var, con, ◌⊕◌, ◌⊖◌, ◌⊗◌, ring, by_one, same_of_gap}
use Rattle.lattice.specs.declared.points.Corner.{Corner}
use Rattle.lattice.specs.Triple.{Triple, dot}
use Rattle.lattice.specs.Points.{Point, point_of, scaled, height_of}
use Rattle.lattice.specs.Cuts.{Plane, toward_of, plane_height, IsBeyond, IsOnPlane, IsBeforePlane}
use Rattle.lattice.proofs.CutSides.{corner_off_plane}
use Rattle.lattice.proofs.Vectors.{letters, dots}
use Rattle.geometry.specs.Faces.{face_sum, edge_sum, IsPointOfEdge}
use Rattle.geometry.specs.Parts.{Part, Face}
use Rattle.geometry.specs.Cuts.{start_corner, end_corner, over_of, GoesBeyond, crossing_of, IsBorderOf, IsCrossed, IsHiddenInCut}

-- ---- heights above the plane
-- twice the height of a point above the plane, times w
abbrev pub rise_of : Plane → Point → ℤ
rise_of c p = (pos 2 *ℤ height_of (toward_of c) p) -ℤ (plane_height c *ℤ p.w)

-- a sum of three corners, with d the direction and h twice the plane's height
three_rise : (d : Triple) (h : ℤ) (k l m : Corner) (i j n w : ℤ) → w ≡ (i +ℤ j) +ℤ n
    → (pos 2 *ℤ dot d (record { x = ((i *ℤ k.x) +ℤ (j *ℤ l.x)) +ℤ (n *ℤ m.x); y = ((i *ℤ k.y) +ℤ (j *ℤ l.y)) +ℤ (n *ℤ m.y); z = ((i *ℤ k.z) +ℤ (j *ℤ l.z)) +ℤ (n *ℤ m.z) })) -ℤ (h *ℤ w)
    ≡ ((i *ℤ ((pos 2 *ℤ dot d (scaled (point_of k))) -ℤ h)) +ℤ (j *ℤ ((pos 2 *ℤ dot d (scaled (point_of l))) -ℤ h))) +ℤ (n *ℤ ((pos 2 *ℤ dot d (scaled (point_of m))) -ℤ h))
three_rise d h k l m i j n w e =
    by_one _ _ w ((i +ℤ j) +ℤ n) (pos 0 -ℤ h)
    (ring (d.x ∷ d.y ∷ d.z ∷ k.x ∷ k.y ∷ k.z ∷ l.x ∷ l.y ∷ l.z ∷ m.x ∷ m.y ∷ m.z ∷ i ∷ j ∷ n ∷ w ∷ h ∷ [])
    (((con (pos 2) ⊗ dots (letters 0) (record { x = mixed 3 6 9; y = mixed 4 7 10; z = mixed 5 8 11 })) ⊖ (var 16 ⊗ var 15))
    ⊖ (((var 12 ⊗ over 3) ⊕ (var 13 ⊗ over 6)) ⊕ (var 14 ⊗ over 9)))
    ((var 15 ⊖ ((var 12 ⊕ var 13) ⊕ var 14)) ⊗ (con (pos 0) ⊖ var 16)) refl) e
  where
    mixed : ℕ → ℕ → ℕ → Expr
    mixed a b c = ((var 12 ⊗ var a) ⊕ (var 13 ⊗ var b)) ⊕ (var 14 ⊗ var c)

    over : ℕ → Expr
    over a = (con (pos 2) ⊗ dots (letters 0) (letters a)) ⊖ var 16

-- a sum of two
two_rise : (d : Triple) (h : ℤ) (k l : Corner) (i j w : ℤ) → w ≡ i +ℤ j
    → (pos 2 *ℤ dot d (record { x = (i *ℤ k.x) +ℤ (j *ℤ l.x); y = (i *ℤ k.y) +ℤ (j *ℤ l.y); z = (i *ℤ k.z) +ℤ (j *ℤ l.z) })) -ℤ (h *ℤ w)
    ≡ (i *ℤ ((pos 2 *ℤ dot d (scaled (point_of k))) -ℤ h)) +ℤ (j *ℤ ((pos 2 *ℤ dot d (scaled (point_of l))) -ℤ h))
two_rise d h k l i j w e =
    by_one _ _ w (i +ℤ j) (pos 0 -ℤ h)
    (ring (d.x ∷ d.y ∷ d.z ∷ k.x ∷ k.y ∷ k.z ∷ l.x ∷ l.y ∷ l.z ∷ i ∷ j ∷ w ∷ h ∷ [])
    (((con (pos 2) ⊗ dots (letters 0) (record { x = mixed 3 6; y = mixed 4 7; z = mixed 5 8 })) ⊖ (var 12 ⊗ var 11))
    ⊖ ((var 9 ⊗ over 3) ⊕ (var 10 ⊗ over 6)))
    ((var 11 ⊖ (var 9 ⊕ var 10)) ⊗ (con (pos 0) ⊖ var 12)) refl) e
  where
    mixed : ℕ → ℕ → Expr
    mixed a b = (var 9 ⊗ var a) ⊕ (var 10 ⊗ var b)

    over : ℕ → Expr
    over a = (con (pos 2) ⊗ dots (letters 0) (letters a)) ⊖ var 12

module _ (c : Plane) where
  pub face_rise : (k l m : Corner) (i j n : ℕ) → rise_of c (face_sum k l m i j n) ≡ ((pos i *ℤ over_of c k) +ℤ (pos j *ℤ over_of c l)) +ℤ (pos n *ℤ over_of c m)
  face_rise k l m i j n = three_rise (toward_of c) (plane_height c) k l m (pos i) (pos j) (pos n) (pos (i + j + n)) (pos-sum_of_three i j n)

  pub edge_rise : (k l : Corner) (i j : ℕ) → rise_of c (edge_sum k l i j) ≡ (pos i *ℤ over_of c k) +ℤ (pos j *ℤ over_of c l)
  edge_rise k l i j = two_rise (toward_of c) (plane_height c) k l (pos i) (pos j) (pos (i + j)) (pos-sum i j)

  -- ---- the sign of the height tells the side
  pub rise_beyond : (p : Point) → IsBeyond c p → rise_of c p <ℤ pos 0
  rise_beyond p h = go (pos 2 *ℤ height_of (toward_of c) p) (plane_height c *ℤ p.w) h
    where
      go : (x y : ℤ) → x <ℤ y → (x -ℤ y) <ℤ pos 0
      go x y h = omega (arith, ints)

  pub rise_before : (p : Point) → IsBeforePlane c p → pos 0 <ℤ rise_of c p
  rise_before p h = go (pos 2 *ℤ height_of (toward_of c) p) (plane_height c *ℤ p.w) h
    where
      go : (x y : ℤ) → y <ℤ x → pos 0 <ℤ (x -ℤ y)
      go x y h = omega (arith, ints)

  pub rise_on : (p : Point) → IsOnPlane c p → rise_of c p ≡ pos 0
  rise_on p h = gap_of_same (pos 2 *ℤ height_of (toward_of c) p) (plane_height c *ℤ p.w) h

  pub on_of_rise : (p : Point) → rise_of c p ≡ pos 0 → IsOnPlane c p
  on_of_rise p h = same_of_gap (pos 2 *ℤ height_of (toward_of c) p) (plane_height c *ℤ p.w) h

  over_is : (k : Corner) → rise_of c (point_of k) ≡ over_of c k
  over_is k = go (pos 2 *ℤ height_of (toward_of c) (point_of k)) (plane_height c)
    where
      go : (x y : ℤ) → x -ℤ (y *ℤ pos 1) ≡ x -ℤ y
      go x y = omega (arith, ints)

  pub over_beyond : (k : Corner) → IsBeyond c (point_of k) → over_of c k <ℤ pos 0
  over_beyond k h = let P : ℤ → Type 0 = λ z. z <ℤ pos 0 in subst P (over_is k) (rise_beyond (point_of k) h)

  pub over_before : (k : Corner) → IsBeforePlane c (point_of k) → pos 0 <ℤ over_of c k
  over_before k h = let P : ℤ → Type 0 = λ z. pos 0 <ℤ z in subst P (over_is k) (rise_before (point_of k) h)

  -- a corner is on one side or the other
  pub side_of_corner : (k : Corner) → IsBeyond c (point_of k) ⊎ IsBeforePlane c (point_of k)
  side_of_corner k =
      let x = pos 2 *ℤ height_of (toward_of c) (point_of k) in
      let y = plane_height c *ℤ pos 1 in
      by_lt_z x y inl (λ h. by_lt_z y x inr (λ g. absurd (corner_off_plane c k (same_of_both x y g h))))

  pub not_both_sides : (p : Point) → IsBeyond c p → IsBeforePlane c p → ⊥
  not_both_sides p h g = go (pos 2 *ℤ height_of (toward_of c) p) (plane_height c *ℤ p.w) h g
    where
      go : (x y : ℤ) → x <ℤ y → y <ℤ x → ⊥
      go x y h g = omega (arith, ints)

  -- ---- crossings of sides
  pub crossing_on_side : (k l : Corner) → GoesBeyond c k l → IsPointOfEdge k l (crossing_of c k l)
  crossing_on_side k l h = (unsigned_abs (over_of c l), unsigned_abs (over_of c k), some (over_of c k) (over_of c l) (over_before k h.0), refl)
    where
      some : (x y : ℤ) → pos 0 <ℤ x → 0 < unsigned_abs y + unsigned_abs x
      some x y h = omega (arith, ints)

  pub crossing_on_plane : (k l : Corner) → GoesBeyond c k l → IsOnPlane c (crossing_of c k l)
  crossing_on_plane k l h =
      on_of_rise (crossing_of c k l) (edge_rise k l (unsigned_abs (over_of c l)) (unsigned_abs (over_of c k)) ∙ balance (over_of c k) (over_of c l) (over_before k h.0) (over_beyond l h.1))
    where
      balance : (x y : ℤ) → pos 0 <ℤ x → y <ℤ pos 0 → (pos (unsigned_abs y) *ℤ x) +ℤ (pos (unsigned_abs x) *ℤ y) ≡ pos 0
      balance x y h g =
          (λ i. (abs_of_negative y g i *ℤ x) +ℤ (abs_of_positive x h i *ℤ y))
          ∙ ring (x ∷ y ∷ []) (((con (pos 0) ⊖ var 1) ⊗ var 0) ⊕ (var 0 ⊗ var 1)) (con (pos 0)) refl

  -- ---- points on the plane are never hidden
  pub on_plane_is_visible : (s : Part) (p : Point) → IsOnPlane c p → ¬ IsHiddenInCut c s p
  on_plane_is_visible s p on hidden = go (pos 2 *ℤ height_of (toward_of c) p) (plane_height c *ℤ p.w) on hidden.0
    where
      go : (x y : ℤ) → x ≡ y → x <ℤ y → ⊥
      go x y e h = omega (arith, ints)

-- ---- the border of a face
module _ (c : Plane) {s : Part} (f : Face s) where
  border_by : (first second : ℕ) → first < 3 → second < 3 → GoesBeyond c (start_corner f first) (end_corner f first) → GoesBeyond c (end_corner f second) (start_corner f second)
      → (p : Point) × (q : Point) × IsBorderOf c f p q
  border_by first second in_first in_second goes returns = (
    crossing_of c (start_corner f first) (end_corner f first),
    crossing_of c (end_corner f second) (start_corner f second),
    record { first = first; second = second; first_side = in_first; second_side = in_second; goes = goes; returns = returns; from = refl; to = refl },
  )

  -- a face with corners on both sides has one
  pub border_of_crossed : IsCrossed c f → (p : Point) × (q : Point) × IsBorderOf c f p q
  border_of_crossed h = by (side_of_corner c f.a) (side_of_corner c f.b) (side_of_corner c f.c)
    where
      by : IsBeyond c (point_of f.a) ⊎ IsBeforePlane c (point_of f.a) → IsBeyond c (point_of f.b) ⊎ IsBeforePlane c (point_of f.b) → IsBeyond c (point_of f.c) ⊎ IsBeforePlane c (point_of f.c)
          → (p : Point) × (q : Point) × IsBorderOf c f p q
      by (inl a) (inl b) (inl d) = none_before h.before
        where
          none_before : IsBeforePlane c (point_of f.a) ⊎ IsBeforePlane c (point_of f.b) ⊎ IsBeforePlane c (point_of f.c) → (p : Point) × (q : Point) × IsBorderOf c f p q
          none_before (inl x) = absurd (not_both_sides c (point_of f.a) a x)
          none_before (inr (inl x)) = absurd (not_both_sides c (point_of f.b) b x)
          none_before (inr (inr x)) = absurd (not_both_sides c (point_of f.c) d x)
      by (inl a) (inl b) (inr d) = border_by 2 1 (omega arith) (omega arith) (d, a) (d, b)
      by (inl a) (inr b) (inl d) = border_by 1 0 (omega arith) (omega arith) (b, d) (b, a)
      by (inl a) (inr b) (inr d) = border_by 2 0 (omega arith) (omega arith) (d, a) (b, a)
      by (inr a) (inl b) (inl d) = border_by 0 2 (omega arith) (omega arith) (a, b) (a, d)
      by (inr a) (inl b) (inr d) = border_by 0 1 (omega arith) (omega arith) (a, b) (d, b)
      by (inr a) (inr b) (inl d) = border_by 1 2 (omega arith) (omega arith) (b, d) (a, d)
      by (inr a) (inr b) (inr d) = none_beyond h.beyond
        where
          none_beyond : IsBeyond c (point_of f.a) ⊎ IsBeyond c (point_of f.b) ⊎ IsBeyond c (point_of f.c) → (p : Point) × (q : Point) × IsBorderOf c f p q
          none_beyond (inl x) = absurd (not_both_sides c (point_of f.a) x a)
          none_beyond (inr (inl x)) = absurd (not_both_sides c (point_of f.b) x b)
          none_beyond (inr (inr x)) = absurd (not_both_sides c (point_of f.c) x d)

  -- and no other has
  pub crossed_of_border : (p q : Point) → IsBorderOf c f p q → IsCrossed c f
  crossed_of_border p q h = by h.first h.goes
    where
      by : (first : ℕ) → GoesBeyond c (start_corner f first) (end_corner f first) → IsCrossed c f
      by zero goes = record { before = inl goes.0; beyond = inr (inl goes.1) }
      by (suc zero) goes = record { before = inr (inl goes.0); beyond = inr (inr goes.1) }
      by (suc (suc n)) goes = record { before = inr (inr goes.0); beyond = inl goes.1 }
