-- What a face that is edge-on hides in a cut view: where one of its sides hides, and one is beyond the plane.
use Rattle.std.proofs.Common.{◌≡◌, ◌⊎◌, inl, inr, ℕ, ◌+◌, ◌*◌, ◌<◌, List, [], ◌∷◌, refl, sym, ap, subst, ◌∙◌, arith}
use Rattle.std.specs.Prelude.{◌↔◌, ℤ, pos, negsuc, ◌+ℤ◌, ◌-ℤ◌, ◌*ℤ◌, ◌<ℤ◌, ◌≤ℤ◌}
use Rattle.std.proofs.lemmas.Int.{ints, by_lt_z}
use Rattle.integers.proofs.Absolutes.{natural_positive}
use Rattle.integers.proofs.Comparisons.{negation_not_negative, not_negative_of_positive, times_zero, sum_positive_first}
use Rattle.geometry.proofs.FacePoints.{face_point-round, face_point-of_side, dot-face_sum, dot-edge_sum}
use Rattle.integers.proofs.Ring.{var, con, ◌⊕◌, ◌⊖◌, ◌⊗◌, ring, by_two, less_by, gap_of_less}
use Rattle.integers.proofs.Signs.{mul_pos, mul_nonneg, mul_nonpos, pos_of_mul}
use Rattle.lattice.specs.declared.points.Corner.{Corner}
use Rattle.lattice.specs.Triple.{Triple, dot, right_axis, up_axis}
use Rattle.lattice.specs.Points.{Point, IsPoint, point_of, scaled, height_of, across_of, upward_of, OnOneSight, IsNearer}
use Rattle.lattice.specs.Cuts.{Plane, toward_of, plane_height, IsBeyond}
use Rattle.lattice.proofs.Vectors.{letters, dots, dot_somewhere}
use Rattle.lattice.proofs.SightLines.{right_axis-is}
use Rattle.geometry.specs.Faces.{face_sum, edge_sum, facing_of, IsFlat, IsPointOfFace, IsPointOfEdge}
use Rattle.hiding_laws.specs.Values.{WideSideHides}
use Rattle.hiding_laws.specs.CutValues.{below_of, HidesInCut, SideReaches, WideSideReaches}
use Rattle.hiding_laws.proofs.Screens.{Screen, Covers, SideCovers}
use Rattle.hiding_laws.proofs.ScreenScale.{area_scale}
use Rattle.hiding_laws.proofs.EdgeOn.{edge_on}
use Rattle.hiding_laws.proofs.OnScreens.{seen, covers_of_sum, sum_of_side_covers}
use Rattle.hiding_laws.proofs.Flatness.{together_flat}
use Rattle.hiding_laws.proofs.Hiding.{wide, wide-side-hides}
use Rattle.hiding_laws.proofs.CutPlanes.{cut-somewhere, below-beyond}

-- ---- what is beyond the plane, as it is seen from below
-- so a point is nearer than the plane where it is beyond it
abbrev lowered : Screen → Screen
lowered a = record { u = a.u; v = a.v; h = pos 0 -ℤ (pos 2 *ℤ a.h); w = a.w }

abbrev on_plane : Plane → Point → Screen
on_plane c p = record { u = across_of (toward_of c) p; v = upward_of (toward_of c) p; h = pos 0 -ℤ (plane_height c *ℤ p.w); w = p.w }

module _ (c : Plane) (p : Point) (point : IsPoint p) where
  abbrev d : Triple
  d = toward_of c

  abbrev at : Corner → Screen
  at k = lowered (seen d (point_of k))

  -- the sum h of heights with weights t is below the plane, all times w
  beyond_down : (h t l w : ℤ) → pos 0 <ℤ w → (pos 2 *ℤ h) <ℤ (l *ℤ t) → ((pos 0 -ℤ (l *ℤ w)) *ℤ t) <ℤ ((pos 0 -ℤ (pos 2 *ℤ h)) *ℤ w)
  beyond_down h t l w positive beyond =
      less_by _ _ _ (ring (h ∷ t ∷ l ∷ w ∷ []) (((con (pos 0) ⊖ (con (pos 2) ⊗ var 0)) ⊗ var 3) ⊖ ((con (pos 0) ⊖ (var 2 ⊗ var 3)) ⊗ var 1)) (var 3 ⊗ ((var 2 ⊗ var 1) ⊖ (con (pos 2) ⊗ var 0))) refl)
      (mul_pos w _ positive (gap_of_less _ _ beyond))

  beyond_up : (h t l w : ℤ) → pos 0 <ℤ w → ((pos 0 -ℤ (l *ℤ w)) *ℤ t) <ℤ ((pos 0 -ℤ (pos 2 *ℤ h)) *ℤ w) → (pos 2 *ℤ h) <ℤ (l *ℤ t)
  beyond_up h t l w positive less =
      less_by _ _ _ refl (pos_of_mul w _ positive (subst (λ (v : ℤ). pos 0 <ℤ v)
      (ring (h ∷ t ∷ l ∷ w ∷ []) (((con (pos 0) ⊖ (con (pos 2) ⊗ var 0)) ⊗ var 3) ⊖ ((con (pos 0) ⊖ (var 2 ⊗ var 3)) ⊗ var 1)) (var 3 ⊗ ((var 2 ⊗ var 1) ⊖ (con (pos 2) ⊗ var 0))) refl)
      (gap_of_less _ _ less)))

  module _ (a b e : Corner) where
    lowered_three : (i j k x y z : ℤ) → ((i *ℤ (pos 0 -ℤ (pos 2 *ℤ x))) +ℤ (j *ℤ (pos 0 -ℤ (pos 2 *ℤ y)))) +ℤ (k *ℤ (pos 0 -ℤ (pos 2 *ℤ z))) ≡ pos 0 -ℤ (pos 2 *ℤ (((i *ℤ x) +ℤ (j *ℤ y)) +ℤ (k *ℤ z)))
    lowered_three i j k x y z = ring (i ∷ j ∷ k ∷ x ∷ y ∷ z ∷ [])
        (((var 0 ⊗ (con (pos 0) ⊖ (con (pos 2) ⊗ var 3))) ⊕ (var 1 ⊗ (con (pos 0) ⊖ (con (pos 2) ⊗ var 4)))) ⊕ (var 2 ⊗ (con (pos 0) ⊖ (con (pos 2) ⊗ var 5))))
        (con (pos 0) ⊖ (con (pos 2) ⊗ (((var 0 ⊗ var 3) ⊕ (var 1 ⊗ var 4)) ⊕ (var 2 ⊗ var 5)))) refl

    covers_of_point : (q : Point) → IsPointOfFace a b e q → OnOneSight d q p → IsBeyond c q → Covers (at a) (at b) (at e) (on_plane c p)
    covers_of_point q (i, j, k, some, is) same beyond =
        covers_of_sum d a b e p (at a).h (at b).h (at e).h (on_plane c p).h i j k some (subst (λ s. OnOneSight d s p) is same)
        (subst (λ v. ((pos 0 -ℤ (plane_height c *ℤ p.w)) *ℤ pos (i + j + k)) <ℤ (v *ℤ p.w))
        (ap (λ v. pos 0 -ℤ (pos 2 *ℤ v)) (dot-face_sum d a b e i j k) ∙ sym (lowered_three (pos i) (pos j) (pos k) _ _ _))
        (beyond_down (height_of d (face_sum a b e i j k)) (pos (i + j + k)) (plane_height c) p.w point (subst (λ s. IsBeyond c s) is beyond)))

  module _ (k l : Corner) where
    lowered_two : (i j x y : ℤ) → (i *ℤ (pos 0 -ℤ (pos 2 *ℤ x))) +ℤ (j *ℤ (pos 0 -ℤ (pos 2 *ℤ y))) ≡ pos 0 -ℤ (pos 2 *ℤ ((i *ℤ x) +ℤ (j *ℤ y)))
    lowered_two i j x y = ring (i ∷ j ∷ x ∷ y ∷ [])
        ((var 0 ⊗ (con (pos 0) ⊖ (con (pos 2) ⊗ var 2))) ⊕ (var 1 ⊗ (con (pos 0) ⊖ (con (pos 2) ⊗ var 3))))
        (con (pos 0) ⊖ (con (pos 2) ⊗ ((var 0 ⊗ var 2) ⊕ (var 1 ⊗ var 3)))) refl

    abbrev K : Screen
    K = seen d (point_of k)

    abbrev L : Screen
    L = seen d (point_of l)

    reaches_of_covers : SideCovers (at k) (at l) (on_plane c p) → SideReaches c k l p
    reaches_of_covers q =
        let w = sum_of_side_covers d k l p (at k).h (at l).h (on_plane c p).h q in
        record {
          point = edge_sum k l w.0 w.1;
          on_side = (w.0, w.1, w.2, refl);
          beyond = beyond_up (height_of d (edge_sum k l w.0 w.1)) (pos (w.0 + w.1)) (plane_height c) p.w point
              (subst (λ v. ((pos 0 -ℤ (plane_height c *ℤ p.w)) *ℤ pos (w.0 + w.1)) <ℤ (v *ℤ p.w))
              (lowered_two (pos w.0) (pos w.1) K.h L.h ∙ ap (λ v. pos 0 -ℤ (pos 2 *ℤ v)) (sym (dot-edge_sum d k l w.0 w.1))) w.4);
          same_sight = w.3;
        }

  -- a face that is edge-on and has a point beyond the plane on the line of sight has a side that does
  module _ (a b e : Corner) (solid : ¬ IsFlat a b e) (flat : facing_of d a b e ≡ pos 0) where
    wide-side-reaches : (q : Point) → IsPointOfFace a b e q → OnOneSight d q p → IsBeyond c q → WideSideReaches c a b p ⊎ WideSideReaches c b e p ⊎ WideSideReaches c e a p
    wide-side-reaches q on_face same beyond =
        let none = area_scale d (right_axis d) (right_axis-is d).level a b e ∙ ap (λ v. dot (right_axis d) (right_axis d) *ℤ v) flat ∙ times_zero (dot (right_axis d) (right_axis d)) in
        elim (edge_on (at a) (at b) (at e) (on_plane c p) (covers_of_point a b e q on_face same beyond) point none (λ t. solid (together_flat d a b e (dot_somewhere d (cut-somewhere c)) flat t))) [
          | inl x ↦ inr (inl (wide d b e x.0, reaches_of_covers b e x.1))
          | inr more ↦ elim more [
            | inl x ↦ inr (inr (wide d e a x.0, reaches_of_covers e a x.1))
            | inr x ↦ inl (wide d a b x.0, reaches_of_covers a b x.1)
          ]
        ]

-- ---- between a nearer point and a point beyond the plane
-- how much nearer q is than p, times both divisors
abbrev near_of : Plane → Point → Point → ℤ
near_of c p q = (height_of (toward_of c) q *ℤ p.w) -ℤ (height_of (toward_of c) p *ℤ q.w)

-- two points with weights
abbrev mixed_of : Point → Point → ℤ → ℤ → Point
mixed_of q r m n = record {
  x = (m *ℤ q.x) +ℤ (n *ℤ r.x);
  y = (m *ℤ q.y) +ℤ (n *ℤ r.y);
  z = (m *ℤ q.z) +ℤ (n *ℤ r.z);
  w = (m *ℤ q.w) +ℤ (n *ℤ r.w);
}

mixed-dot : (s : Triple) (q r : Point) (m n : ℤ) → dot s (scaled (mixed_of q r m n)) ≡ (m *ℤ dot s (scaled q)) +ℤ (n *ℤ dot s (scaled r))
mixed-dot s q r m n = ring (s.x ∷ s.y ∷ s.z ∷ q.x ∷ q.y ∷ q.z ∷ r.x ∷ r.y ∷ r.z ∷ m ∷ n ∷ [])
    (dots (letters 0) (record { x = (var 9 ⊗ var 3) ⊕ (var 10 ⊗ var 6); y = (var 9 ⊗ var 4) ⊕ (var 10 ⊗ var 7); z = (var 9 ⊗ var 5) ⊕ (var 10 ⊗ var 8) }))
    ((var 9 ⊗ dots (letters 0) (letters 3)) ⊕ (var 10 ⊗ dots (letters 0) (letters 6))) refl

mixed-face : (a b e : Corner) (i j k u v w m n : ℕ) → mixed_of (face_sum a b e i j k) (face_sum a b e u v w) (pos m) (pos n) ≡ face_sum a b e (m * i + n * u) (m * j + n * v) (m * k + n * w)
mixed-face a b e i j k u v w m n =
    let x = one a.x b.x e.x in
    let y = one a.y b.y e.y in
    let z = one a.z b.z e.z in
    λ t. record { x = x t; y = y t; z = z t; w = whole t }
  where
    one : (x y z : ℤ) → (pos m *ℤ (((pos i *ℤ x) +ℤ (pos j *ℤ y)) +ℤ (pos k *ℤ z))) +ℤ (pos n *ℤ (((pos u *ℤ x) +ℤ (pos v *ℤ y)) +ℤ (pos w *ℤ z)))
        ≡ ((pos (m * i + n * u) *ℤ x) +ℤ (pos (m * j + n * v) *ℤ y)) +ℤ (pos (m * k + n * w) *ℤ z)
    one x y z = ring (x ∷ y ∷ z ∷ pos i ∷ pos j ∷ pos k ∷ pos u ∷ pos v ∷ pos w ∷ pos m ∷ pos n ∷ [])
        ((var 9 ⊗ (((var 3 ⊗ var 0) ⊕ (var 4 ⊗ var 1)) ⊕ (var 5 ⊗ var 2))) ⊕ (var 10 ⊗ (((var 6 ⊗ var 0) ⊕ (var 7 ⊗ var 1)) ⊕ (var 8 ⊗ var 2))))
        (((((var 9 ⊗ var 3) ⊕ (var 10 ⊗ var 6)) ⊗ var 0) ⊕ (((var 9 ⊗ var 4) ⊕ (var 10 ⊗ var 7)) ⊗ var 1)) ⊕ (((var 9 ⊗ var 5) ⊕ (var 10 ⊗ var 8)) ⊗ var 2)) refl

    whole : (pos m *ℤ pos (i + j + k)) +ℤ (pos n *ℤ pos (u + v + w)) ≡ pos ((m * i + n * u) + (m * j + n * v) + (m * k + n * w))
    whole = ring (pos i ∷ pos j ∷ pos k ∷ pos u ∷ pos v ∷ pos w ∷ pos m ∷ pos n ∷ [])
        ((var 6 ⊗ ((var 0 ⊕ var 1) ⊕ var 2)) ⊕ (var 7 ⊗ ((var 3 ⊕ var 4) ⊕ var 5)))
        ((((var 6 ⊗ var 0) ⊕ (var 7 ⊗ var 3)) ⊕ ((var 6 ⊗ var 1) ⊕ (var 7 ⊗ var 4))) ⊕ ((var 6 ⊗ var 2) ⊕ (var 7 ⊗ var 5))) refl

mixed-sight : (d : Triple) (q r p : Point) (m n : ℤ) → OnOneSight d q p → OnOneSight d r p → OnOneSight d (mixed_of q r m n) p
mixed-sight d q r p m n first second = record {
  across = both (right_axis d) first.across second.across;
  upward = both (up_axis d) first.upward second.upward;
}
  where
    mix : (x y u v w t : ℤ) → x *ℤ w ≡ t *ℤ u → y *ℤ w ≡ t *ℤ v → ((m *ℤ x) +ℤ (n *ℤ y)) *ℤ w ≡ t *ℤ ((m *ℤ u) +ℤ (n *ℤ v))
    mix x y u v w t e f =
        by_two _ _ _ _ m _ _ n
        (ring (m ∷ n ∷ x ∷ y ∷ u ∷ v ∷ w ∷ t ∷ [])
        ((((var 0 ⊗ var 2) ⊕ (var 1 ⊗ var 3)) ⊗ var 6) ⊖ (var 7 ⊗ ((var 0 ⊗ var 4) ⊕ (var 1 ⊗ var 5))))
        ((((var 2 ⊗ var 6) ⊖ (var 7 ⊗ var 4)) ⊗ var 0) ⊕ (((var 3 ⊗ var 6) ⊖ (var 7 ⊗ var 5)) ⊗ var 1)) refl) e f

    both : (s : Triple) → dot s (scaled q) *ℤ p.w ≡ dot s (scaled p) *ℤ q.w → dot s (scaled r) *ℤ p.w ≡ dot s (scaled p) *ℤ r.w
        → dot s (scaled (mixed_of q r m n)) *ℤ p.w ≡ dot s (scaled p) *ℤ ((m *ℤ q.w) +ℤ (n *ℤ r.w))
    both s e f = ap (λ v. v *ℤ p.w) (mixed-dot s q r m n) ∙ mix (dot s (scaled q)) (dot s (scaled r)) q.w r.w p.w (dot s (scaled p)) e f

-- with weights by which both how near and how low they are count, the sum is nearer, and beyond the plane
module _ (n1 b1 v1 n2 b2 v2 w b : ℤ) (first : (pos 2 *ℤ n1) +ℤ (w *ℤ b1) ≡ v1 *ℤ b) (second : (pos 2 *ℤ n2) +ℤ (w *ℤ b2) ≡ v2 *ℤ b)
    (v1_positive : pos 0 <ℤ v1) (v2_positive : pos 0 <ℤ v2) (w_positive : pos 0 <ℤ w) (b_positive : pos 0 <ℤ b)
    (near : pos 0 <ℤ n1) (level : n2 ≤ℤ pos 0) where
  abbrev here : List ℤ
  here = n1 ∷ b1 ∷ v1 ∷ n2 ∷ b2 ∷ v2 ∷ w ∷ b ∷ []

  mix_positive : pos 0 <ℤ ((n1 *ℤ b2) -ℤ (n2 *ℤ b1))
  mix_positive = pos_of_mul w _ w_positive (subst (λ (v : ℤ). pos 0 <ℤ v) (sym is)
      (mul_pos b _ b_positive (sum_positive_first _ _ (mul_pos n1 v2 near v2_positive) (mul_nonneg _ _ (negation_not_negative n2 level) (not_negative_of_positive v1 v1_positive)))))
    where
      is : w *ℤ ((n1 *ℤ b2) -ℤ (n2 *ℤ b1)) ≡ b *ℤ ((n1 *ℤ v2) +ℤ ((pos 0 -ℤ n2) *ℤ v1))
      is = by_two _ _ _ _ n1 _ _ (pos 0 -ℤ n2)
          (ring here
          ((var 6 ⊗ ((var 0 ⊗ var 4) ⊖ (var 3 ⊗ var 1))) ⊖ (var 7 ⊗ ((var 0 ⊗ var 5) ⊕ ((con (pos 0) ⊖ var 3) ⊗ var 2))))
          (((((con (pos 2) ⊗ var 3) ⊕ (var 6 ⊗ var 4)) ⊖ (var 5 ⊗ var 7)) ⊗ var 0) ⊕ ((((con (pos 2) ⊗ var 0) ⊕ (var 6 ⊗ var 1)) ⊖ (var 2 ⊗ var 7)) ⊗ (con (pos 0) ⊖ var 3))) refl) second first

  mix_near : pos 0 <ℤ ((((w *ℤ b2) -ℤ (pos 2 *ℤ n2)) *ℤ n1) +ℤ (((pos 2 *ℤ n1) -ℤ (w *ℤ b1)) *ℤ n2))
  mix_near = subst (λ (v : ℤ). pos 0 <ℤ v) (sym is) (mul_pos w _ w_positive mix_positive)
    where
      is : (((w *ℤ b2) -ℤ (pos 2 *ℤ n2)) *ℤ n1) +ℤ (((pos 2 *ℤ n1) -ℤ (w *ℤ b1)) *ℤ n2) ≡ w *ℤ ((n1 *ℤ b2) -ℤ (n2 *ℤ b1))
      is = ring here ((((var 6 ⊗ var 4) ⊖ (con (pos 2) ⊗ var 3)) ⊗ var 0) ⊕ (((con (pos 2) ⊗ var 0) ⊖ (var 6 ⊗ var 1)) ⊗ var 3)) (var 6 ⊗ ((var 0 ⊗ var 4) ⊖ (var 3 ⊗ var 1))) refl

  mix_below : pos 0 <ℤ ((((w *ℤ b2) -ℤ (pos 2 *ℤ n2)) *ℤ b1) +ℤ (((pos 2 *ℤ n1) -ℤ (w *ℤ b1)) *ℤ b2))
  mix_below = subst (λ (v : ℤ). pos 0 <ℤ v) (sym is) (mul_pos (pos 2) _ (omega (arith, ints)) mix_positive)
    where
      is : (((w *ℤ b2) -ℤ (pos 2 *ℤ n2)) *ℤ b1) +ℤ (((pos 2 *ℤ n1) -ℤ (w *ℤ b1)) *ℤ b2) ≡ pos 2 *ℤ ((n1 *ℤ b2) -ℤ (n2 *ℤ b1))
      is = ring here ((((var 6 ⊗ var 4) ⊖ (con (pos 2) ⊗ var 3)) ⊗ var 1) ⊕ (((con (pos 2) ⊗ var 0) ⊖ (var 6 ⊗ var 1)) ⊗ var 4)) (con (pos 2) ⊗ ((var 0 ⊗ var 4) ⊖ (var 3 ⊗ var 1))) refl

  module _ (low : pos 0 <ℤ b2) where
    first_weight : pos 0 <ℤ ((w *ℤ b2) -ℤ (pos 2 *ℤ n2))
    first_weight = go (w *ℤ b2) n2 (mul_pos w b2 w_positive low) level
      where
        go : (x y : ℤ) → pos 0 <ℤ x → y ≤ℤ pos 0 → pos 0 <ℤ (x -ℤ (pos 2 *ℤ y))
        go x y h k = omega (arith, ints)

    module _ (high : b1 ≤ℤ pos 0) where
      second_weight : pos 0 <ℤ ((pos 2 *ℤ n1) -ℤ (w *ℤ b1))
      second_weight = go n1 (w *ℤ b1) near (mul_nonpos w b1 w_positive high)
        where
          go : (x y : ℤ) → pos 0 <ℤ x → y ≤ℤ pos 0 → pos 0 <ℤ ((pos 2 *ℤ x) -ℤ y)
          go x y h k = omega (arith, ints)

module _ (c : Plane) (a b e : Corner) (p : Point) (point : IsPoint p) (here_beyond : pos 0 <ℤ below_of c p) where
  abbrev toward : Triple
  toward = toward_of c

  divisor : (q : Point) → IsPointOfFace a b e q → pos 0 <ℤ q.w
  divisor q f = go f.0 f.1 f.2 q.w (ap (λ (t : Point). t.w) f.4) f.3
    where
      go : (i j k : ℕ) (w : ℤ) → w ≡ pos (i + j + k) → 0 < i + j + k → pos 0 <ℤ w
      go i j k w is some = omega (arith, ints)

  gap : (q : Point) → (pos 2 *ℤ near_of c p q) +ℤ (p.w *ℤ below_of c q) ≡ q.w *ℤ below_of c p
  gap q = ring (height_of toward q ∷ height_of toward p ∷ q.w ∷ p.w ∷ plane_height c ∷ [])
      ((con (pos 2) ⊗ ((var 0 ⊗ var 3) ⊖ (var 1 ⊗ var 2))) ⊕ (var 3 ⊗ ((var 4 ⊗ var 2) ⊖ (con (pos 2) ⊗ var 0))))
      (var 2 ⊗ ((var 4 ⊗ var 3) ⊖ (con (pos 2) ⊗ var 1))) refl

  mixed-near : (q r : Point) (m n : ℤ) → near_of c p (mixed_of q r m n) ≡ (m *ℤ near_of c p q) +ℤ (n *ℤ near_of c p r)
  mixed-near q r m n =
      ap (λ v. (v *ℤ p.w) -ℤ (height_of toward p *ℤ ((m *ℤ q.w) +ℤ (n *ℤ r.w)))) (mixed-dot toward q r m n)
      ∙ ring (m ∷ n ∷ height_of toward q ∷ height_of toward r ∷ height_of toward p ∷ q.w ∷ r.w ∷ p.w ∷ [])
      ((((var 0 ⊗ var 2) ⊕ (var 1 ⊗ var 3)) ⊗ var 7) ⊖ (var 4 ⊗ ((var 0 ⊗ var 5) ⊕ (var 1 ⊗ var 6))))
      ((var 0 ⊗ ((var 2 ⊗ var 7) ⊖ (var 4 ⊗ var 5))) ⊕ (var 1 ⊗ ((var 3 ⊗ var 7) ⊖ (var 4 ⊗ var 6)))) refl

  mixed-below : (q r : Point) (m n : ℤ) → below_of c (mixed_of q r m n) ≡ (m *ℤ below_of c q) +ℤ (n *ℤ below_of c r)
  mixed-below q r m n =
      ap (λ v. (plane_height c *ℤ ((m *ℤ q.w) +ℤ (n *ℤ r.w))) -ℤ (pos 2 *ℤ v)) (mixed-dot toward q r m n)
      ∙ ring (m ∷ n ∷ height_of toward q ∷ height_of toward r ∷ plane_height c ∷ q.w ∷ r.w ∷ [])
      ((var 4 ⊗ ((var 0 ⊗ var 5) ⊕ (var 1 ⊗ var 6))) ⊖ (con (pos 2) ⊗ ((var 0 ⊗ var 2) ⊕ (var 1 ⊗ var 3))))
      ((var 0 ⊗ ((var 4 ⊗ var 5) ⊖ (con (pos 2) ⊗ var 2))) ⊕ (var 1 ⊗ ((var 4 ⊗ var 6) ⊖ (con (pos 2) ⊗ var 3)))) refl

  nearer-gap : (q : Point) → IsNearer toward q p ↔ (pos 0 <ℤ near_of c p q)
  nearer-gap q = go (height_of toward p *ℤ q.w) (height_of toward q *ℤ p.w)
    where
      go : (x y : ℤ) → (x <ℤ y) ↔ (pos 0 <ℤ (y -ℤ x))
      go x y = ((λ h. omega (arith, ints)), (λ h. omega (arith, ints)))

  -- the weights as whole numbers
  mixed-point : (q r : Point) (f : IsPointOfFace a b e q) (g : IsPointOfFace a b e r) (m n : ℤ) → pos 0 <ℤ m → pos 0 <ℤ n → IsPointOfFace a b e (mixed_of q r m n)
  mixed-point q r (i, j, k, some, is) (u, v, w, more, are) (pos m) (pos n) hm hn = (
    m * i + n * u,
    m * j + n * v,
    m * k + n * w,
    total,
    (λ t. mixed_of (is t) (are t) (pos m) (pos n)) ∙ mixed-face a b e i j k u v w m n,
  )
    where
      counted : (x : ℕ) (y z : ℤ) → y +ℤ z ≡ pos x → pos 0 <ℤ y → pos 0 <ℤ z → 0 < x
      counted x y z h p q = omega (arith, ints)

      total : 0 < (m * i + n * u) + (m * j + n * v) + (m * k + n * w)
      total = counted _ _ _ (λ t. (mixed-face a b e i j k u v w m n t).w) (mul_pos _ _ hm (natural_positive (i + j + k) some)) (mul_pos _ _ hn (natural_positive (u + v + w) more))
  mixed-point q r f g (negsuc m) n hm hn = absurd (omega (arith, ints))
  mixed-point q r f g (pos m) (negsuc n) hm hn = absurd (omega (arith, ints))

  hides_at : (q : Point) → IsPointOfFace a b e q → OnOneSight toward q p → pos 0 <ℤ near_of c p q → pos 0 <ℤ below_of c q → HidesInCut c a b e p
  hides_at q f same near low = record { point = q; on_face = f; beyond = (below-beyond c q).1 low; same_sight = same; nearer = (nearer-gap q).1 near }

  -- a nearer point of the face and a point of it beyond the plane, both over p
  hides_between : (q r : Point) → IsPointOfFace a b e q → IsPointOfFace a b e r → OnOneSight toward q p → OnOneSight toward r p → pos 0 <ℤ near_of c p q → pos 0 <ℤ below_of c r → HidesInCut c a b e p
  hides_between q r f g first second near low =
      by_lt_z (pos 0) (below_of c q) (hides_at q f first near)
      (λ high. by_lt_z (pos 0) (near_of c p r) (λ near'. hides_at r g second near' low)
      (λ level.
      let m = (p.w *ℤ below_of c r) -ℤ (pos 2 *ℤ near_of c p r) in
      let n = (pos 2 *ℤ near_of c p q) -ℤ (p.w *ℤ below_of c q) in
      let w = divisor q f in
      let v = divisor r g in
      hides_at (mixed_of q r m n)
      (mixed-point q r f g m n (first_weight _ _ _ _ _ _ _ _ (gap q) (gap r) w v point here_beyond near level low) (second_weight _ _ _ _ _ _ _ _ (gap q) (gap r) w v point here_beyond near level low high))
      (mixed-sight toward q r p m n first second)
      (subst (λ (z : ℤ). pos 0 <ℤ z) (sym (mixed-near q r m n)) (mix_near _ _ _ _ _ _ _ _ (gap q) (gap r) w v point here_beyond near level))
      (subst (λ (z : ℤ). pos 0 <ℤ z) (sym (mixed-below q r m n)) (mix_below _ _ _ _ _ _ _ _ (gap q) (gap r) w v point here_beyond near level))))

  abbrev SomeSideHides : Type 0
  SomeSideHides = WideSideHides toward a b p ⊎ WideSideHides toward b e p ⊎ WideSideHides toward e a p

  abbrev SomeSideReaches : Type 0
  SomeSideReaches = WideSideReaches c a b p ⊎ WideSideReaches c b e p ⊎ WideSideReaches c e a p

  first-on : (q : Point) → IsPointOfEdge a b q → IsPointOfFace a b e q
  first-on q h = face_point-of_side a b e q h

  second-on : (q : Point) → IsPointOfEdge b e q → IsPointOfFace a b e q
  second-on q h = face_point-round e a b q (face_point-round b e a q (face_point-of_side b e a q h))

  third-on : (q : Point) → IsPointOfEdge e a q → IsPointOfFace a b e q
  third-on q h = face_point-round e a b q (face_point-of_side e a b q h)

  hides_with : SomeSideHides → (r : Point) → IsPointOfFace a b e r → OnOneSight toward r p → pos 0 <ℤ below_of c r → HidesInCut c a b e p
  hides_with (inl (wide, h)) r g second low = hides_between h.point r (first-on h.point h.on_side) g h.same_sight second ((nearer-gap h.point).0 h.nearer) low
  hides_with (inr (inl (wide, h))) r g second low = hides_between h.point r (second-on h.point h.on_side) g h.same_sight second ((nearer-gap h.point).0 h.nearer) low
  hides_with (inr (inr (wide, h))) r g second low = hides_between h.point r (third-on h.point h.on_side) g h.same_sight second ((nearer-gap h.point).0 h.nearer) low

  hides_by_sides : SomeSideHides → SomeSideReaches → HidesInCut c a b e p
  hides_by_sides some (inl (wide, h)) = hides_with some h.point (first-on h.point h.on_side) h.same_sight ((below-beyond c h.point).0 h.beyond)
  hides_by_sides some (inr (inl (wide, h))) = hides_with some h.point (second-on h.point h.on_side) h.same_sight ((below-beyond c h.point).0 h.beyond)
  hides_by_sides some (inr (inr (wide, h))) = hides_with some h.point (third-on h.point h.on_side) h.same_sight ((below-beyond c h.point).0 h.beyond)

-- an edge-on face hides a point beyond the plane exactly where one of its sides hides it in the plain view and one of them is beyond the plane on its line of sight
pub edge-on-in-cut : (c : Plane) (a b e : Corner) (p : Point) → IsPoint p → IsBeyond c p → ¬ IsFlat a b e → facing_of (toward_of c) a b e ≡ pos 0
    → HidesInCut c a b e p ↔ ((WideSideHides (toward_of c) a b p ⊎ WideSideHides (toward_of c) b e p ⊎ WideSideHides (toward_of c) e a p)
    × (WideSideReaches c a b p ⊎ WideSideReaches c b e p ⊎ WideSideReaches c e a p))
edge-on-in-cut c a b e p point beyond solid flat = (
  (λ h. (
    wide-side-hides (toward_of c) a b e p point (cut-somewhere c) solid flat (record { point = h.point; on_face = h.on_face; same_sight = h.same_sight; nearer = h.nearer }),
    wide-side-reaches c p point a b e solid flat h.point h.on_face h.same_sight h.beyond,
  )),
  (λ (hides, reaches). hides_by_sides c a b e p point ((below-beyond c p).0 beyond) hides reaches),
)
