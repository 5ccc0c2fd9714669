-- The line in which the plane of a face meets the plane of a cut.
use Rattle.std.proofs.Common.{◌≡◌, zero, suc, List, [], ◌∷◌, ◌⊎◌, inl, inr, ◌+◌, ◌<◌, ◌≤◌, Bool, true, false, refl, sym, subst, ◌∙◌, unsigned_abs, arith}
use Rattle.std.specs.Prelude.{ℤ, pos, negsuc, ◌+ℤ◌, ◌-ℤ◌, ◌*ℤ◌, ◌<ℤ◌}
use Rattle.std.proofs.lemmas.Int.{ints}
use Rattle.std.proofs.lemmas.Bool.{cases_lt}
use Rattle.integers.proofs.Ring.{Expr, var, con, ◌⊕◌, ◌⊖◌, ◌⊗◌, ring, by_one, by_two, same_of_gap}
use Rattle.integers.proofs.Signs.{zero_of_times}
use Rattle.lattice.specs.declared.points.Axis.{Axis}
use Rattle.lattice.specs.declared.points.Axis.TheVariants.{X, Y, Z}
use Rattle.lattice.specs.declared.points.Corner.{Corner}
use Rattle.lattice.specs.declared.lines.Line.{Line}
use Rattle.lattice.specs.Lines.{IsLineOf}
use Rattle.lattice.specs.Triple.{Triple, dot, right_axis, up_axis}
use Rattle.lattice.specs.Points.{point_of, scaled, across_of, upward_of, height_of}
use Rattle.lattice.specs.Cuts.{Plane, side_of, toward_of, plane_height, IsBeyond, IsBeforePlane}
use Rattle.lattice.proofs.Vectors.{Letters, letters, dots, crosses, dot_somewhere}
use Rattle.geometry.specs.Faces.{difference, normal, IsFlat}
use Rattle.geometry.specs.Cuts.{over_of}
use Rattle.geometry.proofs.Borders.{over_beyond, over_before}
use Rattle.geometry.proofs.BorderSteps.{along_normal}
use Rattle.cut_plane.specs.inner.Borders.{HaveBothSides}
use Rattle.cut_plane.specs.Loops.{IsBorderLine}

-- ---- the axes of a cut view are at right angles, and of length 1
abbrev unit : ℤ → ℤ → ℤ → Letters
unit x y z = record { x = con x; y = con y; z = con z }

abbrev S : Letters
S = letters 0

abbrev T : Letters
T = letters 3

abbrev parts : Letters → Letters → Letters → Expr
parts d r u = ((dots r S ⊗ dots r T) ⊕ (dots u S ⊗ dots u T)) ⊕ (dots d S ⊗ dots d T)

module _ (s t : Triple) where
  abbrev values : List ℤ
  values = s.x ∷ s.y ∷ s.z ∷ t.x ∷ t.y ∷ t.z ∷ []

  abbrev by_axes : Triple → ℤ
  by_axes d = ((dot (right_axis d) s *ℤ dot (right_axis d) t) +ℤ (dot (up_axis d) s *ℤ dot (up_axis d) t)) +ℤ (dot d s *ℤ dot d t)

  by_side : (axis : Axis) (from_high : Bool) → dot s t ≡ by_axes (side_of axis from_high)
  by_side X true = ring values (dots S T) (parts (unit (pos 1) (pos 0) (pos 0)) (unit (pos 0) (pos 1) (pos 0)) (unit (pos 0) (pos 0) (pos 1))) refl
  by_side X false = ring values (dots S T) (parts (unit (negsuc 0) (pos 0) (pos 0)) (unit (pos 0) (negsuc 0) (pos 0)) (unit (pos 0) (pos 0) (pos 1))) refl
  by_side Y true = ring values (dots S T) (parts (unit (pos 0) (pos 1) (pos 0)) (unit (negsuc 0) (pos 0) (pos 0)) (unit (pos 0) (pos 0) (pos 1))) refl
  by_side Y false = ring values (dots S T) (parts (unit (pos 0) (negsuc 0) (pos 0)) (unit (pos 1) (pos 0) (pos 0)) (unit (pos 0) (pos 0) (pos 1))) refl
  by_side Z true = ring values (dots S T) (parts (unit (pos 0) (pos 0) (pos 1)) (unit (pos 1) (pos 0) (pos 0)) (unit (pos 0) (pos 1) (pos 0))) refl
  by_side Z false = ring values (dots S T) (parts (unit (pos 0) (pos 0) (negsuc 0)) (unit (pos 1) (pos 0) (pos 0)) (unit (pos 0) (negsuc 0) (pos 0))) refl

  pub by_view : (c : Plane) → dot s t ≡ by_axes (toward_of c)
  by_view c = by_side c.axis c.from_high

-- ---- the line
-- with the normal (n, m, k) and a corner (u, v, h) as they are seen, and twice the plane's height
on_both : (n m k u v h up vp hp w twice : ℤ)
    → ((n *ℤ up) +ℤ (m *ℤ vp)) +ℤ (k *ℤ hp) ≡ (((n *ℤ u) +ℤ (m *ℤ v)) +ℤ (k *ℤ h)) *ℤ w → pos 2 *ℤ hp ≡ twice *ℤ w
    → ((pos 2 *ℤ n) *ℤ up) +ℤ ((pos 2 *ℤ m) *ℤ vp) ≡ ((((pos 2 *ℤ n) *ℤ u) +ℤ ((pos 2 *ℤ m) *ℤ v)) +ℤ (k *ℤ ((pos 2 *ℤ h) -ℤ twice))) *ℤ w
on_both n m k u v h up vp hp w twice flat level =
    by_two _ _ (((n *ℤ up) +ℤ (m *ℤ vp)) +ℤ (k *ℤ hp)) ((((n *ℤ u) +ℤ (m *ℤ v)) +ℤ (k *ℤ h)) *ℤ w) (pos 2) (pos 2 *ℤ hp) (twice *ℤ w) (pos 0 -ℤ k)
    (ring (n ∷ m ∷ k ∷ u ∷ v ∷ h ∷ up ∷ vp ∷ hp ∷ w ∷ twice ∷ [])
    ((((con (pos 2) ⊗ var 0) ⊗ var 6) ⊕ ((con (pos 2) ⊗ var 1) ⊗ var 7))
    ⊖ (((((con (pos 2) ⊗ var 0) ⊗ var 3) ⊕ ((con (pos 2) ⊗ var 1) ⊗ var 4)) ⊕ (var 2 ⊗ ((con (pos 2) ⊗ var 5) ⊖ var 10))) ⊗ var 9))
    ((((((var 0 ⊗ var 6) ⊕ (var 1 ⊗ var 7)) ⊕ (var 2 ⊗ var 8)) ⊖ ((((var 0 ⊗ var 3) ⊕ (var 1 ⊗ var 4)) ⊕ (var 2 ⊗ var 5)) ⊗ var 9)) ⊗ con (pos 2))
    ⊕ (((con (pos 2) ⊗ var 8) ⊖ (var 10 ⊗ var 9)) ⊗ (con (pos 0) ⊖ var 2))) refl) flat level

-- a line's numbers are a multiple of its own
on_of_multiple : (l : Line) (x y z u v w : ℤ) → IsLineOf l x y z → (x *ℤ u) +ℤ (y *ℤ v) ≡ z *ℤ w → (l.a *ℤ u) +ℤ (l.b *ℤ v) ≡ l.c *ℤ w
on_of_multiple l x y z u v w h e =
    same_of_gap ((l.a *ℤ u) +ℤ (l.b *ℤ v)) (l.c *ℤ w)
    (zero_of_times h.n _ h.somewhere (divided l.a l.b l.c h.n ((λ i. (sym h.a i *ℤ u) +ℤ (sym h.b i *ℤ v)) ∙ e ∙ (λ i. h.c i *ℤ w))))
  where
    divided : (a b c n : ℤ) → ((a *ℤ n) *ℤ u) +ℤ ((b *ℤ n) *ℤ v) ≡ (c *ℤ n) *ℤ w → n *ℤ (((a *ℤ u) +ℤ (b *ℤ v)) -ℤ (c *ℤ w)) ≡ pos 0
    divided a b c n e =
        by_one _ _ (((a *ℤ n) *ℤ u) +ℤ ((b *ℤ n) *ℤ v)) ((c *ℤ n) *ℤ w) (pos 1)
        (ring (a ∷ b ∷ c ∷ n ∷ u ∷ v ∷ w ∷ [])
        ((var 3 ⊗ (((var 0 ⊗ var 4) ⊕ (var 1 ⊗ var 5)) ⊖ (var 2 ⊗ var 6))) ⊖ con (pos 0))
        (((((var 0 ⊗ var 3) ⊗ var 4) ⊕ ((var 1 ⊗ var 3) ⊗ var 5)) ⊖ ((var 2 ⊗ var 3) ⊗ var 6)) ⊗ con (pos 1)) refl) e

module _ (c : Plane) (a b e : Corner) where
  -- the normal as it is seen
  abbrev way_across : ℤ
  way_across = dot (right_axis (toward_of c)) (normal a b e)

  abbrev way_upward : ℤ
  way_upward = dot (up_axis (toward_of c)) (normal a b e)

  abbrev way_height : ℤ
  way_height = dot (toward_of c) (normal a b e)

  abbrev constant_is : ℤ
  constant_is = (((pos 2 *ℤ way_across) *ℤ across_of (toward_of c) (point_of a)) +ℤ ((pos 2 *ℤ way_upward) *ℤ upward_of (toward_of c) (point_of a))) +ℤ (way_height *ℤ over_of c a)

  pub border_is_on : (l : Line) (x y z : ℤ) → x ≡ pos 2 *ℤ way_across → y ≡ pos 2 *ℤ way_upward → z ≡ constant_is → IsLineOf l x y z → IsBorderLine c a b e l
  border_is_on l x y z x_is y_is z_is h p on_face on_plane =
      on_of_multiple l x y z (across_of (toward_of c) p) (upward_of (toward_of c) p) p.w h
      ((λ i. (x_is i *ℤ across_of (toward_of c) p) +ℤ (y_is i *ℤ upward_of (toward_of c) p))
      ∙ on_both way_across way_upward way_height (across_of d (point_of a)) (upward_of d (point_of a)) (height_of d (point_of a)) (across_of d p) (upward_of d p) (height_of d p) p.w (plane_height c)
      (sym (by_view n (scaled p) c) ∙ one (dot n (scaled p)) ∙ along_normal a b e p on_face ∙ (λ i. by_view n (scaled (point_of a)) c i *ℤ p.w)) on_plane
      ∙ (λ i. sym z_is i *ℤ p.w))
    where
      d : Triple
      d = toward_of c

      n : Triple
      n = normal a b e

      one : (z : ℤ) → z ≡ pos 1 *ℤ z
      one z = omega (arith, ints)

  -- ---- the face isn't parallel to the plane
  level_sides : way_across ≡ pos 0 → way_upward ≡ pos 0 → ¬ IsFlat a b e → (t : Triple) → dot (normal a b e) t ≡ pos 0 → dot (toward_of c) t ≡ pos 0
  level_sides no_across no_upward whole t flat =
      let square = by_view (normal a b e) (normal a b e) c ∙ left way_across way_upward way_height way_across way_upward way_height no_across no_upward in
      let product = sym (left way_across way_upward way_height (dot (right_axis (toward_of c)) t) (dot (up_axis (toward_of c)) t) (dot (toward_of c) t) no_across no_upward) ∙ sym (by_view (normal a b e) t c) ∙ flat in
      zero_of_times way_height (dot (toward_of c) t) (some way_height (let P : ℤ → Type 0 = λ z. pos 0 <ℤ z in subst P square (dot_somewhere (normal a b e) whole))) product
    where
      left : (n m k x y z : ℤ) → n ≡ pos 0 → m ≡ pos 0 → ((n *ℤ x) +ℤ (m *ℤ y)) +ℤ (k *ℤ z) ≡ k *ℤ z
      left n m k x y z e f =
          by_two _ _ n (pos 0) x m (pos 0) y
          (ring (n ∷ m ∷ k ∷ x ∷ y ∷ z ∷ [])
          ((((var 0 ⊗ var 3) ⊕ (var 1 ⊗ var 4)) ⊕ (var 2 ⊗ var 5)) ⊖ (var 2 ⊗ var 5))
          (((var 0 ⊖ con (pos 0)) ⊗ var 3) ⊕ ((var 1 ⊖ con (pos 0)) ⊗ var 4)) refl) e f

      some : (k : ℤ) → pos 0 <ℤ (k *ℤ k) → 0 < unsigned_abs k
      some (pos zero) h = absurd (omega (arith, ints))
      some (pos (suc k)) h = omega arith
      some (negsuc k) h = omega arith

  -- so corners on both sides are not on one level
  crosses_somewhere : ¬ IsFlat a b e → HaveBothSides c a b e → way_across ≡ pos 0 → way_upward ≡ pos 0 → ⊥
  crosses_somewhere whole sides no_across no_upward = by sides
    where
      d : Triple
      d = toward_of c

      level : (t : Triple) → dot (normal a b e) t ≡ pos 0 → dot d t ≡ pos 0
      level = level_sides no_across no_upward whole

      step : (r : Triple) (k l : Corner) → dot r (difference k l) ≡ dot r (scaled (point_of l)) -ℤ dot r (scaled (point_of k))
      step r k l =
          ring (r.x ∷ r.y ∷ r.z ∷ k.x ∷ k.y ∷ k.z ∷ l.x ∷ l.y ∷ l.z ∷ [])
          (dots (letters 0) (record { x = var 6 ⊖ var 3; y = var 7 ⊖ var 4; z = var 8 ⊖ var 5 })) (dots (letters 0) (letters 6) ⊖ dots (letters 0) (letters 3)) refl

      one_level : (x y z h : ℤ) → z ≡ pos 0 → z ≡ y -ℤ x → ((pos 2 *ℤ x) -ℤ h) ≡ ((pos 2 *ℤ y) -ℤ h)
      one_level x y z h e f = omega (arith, ints)

      same_over : (k l : Corner) → dot (normal a b e) (difference k l) ≡ pos 0 → over_of c k ≡ over_of c l
      same_over k l flat = one_level (height_of d (point_of k)) (height_of d (point_of l)) (dot d (difference k l)) (plane_height c) (level (difference k l) flat) (step d k l)

      ways : List ℤ
      ways = a.x ∷ a.y ∷ a.z ∷ b.x ∷ b.y ∷ b.z ∷ e.x ∷ e.y ∷ e.z ∷ []

      ab : Letters
      ab = record { x = var 3 ⊖ var 0; y = var 4 ⊖ var 1; z = var 5 ⊖ var 2 }

      ae : Letters
      ae = record { x = var 6 ⊖ var 0; y = var 7 ⊖ var 1; z = var 8 ⊖ var 2 }

      flat_ab : dot (normal a b e) (difference a b) ≡ pos 0
      flat_ab = ring ways (dots (crosses ab ae) ab) (con (pos 0)) refl

      flat_ae : dot (normal a b e) (difference a e) ≡ pos 0
      flat_ae = ring ways (dots (crosses ab ae) ae) (con (pos 0)) refl

      differ : (x y : ℤ) → x ≡ y → pos 0 <ℤ x → y <ℤ pos 0 → ⊥
      differ x y e h k = omega (arith, ints)

      apart : (k l : Corner) → over_of c k ≡ over_of c l → (IsBeforePlane c (point_of k) × IsBeyond c (point_of l)) ⊎ (IsBeyond c (point_of k) × IsBeforePlane c (point_of l)) → ⊥
      apart k l same (inl h) = differ (over_of c k) (over_of c l) same (over_before c k h.0) (over_beyond c l h.1)
      apart k l same (inr h) = differ (over_of c l) (over_of c k) (sym same) (over_before c l h.1) (over_beyond c k h.0)

      by : HaveBothSides c a b e → ⊥
      by (inl h) = apart a b (same_over a b flat_ab) h
      by (inr (inl h)) = apart b e (sym (same_over a b flat_ab) ∙ same_over a e flat_ae) h
      by (inr (inr h)) = apart e a (sym (same_over a e flat_ae)) h

  pub border_somewhere : (x y : ℤ) → x ≡ pos 2 *ℤ way_across → y ≡ pos 2 *ℤ way_upward → ¬ IsFlat a b e → HaveBothSides c a b e → 0 < unsigned_abs x + unsigned_abs y
  border_somewhere x y x_is y_is whole sides = by (cases_lt 0 (unsigned_abs x + unsigned_abs y))
    where
      half : (x z : ℤ) → x ≡ pos 2 *ℤ z → unsigned_abs x ≡ 0 → z ≡ pos 0
      half x z e h = omega (arith, ints)

      by : (0 < unsigned_abs x + unsigned_abs y) ⊎ (unsigned_abs x + unsigned_abs y ≤ 0) → 0 < unsigned_abs x + unsigned_abs y
      by (inl h) = h
      by (inr h) = absurd (crosses_somewhere whole sides (half x way_across x_is (omega arith)) (half y way_upward y_is (omega arith)))
