-- Points of traces reach no farther across a view, and no farther upward, than the part's corners do.
use Rattle.std.proofs.Common.{◌≡◌, ◌≢◌, ◌⊎◌, inl, inr, ℕ, Bool, true, false, [], ◌∷◌, refl, sym, subst, arith}
use Rattle.std.specs.Prelude.{ℤ, pos, negsuc, neg_ℤ, ◌+ℤ◌, ◌-ℤ◌, ◌*ℤ◌, ◌<ℤ◌, ◌≤ℤ◌}
use Rattle.std.proofs.lemmas.Int.{ints}
use Rattle.integers.proofs.Absolutes.{natural_not_negative}
use Rattle.integers.proofs.Comparisons.{gap_of_at_most, at_most_by, sum_not_negative, not_negative_of_positive}
use Rattle.integers.proofs.Ring.{var, con, ◌⊕◌, ◌⊖◌, ◌⊗◌, ring, by_one, by_two}
use Rattle.integers.proofs.Signs.{mul_nonneg}
use Rattle.lattice.specs.declared.points.Axis.{Axis}
use Rattle.lattice.specs.declared.points.Axis.TheVariants.{X, Y, Z}
use Rattle.lattice.specs.Cuts.{Plane, toward_of}
use Rattle.lattice.specs.Points.{Point, IsPoint, point_of, scaled, across_of, upward_of, height_of}
use Rattle.lattice.specs.Triple.{Triple, dot, right_axis, up_axis}
use Rattle.lattice.proofs.AlongAxes.{IsOnly, level_axis, upright_axis, level_only, upright_only}
use Rattle.lattice.proofs.CutSides.{corner_beyond, corner_before, height_high, height_low}
use Rattle.geometry.specs.Parts.{Part}
use Rattle.lattice.specs.Axes.{component_of, coordinate_of, third_of}
use Rattle.geometry.specs.Traces.{IsAmongCorners, IsOnTrace}
use Rattle.geometry.proofs.TracePoints.{same_or_other, one_of_others}
use Rattle.drawing_laws.proofs.HalfPlanes.{IsUpToLine}
use Rattle.drawing_laws.proofs.OnPaper.{across_line, upward_line}
use Rattle.drawing_laws.proofs.Reach.{CornersUpTo}

-- ---- products with axes that have one number
-- the product with such an axis
product_x : (r : Triple) (p : Point) → r.y ≡ pos 0 → r.z ≡ pos 0 → dot r (scaled p) ≡ r.x *ℤ p.x
product_x r p y z =
    by_two _ _ r.y (pos 0) p.y r.z (pos 0) p.z
    (ring (r.x ∷ r.y ∷ r.z ∷ p.x ∷ p.y ∷ p.z ∷ []) ((((var 0 ⊗ var 3) ⊕ (var 1 ⊗ var 4)) ⊕ (var 2 ⊗ var 5)) ⊖ (var 0 ⊗ var 3)) (((var 1 ⊖ con (pos 0)) ⊗ var 4) ⊕ ((var 2 ⊖ con (pos 0)) ⊗ var 5)) refl) y z

product_y : (r : Triple) (p : Point) → r.x ≡ pos 0 → r.z ≡ pos 0 → dot r (scaled p) ≡ r.y *ℤ p.y
product_y r p x z =
    by_two _ _ r.x (pos 0) p.x r.z (pos 0) p.z
    (ring (r.x ∷ r.y ∷ r.z ∷ p.x ∷ p.y ∷ p.z ∷ []) ((((var 0 ⊗ var 3) ⊕ (var 1 ⊗ var 4)) ⊕ (var 2 ⊗ var 5)) ⊖ (var 1 ⊗ var 4)) (((var 0 ⊖ con (pos 0)) ⊗ var 3) ⊕ ((var 2 ⊖ con (pos 0)) ⊗ var 5)) refl) x z

product_z : (r : Triple) (p : Point) → r.x ≡ pos 0 → r.y ≡ pos 0 → dot r (scaled p) ≡ r.z *ℤ p.z
product_z r p x y =
    by_two _ _ r.x (pos 0) p.x r.y (pos 0) p.y
    (ring (r.x ∷ r.y ∷ r.z ∷ p.x ∷ p.y ∷ p.z ∷ []) ((((var 0 ⊗ var 3) ⊕ (var 1 ⊗ var 4)) ⊕ (var 2 ⊗ var 5)) ⊖ (var 2 ⊗ var 5)) (((var 0 ⊖ con (pos 0)) ⊗ var 3) ⊕ ((var 1 ⊖ con (pos 0)) ⊗ var 4)) refl) x y

product : (axis : Axis) (r : Triple) (p : Point) → IsOnly axis r → dot r (scaled p) ≡ component_of axis r *ℤ coordinate_of axis p
product X r p only = product_x r p (only Y (λ e. cc)) (only Z (λ e. cc))
product Y r p only = product_y r p (only X (λ e. cc)) (only Z (λ e. cc))
product Z r p only = product_z r p (only X (λ e. cc)) (only Y (λ e. cc))

-- ---- a point of a trace is among the corners on each axis
times_more : (a b w : ℤ) → pos 0 <ℤ w → a ≤ℤ b → (a *ℤ w) ≤ℤ (b *ℤ w)
times_more a b w hw h =
    at_most_by _ _ ((b -ℤ a) *ℤ w) (ring (a ∷ b ∷ w ∷ []) ((var 1 ⊗ var 2) ⊖ (var 0 ⊗ var 2)) ((var 1 ⊖ var 0) ⊗ var 2) refl)
    (mul_nonneg _ _ (gap_of_at_most a b h) (not_negative_of_positive w hw))

below_level : (a h at : ℤ) → h ≡ neg_ℤ a → neg_ℤ at ≤ℤ h → a ≤ℤ at
below_level a h at e l = omega (arith, ints)

above_level : (a h at : ℤ) → h ≡ neg_ℤ a → h <ℤ neg_ℤ at → at ≤ℤ a
above_level a h at e l = omega (arith, ints)

less_at_level : (a h at : ℤ) → h ≡ a → h <ℤ at → a ≤ℤ at
less_at_level a h at e l = omega (arith, ints)

at_level : (a h at : ℤ) → h ≡ a → at ≤ℤ h → at ≤ℤ a
at_level a h at e l = omega (arith, ints)

module _ (d : Triple) (s : Part) (sight : Axis) (p : Point) where
  placed : (axis : Axis) (at : ℤ) (from_high : Bool) → IsOnTrace d s (record { axis = axis; at = at; from_high = from_high }) sight p → IsAmongCorners s axis p
  placed axis at true on =
      let c : Plane = record { axis = axis; at = at; from_high = true } in
      let (k, at_k, before) = on.has.before in
      let (l, at_l, beyond) = on.has.beyond in
      let more = at_level (coordinate_of axis (point_of k)) (height_of (toward_of c) (point_of k)) at (height_high axis at k) ((corner_before c k).0 before) in
      let less = less_at_level (coordinate_of axis (point_of l)) (height_of (toward_of c) (point_of l)) at (height_high axis at l) ((corner_beyond c l).0 beyond) in
      record {
        least = (l, at_l, subst (λ (z : ℤ). (coordinate_of axis (point_of l) *ℤ p.w) ≤ℤ z) (sym on.place) (times_more _ at p.w on.there less));
        most = (k, at_k, subst (λ (z : ℤ). z ≤ℤ (coordinate_of axis (point_of k) *ℤ p.w)) (sym on.place) (times_more at _ p.w on.there more));
      }
  placed axis at false on =
      let c : Plane = record { axis = axis; at = at; from_high = false } in
      let (k, at_k, before) = on.has.before in
      let (l, at_l, beyond) = on.has.beyond in
      let less = below_level (coordinate_of axis (point_of k)) (height_of (toward_of c) (point_of k)) at (height_low axis at k) ((corner_before c k).0 before) in
      let more = above_level (coordinate_of axis (point_of l)) (height_of (toward_of c) (point_of l)) at (height_low axis at l) ((corner_beyond c l).0 beyond) in
      record {
        least = (k, at_k, subst (λ (z : ℤ). (coordinate_of axis (point_of k) *ℤ p.w) ≤ℤ z) (sym on.place) (times_more _ at p.w on.there less));
        most = (l, at_l, subst (λ (z : ℤ). z ≤ℤ (coordinate_of axis (point_of l) *ℤ p.w)) (sym on.place) (times_more at _ p.w on.there more));
      }

  among_each : (c : Plane) → IsOnTrace d s c sight p → (axis : Axis) → IsAmongCorners s axis p
  among_each c on axis = by (same_or_other axis sight)
    where
      others : (axis ≡ c.axis) ⊎ (axis ≡ third_of c.axis sight) → IsAmongCorners s axis p
      others (inl e) = subst (λ (a : Axis). IsAmongCorners s a p) (sym e) (placed c.axis c.at c.from_high on)
      others (inr e) = subst (λ (a : Axis). IsAmongCorners s a p) (sym e) on.within_run

      by : (axis ≡ sight) ⊎ (axis ≢ sight) → IsAmongCorners s axis p
      by (inl e) = subst (λ (a : Axis). IsAmongCorners s a p) (sym e) on.within
      by (inr n) = others (one_of_others c.axis sight axis on.has.other n)

-- ---- so it reaches no farther along an axis with one number
among_up_to : (t z k w a b : ℤ) → pos 0 <ℤ w → (a *ℤ w) ≤ℤ k → k ≤ℤ (b *ℤ w) → (t *ℤ a) ≤ℤ z → (t *ℤ b) ≤ℤ z → (t *ℤ k) ≤ℤ (z *ℤ w)
among_up_to (pos n) z k w a b hw least most at_a at_b =
    at_most_by _ _ (((z -ℤ (pos n *ℤ b)) *ℤ w) +ℤ (pos n *ℤ ((b *ℤ w) -ℤ k)))
    (ring (pos n ∷ z ∷ k ∷ w ∷ b ∷ []) ((var 1 ⊗ var 3) ⊖ (var 0 ⊗ var 2)) (((var 1 ⊖ (var 0 ⊗ var 4)) ⊗ var 3) ⊕ (var 0 ⊗ ((var 4 ⊗ var 3) ⊖ var 2))) refl)
    (sum_not_negative _ _ (mul_nonneg _ w (gap_of_at_most _ _ at_b) (not_negative_of_positive w hw)) (mul_nonneg (pos n) _ (natural_not_negative n) (gap_of_at_most _ _ most)))
among_up_to (negsuc n) z k w a b hw least most at_a at_b =
    at_most_by _ _ (((z -ℤ (negsuc n *ℤ a)) *ℤ w) +ℤ ((pos 0 -ℤ negsuc n) *ℤ (k -ℤ (a *ℤ w))))
    (ring (negsuc n ∷ z ∷ k ∷ w ∷ a ∷ []) ((var 1 ⊗ var 3) ⊖ (var 0 ⊗ var 2)) (((var 1 ⊖ (var 0 ⊗ var 4)) ⊗ var 3) ⊕ ((con (pos 0) ⊖ var 0) ⊗ (var 2 ⊖ (var 4 ⊗ var 3)))) refl)
    (sum_not_negative _ _ (mul_nonneg _ w (gap_of_at_most _ _ at_a) (not_negative_of_positive w hw)) (mul_nonneg _ _ (backward n) (gap_of_at_most _ _ least)))
  where
    backward : (n : ℕ) → pos 0 ≤ℤ (pos 0 -ℤ negsuc n)
    backward n = omega (arith, ints)

first_alone : (s u v t k : ℤ) → u ≡ t *ℤ k → (s *ℤ u) +ℤ (pos 0 *ℤ v) ≡ (s *ℤ t) *ℤ k
first_alone s u v t k e =
    by_one _ _ u (t *ℤ k) s (ring (s ∷ u ∷ v ∷ t ∷ k ∷ []) (((var 0 ⊗ var 1) ⊕ (con (pos 0) ⊗ var 2)) ⊖ ((var 0 ⊗ var 3) ⊗ var 4)) ((var 1 ⊖ (var 3 ⊗ var 4)) ⊗ var 0) refl) e

second_alone : (s u v t k : ℤ) → v ≡ t *ℤ k → (pos 0 *ℤ u) +ℤ (s *ℤ v) ≡ (s *ℤ t) *ℤ k
second_alone s u v t k e =
    by_one _ _ v (t *ℤ k) s (ring (s ∷ u ∷ v ∷ t ∷ k ∷ []) (((con (pos 0) ⊗ var 1) ⊕ (var 0 ⊗ var 2)) ⊖ ((var 0 ⊗ var 3) ⊗ var 4)) ((var 2 ⊖ (var 3 ⊗ var 4)) ⊗ var 0) refl) e

without_one : (a b z : ℤ) → a ≡ b → a ≤ℤ (z *ℤ pos 1) → b ≤ℤ z
without_one a b z e h = omega (arith, ints)

module _ (d : Triple) (s : Part) (g z : ℤ) (p : Point) (is_point : IsPoint p) where
  across_up_to : (axis : Axis) → IsOnly axis (right_axis d) → IsAmongCorners s axis p → CornersUpTo d (across_line g z) s.corners → IsUpToLine d (across_line g z) p
  across_up_to axis only among up =
      let t = component_of axis (right_axis d) in
      let at = λ (q : Point). first_alone g (across_of d q) (upward_of d q) t (coordinate_of axis q) (product axis (right_axis d) q only) in
      let (k, at_k, least) = among.least in
      let (l, at_l, most) = among.most in
      subst (λ (n : ℤ). n ≤ℤ (z *ℤ p.w)) (sym (at p))
      (among_up_to (g *ℤ t) z (coordinate_of axis p) p.w (coordinate_of axis (point_of k)) (coordinate_of axis (point_of l)) is_point least most
      (without_one _ _ z (at (point_of k)) (up k at_k)) (without_one _ _ z (at (point_of l)) (up l at_l)))

  upward_up_to : (axis : Axis) → IsOnly axis (up_axis d) → IsAmongCorners s axis p → CornersUpTo d (upward_line g z) s.corners → IsUpToLine d (upward_line g z) p
  upward_up_to axis only among up =
      let t = component_of axis (up_axis d) in
      let at = λ (q : Point). second_alone g (across_of d q) (upward_of d q) t (coordinate_of axis q) (product axis (up_axis d) q only) in
      let (k, at_k, least) = among.least in
      let (l, at_l, most) = among.most in
      subst (λ (n : ℤ). n ≤ℤ (z *ℤ p.w)) (sym (at p))
      (among_up_to (g *ℤ t) z (coordinate_of axis p) p.w (coordinate_of axis (point_of k)) (coordinate_of axis (point_of l)) is_point least most
      (without_one _ _ z (at (point_of k)) (up k at_k)) (without_one _ _ z (at (point_of l)) (up l at_l)))

module _ (d : Triple) (s : Part) (c : Plane) (sight : Axis) (p : Point) (on : IsOnTrace d s c sight p) where
  pub trace_across : (g z : ℤ) → CornersUpTo d (across_line g z) s.corners → IsUpToLine d (across_line g z) p
  trace_across g z up = across_up_to d s g z p on.there (level_axis sight) (level_only sight d on.has.along) (among_each d s sight p c on (level_axis sight)) up

  pub trace_upward : (g z : ℤ) → CornersUpTo d (upward_line g z) s.corners → IsUpToLine d (upward_line g z) p
  trace_upward g z up = upward_up_to d s g z p on.there (upright_axis sight) (upright_only sight d on.has.along) (among_each d s sight p c on (upright_axis sight)) up
