-- The section is within the extent of the part, and so are the ends of its hatch lines.
use Rattle.std.proofs.Common.{◌≡◌, inl, inr, ℕ, zero, suc, ◌%◌, [], ◌∷◌, Contains, All, List, length, refl, sym, subst, arith}
use Rattle.std.specs.Prelude.{ℤ, pos, negsuc, ◌+ℤ◌, ◌-ℤ◌, ◌*ℤ◌, ◌<ℤ◌, ◌≤ℤ◌}
use Rattle.std.proofs.lemmas.Int.{ints, by_lt_z}
use Rattle.std.proofs.lemmas.List.Elements.{All-contains}
use Rattle.integers.proofs.Comparisons.{at_most_by, at_most_of_gap, at_most_of_less, gap_of_at_most, less_not_at_most, not_negative_at, not_negative_of_positive, sum_not_negative}
use Rattle.integers.proofs.Ring.{var, con, ◌⊕◌, ◌⊖◌, ◌⊗◌, ring, by_one}
use Rattle.integers.proofs.Signs.{mul_nonneg, nonneg_of_mul}
use Rattle.lattice.specs.declared.pieces.HatchLine.{HatchLine}
use Rattle.lattice.specs.declared.points.Spot.{Spot}
use Rattle.lattice.specs.declared.soup.Tri.{Tri}
use Rattle.lattice.specs.Cuts.{Plane, toward_of}
use Rattle.lattice.specs.Points.{Point, IsPoint, of_spot, point_of, across_of, upward_of}
use Rattle.lattice.specs.Triangles.{IsBelow}
use Rattle.lattice.specs.Triple.{Triple}
use Rattle.geometry.specs.Cuts.{IsBorderOf, IsCount, HasBorderRightOf, IsInSection, IsLeftOfBorder, crossing_of, start_corner, end_corner}
use Rattle.geometry.specs.Cuts.IsCount.{nothing, counted, skipped}
use Rattle.geometry.specs.Parts.{Part, Face, IsClosed}
use Rattle.geometry.proofs.Borders.{crossing_on_side}
use Rattle.hatch_fill.specs.Hatching.{IsHatching, IsHatchLine, IsOnHatch, LiesOnHatch}
use Rattle.drawing_laws.proofs.HalfPlanes.{IsUpToLine, IsPointUpToLine, up_to_seen}
use Rattle.drawing_laws.proofs.Sparse.{ViewLine}
use Rattle.drawing_laws.proofs.ViewOrder.{seen_itself, lies_first, lies_second}
use Rattle.cut_plane.specs.Diagonals.{IsUnderBorder}
use Rattle.cut_plane.proofs.Diagonals.{section_on_diagonal}
use Rattle.cut_plane.proofs.OverDiagonals.{CrossesLeftOf, HasCrossingLeftOf}
use Rattle.cut_plane.proofs.Sights.{sight_of, turn_of}
use Rattle.sheet_plan.specs.Extents.{IsExtent}
use Rattle.sheet_plan.specs.declared.bounds.Extent.{Extent}
use Rattle.drawing_laws.proofs.OnPaper.{across_line, upward_line, left_line, right_line, low_line, high_line, IsInExtent}
use Rattle.drawing_laws.proofs.Reach.{CornersUpTo, extent_of_corners, corner_up_to, corner_edge_up_to, face_up_to}

-- of an odd number there is one
one_counted : (P : Tri → Type 0) (xs : List Tri) (n : ℕ) → IsCount Tri P xs n → n % 2 ≡ 1 → (t : Tri) × P t
one_counted P [] n nothing odd = absurd (omega (arith, odd))
one_counted P (x ∷ xs) n (counted _ _ k p h) odd = (x, p)
one_counted P (x ∷ xs) n (skipped _ _ k q h) odd = one_counted P xs n h odd

-- ---- to the right of p, at its V
-- with U of p less than a / w', and that at most z
right_bound : (z u w a v : ℤ) → pos 0 <ℤ v → pos 0 <ℤ w → (u *ℤ v) <ℤ (a *ℤ w) → ((pos 1 *ℤ a) +ℤ (pos 0 *ℤ a)) ≤ℤ (z *ℤ v) → ((pos 1 *ℤ u) +ℤ (pos 0 *ℤ u)) ≤ℤ (z *ℤ w)
right_bound z u w a v hv hw less up =
    at_most_of_gap _ _
    (nonneg_of_mul v _ hv
    (not_negative_at _ _
    (ring (z ∷ u ∷ w ∷ a ∷ v ∷ [])
    (var 4 ⊗ ((var 0 ⊗ var 2) ⊖ ((con (pos 1) ⊗ var 1) ⊕ (con (pos 0) ⊗ var 1))))
    ((((var 0 ⊗ var 4) ⊖ ((con (pos 1) ⊗ var 3) ⊕ (con (pos 0) ⊗ var 3))) ⊗ var 2) ⊕ ((var 3 ⊗ var 2) ⊖ (var 1 ⊗ var 4))) refl)
    (sum_not_negative _ _ (mul_nonneg _ w (gap_of_at_most _ _ up) (not_negative_of_positive w hw)) (gap_of_at_most _ _ (at_most_of_less _ _ less)))))

same_bound : (g z a b w c e v : ℤ) → pos 0 <ℤ v → pos 0 <ℤ w → e *ℤ w ≡ b *ℤ v → ((pos 0 *ℤ c) +ℤ (g *ℤ e)) ≤ℤ (z *ℤ v) → ((pos 0 *ℤ a) +ℤ (g *ℤ b)) ≤ℤ (z *ℤ w)
same_bound g z a b w c e v hv hw same up =
    at_most_of_gap _ _
    (nonneg_of_mul v _ hv
    (not_negative_at _ _
    (by_one (v *ℤ ((z *ℤ w) -ℤ ((pos 0 *ℤ a) +ℤ (g *ℤ b)))) (((z *ℤ v) -ℤ ((pos 0 *ℤ c) +ℤ (g *ℤ e))) *ℤ w) (e *ℤ w) (b *ℤ v) g
    (ring (g ∷ z ∷ a ∷ b ∷ w ∷ c ∷ e ∷ v ∷ [])
    ((var 7 ⊗ ((var 1 ⊗ var 4) ⊖ ((con (pos 0) ⊗ var 2) ⊕ (var 0 ⊗ var 3)))) ⊖ (((var 1 ⊗ var 7) ⊖ ((con (pos 0) ⊗ var 5) ⊕ (var 0 ⊗ var 6))) ⊗ var 4))
    (((var 6 ⊗ var 4) ⊖ (var 3 ⊗ var 7)) ⊗ var 0) refl) same)
    (mul_nonneg _ w (gap_of_at_most _ _ up) (not_negative_of_positive w hw))))

-- ---- to the left of p, on its diagonal
-- where both ends are as far right as p, the way isn't to its left
not_to_left : (ku kv kw lu lv lw pu pv pw : ℤ) → pos 0 <ℤ pw
    → ((ku -ℤ kv) *ℤ pw) ≤ℤ ((pu -ℤ pv) *ℤ kw) → ((pu -ℤ pv) *ℤ lw) <ℤ ((lu -ℤ lv) *ℤ pw) → (pu *ℤ kw) ≤ℤ (ku *ℤ pw) → (pu *ℤ lw) ≤ℤ (lu *ℤ pw)
    → pos 0 ≤ℤ (pos 0 -ℤ turn_of (record { u = ku; v = kv; w = kw }) (record { u = lu; v = lv; w = lw }) (record { u = pu; v = pv; w = pw }))
not_to_left ku kv kw lu lv lw pu pv pw hw from to at_k at_l =
    nonneg_of_mul pw _ hw
    (not_negative_at _ _
    (ring (ku ∷ kv ∷ kw ∷ lu ∷ lv ∷ lw ∷ pu ∷ pv ∷ pw ∷ [])
    (var 8 ⊗ (con (pos 0) ⊖ (((var 0 ⊗ ((var 4 ⊗ var 8) ⊖ (var 5 ⊗ var 7))) ⊖ (var 1 ⊗ ((var 3 ⊗ var 8) ⊖ (var 5 ⊗ var 6)))) ⊕ (var 2 ⊗ ((var 3 ⊗ var 7) ⊖ (var 4 ⊗ var 6))))))
    (((((var 3 ⊖ var 4) ⊗ var 8) ⊖ ((var 6 ⊖ var 7) ⊗ var 5)) ⊗ ((var 0 ⊗ var 8) ⊖ (var 6 ⊗ var 2)))
    ⊕ ((((var 6 ⊖ var 7) ⊗ var 2) ⊖ ((var 0 ⊖ var 1) ⊗ var 8)) ⊗ ((var 3 ⊗ var 8) ⊖ (var 6 ⊗ var 5)))) refl)
    (sum_not_negative _ _ (mul_nonneg _ _ (gap_of_at_most _ _ (at_most_of_less _ _ to)) (gap_of_at_most _ _ at_k)) (mul_nonneg _ _ (gap_of_at_most _ _ from) (gap_of_at_most _ _ at_l))))

-- p is further left than n / w, and that at most as far as k
further_right : (n pu pw ku kw : ℤ) → pos 0 <ℤ kw → pos 0 <ℤ pw → pu <ℤ (n *ℤ pw) → (n *ℤ kw) ≤ℤ ku → (pu *ℤ kw) ≤ℤ (ku *ℤ pw)
further_right n pu pw ku kw hk hp less at =
    at_most_by _ _ (((ku -ℤ (n *ℤ kw)) *ℤ pw) +ℤ (((n *ℤ pw) -ℤ pu) *ℤ kw))
    (ring (n ∷ pu ∷ pw ∷ ku ∷ kw ∷ []) ((var 3 ⊗ var 2) ⊖ (var 1 ⊗ var 4)) (((var 3 ⊖ (var 0 ⊗ var 4)) ⊗ var 2) ⊕ (((var 0 ⊗ var 2) ⊖ var 1) ⊗ var 4)) refl)
    (sum_not_negative _ _ (mul_nonneg _ pw (gap_of_at_most _ _ at) (not_negative_of_positive pw hp)) (mul_nonneg _ kw (gap_of_at_most _ _ (at_most_of_less _ _ less)) (not_negative_of_positive kw hk)))

not_both : (x : ℤ) → pos 0 <ℤ x → pos 0 ≤ℤ (pos 0 -ℤ x) → ⊥
not_both x h g = omega (arith, ints)

from_up : (n a b w : ℤ) → ((negsuc 0 *ℤ a) +ℤ (pos 0 *ℤ b)) ≤ℤ ((pos 0 -ℤ n) *ℤ w) → (n *ℤ w) ≤ℤ a
from_up n a b w h =
    at_most_by _ _ (((pos 0 -ℤ n) *ℤ w) -ℤ ((negsuc 0 *ℤ a) +ℤ (pos 0 *ℤ b)))
    (ring (n ∷ a ∷ b ∷ w ∷ []) (var 1 ⊖ (var 0 ⊗ var 3)) (((con (pos 0) ⊖ var 0) ⊗ var 3) ⊖ ((con (negsuc 0) ⊗ var 1) ⊕ (con (pos 0) ⊗ var 2))) refl) (gap_of_at_most _ _ h)

to_up : (n a b w : ℤ) → (n *ℤ w) ≤ℤ a → ((negsuc 0 *ℤ a) +ℤ (pos 0 *ℤ b)) ≤ℤ ((pos 0 -ℤ n) *ℤ w)
to_up n a b w h =
    at_most_by _ _ (a -ℤ (n *ℤ w))
    (ring (n ∷ a ∷ b ∷ w ∷ []) (((con (pos 0) ⊖ var 0) ⊗ var 3) ⊖ ((con (negsuc 0) ⊗ var 1) ⊕ (con (pos 0) ⊗ var 2))) (var 1 ⊖ (var 0 ⊗ var 3)) refl) (gap_of_at_most _ _ h)

module _ (c : Plane) (s : Part) (closed : IsClosed s) (in_range : All (IsBelow (length s.corners)) s.triangles) where
  abbrev toward : Triple
  toward = toward_of c

  -- a border to the right of a point in the section
  right_border : (p : Point) → IsInSection c s p → (f : Face s) × IsLeftOfBorder c f p
  right_border p (n, count, odd) = let (t, there) = one_counted (HasBorderRightOf c s p) s.triangles n count odd in (there.0, there.2)

  right_up_to : (z : ℤ) → CornersUpTo toward (across_line (pos 1) z) s.corners → (p : Point) → IsPoint p → IsInSection c s p → IsUpToLine toward (across_line (pos 1) z) p
  right_up_to z up p is_point inside =
      let (f, left) = right_border p inside in
      let (is, at) = face_up_to toward (across_line (pos 1) z) s up f left.right left.right_on.0 in
      again (across_of toward p) (upward_of toward p) (right_bound z (across_of toward p) p.w (across_of toward left.right) left.right.w is is_point left.more_across (first_alone (across_of toward left.right) (upward_of toward left.right) at))
    where
      first_alone : (a b : ℤ) → ((pos 1 *ℤ a) +ℤ (pos 0 *ℤ b)) ≤ℤ (z *ℤ (right_border p inside).1.right.w) → ((pos 1 *ℤ a) +ℤ (pos 0 *ℤ a)) ≤ℤ (z *ℤ (right_border p inside).1.right.w)
      first_alone a b h = omega (arith, ints)

      again : (a b : ℤ) → ((pos 1 *ℤ a) +ℤ (pos 0 *ℤ a)) ≤ℤ (z *ℤ p.w) → ((pos 1 *ℤ a) +ℤ (pos 0 *ℤ b)) ≤ℤ (z *ℤ p.w)
      again a b h = omega (arith, ints)

  level_up_to : (g z : ℤ) → CornersUpTo toward (upward_line g z) s.corners → (p : Point) → IsPoint p → IsInSection c s p → IsUpToLine toward (upward_line g z) p
  level_up_to g z up p is_point inside =
      let (f, left) = right_border p inside in
      let (is, at) = face_up_to toward (upward_line g z) s up f left.right left.right_on.0 in
      same_bound g z (across_of toward p) (upward_of toward p) p.w (across_of toward left.right) (upward_of toward left.right) left.right.w is is_point left.same_upward at

  -- the ends of a border
  module _ (l : ViewLine) (up : CornersUpTo toward l s.corners) (f : Face s) where
    corner_of_start : (n : ℕ) → IsUpToLine toward l (point_of (start_corner f n))
    corner_of_start zero = corner_up_to toward l s up f.tri.a f.a f.at_a
    corner_of_start (suc zero) = corner_up_to toward l s up f.tri.b f.b f.at_b
    corner_of_start (suc (suc n)) = corner_up_to toward l s up f.tri.c f.c f.at_c

    corner_of_end : (n : ℕ) → IsUpToLine toward l (point_of (end_corner f n))
    corner_of_end zero = corner_up_to toward l s up f.tri.b f.b f.at_b
    corner_of_end (suc zero) = corner_up_to toward l s up f.tri.c f.c f.at_c
    corner_of_end (suc (suc n)) = corner_up_to toward l s up f.tri.a f.a f.at_a

    ends_of_border : (k m : Point) → IsBorderOf c f k m → IsPointUpToLine toward l k × IsPointUpToLine toward l m
    ends_of_border k m is = (
      subst (IsPointUpToLine toward l) (sym is.from)
          (corner_edge_up_to toward l (start_corner f is.first) (end_corner f is.first) (corner_of_start is.first) (corner_of_end is.first)
          (crossing_of c (start_corner f is.first) (end_corner f is.first)) (crossing_on_side c (start_corner f is.first) (end_corner f is.first) is.goes)),
      subst (IsPointUpToLine toward l) (sym is.to)
          (corner_edge_up_to toward l (end_corner f is.second) (start_corner f is.second) (corner_of_end is.second) (corner_of_start is.second)
          (crossing_of c (end_corner f is.second) (start_corner f is.second)) (crossing_on_side c (end_corner f is.second) (start_corner f is.second) is.returns)),
    )

  -- a border to the left of a point in the section, which no border is under
  left_up_to : (n : ℤ) → CornersUpTo toward (across_line (negsuc 0) (pos 0 -ℤ n)) s.corners → (p : Point) → IsPoint p → ¬ IsUnderBorder c s p → IsInSection c s p
      → IsUpToLine toward (across_line (negsuc 0) (pos 0 -ℤ n)) p
  left_up_to n up p is_point off inside =
      to_up n (across_of toward p) (upward_of toward p) p.w (by_lt_z (across_of toward p) (n *ℤ p.w) (λ less. absurd (too_far less)) (λ h. h))
    where
      too_far : across_of toward p <ℤ (n *ℤ p.w) → ⊥
      too_far less =
          let (count, counts, odd) = (section_on_diagonal c s closed in_range p is_point off).0 inside in
          let (t, there) = one_counted (HasCrossingLeftOf c s p) s.triangles count counts odd in
          let f = there.0 in
          let (k, m, border, crosses) = there.2 in
          let ((k_is, k_up), (m_is, m_up)) = ends_of_border (across_line (negsuc 0) (pos 0 -ℤ n)) up f k m border in
          let at_k = further_right n (across_of toward p) p.w (across_of toward k) k.w k_is is_point less (from_up n (across_of toward k) (upward_of toward k) k.w k_up) in
          let at_m = further_right n (across_of toward p) p.w (across_of toward m) m.w m_is is_point less (from_up n (across_of toward m) (upward_of toward m) m.w m_up) in
          by k m at_k at_m crosses
        where
          by : (k m : Point) → (across_of toward p *ℤ k.w) ≤ℤ (across_of toward k *ℤ p.w) → (across_of toward p *ℤ m.w) ≤ℤ (across_of toward m *ℤ p.w) → CrossesLeftOf toward k m p → ⊥
          by k m at_k at_m (inl over) =
              not_both (turn_of (sight_of toward k) (sight_of toward m) (sight_of toward p)) over.left
              (not_to_left (across_of toward k) (upward_of toward k) k.w (across_of toward m) (upward_of toward m) m.w (across_of toward p) (upward_of toward p) p.w is_point over.from over.to at_k at_m)
          by k m at_k at_m (inr over) =
              not_both (turn_of (sight_of toward m) (sight_of toward k) (sight_of toward p)) over.left
              (not_to_left (across_of toward m) (upward_of toward m) m.w (across_of toward k) (upward_of toward k) k.w (across_of toward p) (upward_of toward p) p.w is_point over.from over.to at_m at_k)

  -- ---- ends of hatch lines
  module _ (spacing : ℕ) (lines : List HatchLine) (fills : IsHatching c s spacing lines) (x : HatchLine) (listed : Contains lines x) where
    -- what is beyond a line on which the part ends is under no border
    not_under : (l : ViewLine) → CornersUpTo toward l s.corners → (p : Point) → IsPoint p → ¬ IsUpToLine toward l p → ¬ IsUnderBorder c s p
    not_under l up p is_point far (f, seen) =
        let (q, on, same) = seen in
        let (is, at) = face_up_to toward l s up f q on.0 in far (up_to_seen toward l q p is is_point same at)

    end_up_to : (l : ViewLine) → CornersUpTo toward l s.corners → ((p : Point) → IsPoint p → ¬ IsUnderBorder c s p → IsInSection c s p → IsUpToLine toward l p)
        → (number : ℤ) (a : Spot) → IsOnHatch toward spacing number (of_spot a) → LiesOnHatch toward x (of_spot a) → IsUpToLine toward l (of_spot a)
    end_up_to l up inside number a on lies =
        by_lt_z (l.z *ℤ a.w) ((l.x *ℤ across_of toward (of_spot a)) +ℤ (l.y *ℤ upward_of toward (of_spot a)))
        (λ less.
        let far : ¬ IsUpToLine toward l (of_spot a) = λ h. less_not_at_most _ _ less h in
        let off = not_under l up (of_spot a) a.positive far in
        absurd (far (inside (of_spot a) a.positive off ((fills.exactly number (of_spot a) a.positive on off).0 (x, listed, lies)))))
        (λ h. h)

    module _ (e : Extent) (is : IsExtent toward s.corners e) where
      spot_in_extent : (number : ℤ) (a : Spot) → IsOnHatch toward spacing number (of_spot a) → LiesOnHatch toward x (of_spot a) → IsInExtent toward e (of_spot a)
      spot_in_extent number a on lies =
          let corners = extent_of_corners toward s.corners e is in
          record {
            left = end_up_to (left_line e) corners.left (left_up_to e.u_min corners.left) number a on lies;
            right = end_up_to (right_line e) corners.right (λ p is_point off inside. right_up_to e.u_max corners.right p is_point inside) number a on lies;
            low = end_up_to (low_line e) corners.low (λ p is_point off inside. level_up_to (negsuc 0) (pos 0 -ℤ e.v_min) corners.low p is_point inside) number a on lies;
            high = end_up_to (high_line e) corners.high (λ p is_point off inside. level_up_to (pos 1) e.v_max corners.high p is_point inside) number a on lies;
          }

      pub hatch_in_extent : IsInExtent toward e (of_spot x.a) × IsInExtent toward e (of_spot x.b)
      hatch_in_extent =
          let (number, line) = All-contains (λ (y : HatchLine). (n : ℤ) × IsHatchLine c spacing n y) lines x fills.each listed in (
            spot_in_extent number x.a line.first (lies_first toward x.a x.b (of_spot x.a) (seen_itself toward (of_spot x.a))),
            spot_in_extent number x.b line.second (lies_second toward x.a x.b (of_spot x.b) (seen_itself toward (of_spot x.b))),
          )
