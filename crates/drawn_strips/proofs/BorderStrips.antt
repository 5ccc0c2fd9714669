-- The strip of a segment of a section's borders: its ends, its line, and the points of its border.
use Rattle.std.proofs.Common.{◌≡◌, ℕ, zero, suc, inl, inr, All, length, [], ◌∷◌, refl, sym, subst, ◌∙◌, arith, Bool, true, false}
use Rattle.std.specs.Prelude.{ℤ, pos, negsuc, ◌*ℤ◌}
use Rattle.integers.proofs.Ring.{var, ◌⊗◌, ring}
use Rattle.lattice.specs.declared.lines.Line.{Line}
use Rattle.lattice.specs.declared.points.Axis.{Axis}
use Rattle.lattice.specs.declared.points.Axis.TheVariants.{X, Y, Z}
use Rattle.lattice.specs.declared.points.Corner.{Corner}
use Rattle.lattice.specs.declared.points.Dir.{Dir}
use Rattle.lattice.specs.declared.pieces.Strip.{Strip}
use Rattle.lattice.specs.Triangles.{IsBelow}
use Rattle.lattice.specs.Triple.{Triple, dot, right_axis, up_axis}
use Rattle.lattice.specs.Points.{Point, IsPoint, of_dir, of_spot, scaled, OnOneSight}
use Rattle.lattice.specs.Lines.{IsOnLine, AreStripEnds}
use Rattle.lattice.specs.Cuts.{Plane, side_of, toward_of}
use Rattle.lattice.proofs.OnLines.{weighted_sum, product_of_sum}
use Rattle.geometry.specs.Faces.{IsPointOfEdge}
use Rattle.geometry.specs.Parts.{Part, Face, IsClosed}
use Rattle.geometry.specs.Pieces.{spot_sum}
use Rattle.geometry.specs.Cuts.{crossing_of, start_corner, end_corner, IsOnBorder, GoesBeyond, border, step_of, IsOrdinaryInCut}
use Rattle.geometry.proofs.Borders.{crossing_on_side, crossing_on_plane}
use Rattle.geometry.proofs.StepLines.{RunsAlong}
use Rattle.geometry.proofs.Sights.{sight_on}
use Rattle.hiding_laws.specs.Values.{IsSideOf}
use Rattle.hiding_laws.proofs.Ordinary.{side-edge}
use Rattle.line_merge.specs.Merging.{LiesOnStrip}
use Rattle.cut_plane.specs.declared.segments.Segment.{Segment}
use Rattle.cut_plane.specs.Loops.{IsSegmentOf}
use Rattle.cut_plane.proofs.Apart.{border_apart}
use Rattle.cut_plane.proofs.BorderSums.{IsMixOf, AreEnds, border_ends}
use Rattle.cut_plane.proofs.RightOf.{mix_product, first_on, second_on}
use Rattle.drawn_strips.specs.Strips.{IsBorderStrip}
use Rattle.drawn_strips.proofs.BorderWays.{border_runs_along}

-- ---- the strip of a segment
-- a sum of two points that is a multiple of a third is on its line of sight
sight_of_mix : (d : Triple) (p q m : Point) (h : IsMixOf p q m) → OnOneSight d (weighted_sum (pos h.i) p (pos h.j) q) m
sight_of_mix d p q m h = record { across = along (right_axis d); upward = along (up_axis d) }
  where
    turned : (k x w : ℤ) → (k *ℤ x) *ℤ w ≡ x *ℤ (k *ℤ w)
    turned k x w = ring (k ∷ x ∷ w ∷ []) ((var 0 ⊗ var 1) ⊗ var 2) (var 1 ⊗ (var 0 ⊗ var 2)) refl

    along : (a : Triple) → dot a (scaled (weighted_sum (pos h.i) p (pos h.j) q)) *ℤ m.w ≡ dot a (scaled m) *ℤ (weighted_sum (pos h.i) p (pos h.j) q).w
    along a =
        (λ t. (product_of_sum a (pos h.i) (pos h.j) p q ∙ mix_product a p q m h) t *ℤ m.w)
        ∙ turned h.k (dot a (scaled m)) m.w
        ∙ (λ t. dot a (scaled m) *ℤ sym h.w t)

-- side n of a face, one way and the other
side_there : {s : Part} (f : Face s) (n : ℕ) → IsSideOf f (start_corner f n) (end_corner f n)
side_there f zero = inl (inl (refl, refl))
side_there f (suc zero) = inr (inl (inl (refl, refl)))
side_there f (suc (suc n)) = inr (inr (inl (refl, refl)))

side_back : {s : Part} (f : Face s) (n : ℕ) → IsSideOf f (end_corner f n) (start_corner f n)
side_back f zero = inl (inr (refl, refl))
side_back f (suc zero) = inr (inl (inr (refl, refl)))
side_back f (suc (suc n)) = inr (inr (inr (refl, refl)))

-- a segment's ends are on its line, and seen at two places
pub segment_ends : (c : Plane) (s : Part) → IsClosed s → (x : Segment) → IsSegmentOf c s x → AreStripEnds (toward_of c) x.line x.a x.b
segment_ends c s closed x h = record {
  first = first_on c s x h (of_spot x.a) x.a.positive;
  second = second_on c s x h (of_spot x.a) x.a.positive;
  apart = border_apart c h.face (of_spot x.a) (of_spot x.b) h.border (closed.none_flat h.face);
}

-- the direction of a plane is one
pub dir_toward : (axis : Axis) (from_high : Bool) → (d : Dir) × (of_dir d ≡ side_of axis from_high)
dir_toward X true = (record { x = pos 1; y = pos 0; z = pos 0; x_in_range = omega arith; y_in_range = omega arith; z_in_range = omega arith; not_zero = omega arith }, refl)
dir_toward Y true = (record { x = pos 0; y = pos 1; z = pos 0; x_in_range = omega arith; y_in_range = omega arith; z_in_range = omega arith; not_zero = omega arith }, refl)
dir_toward Z true = (record { x = pos 0; y = pos 0; z = pos 1; x_in_range = omega arith; y_in_range = omega arith; z_in_range = omega arith; not_zero = omega arith }, refl)
dir_toward X false = (record { x = negsuc 0; y = pos 0; z = pos 0; x_in_range = omega arith; y_in_range = omega arith; z_in_range = omega arith; not_zero = omega arith }, refl)
dir_toward Y false = (record { x = pos 0; y = negsuc 0; z = pos 0; x_in_range = omega arith; y_in_range = omega arith; z_in_range = omega arith; not_zero = omega arith }, refl)
dir_toward Z false = (record { x = pos 0; y = pos 0; z = negsuc 0; x_in_range = omega arith; y_in_range = omega arith; z_in_range = omega arith; not_zero = omega arith }, refl)

module _ (c : Plane) (s : Part) (closed : IsClosed s) (in_range : All (IsBelow (length s.corners)) s.triangles) (x : Segment) (h : IsSegmentOf c s x) (y : Strip) (is : IsBorderStrip x y) where
  abbrev d : Triple
  d = toward_of c

  ends : AreEnds c h.face.a h.face.b h.face.c (of_spot y.a) (of_spot y.b)
  ends =
      subst (λ (p : Point). AreEnds c h.face.a h.face.b h.face.c p (of_spot y.b)) (sym is.from)
      (subst (λ (q : Point). AreEnds c h.face.a h.face.b h.face.c (of_spot x.a) q) (sym is.to) (border_ends c h.face (of_spot x.a) (of_spot x.b) h.border))

  -- on the segment's line, and so on the strip's
  on_line : (p q : Point) → p ≡ q → IsOnLine d x.line q → IsOnLine d y.line p
  on_line p q at on = subst (λ (l : Line). IsOnLine d l p) (sym is.line) (subst (IsOnLine d x.line) (sym at) on)

  pub border_strip_ends : AreStripEnds d y.line y.a y.b
  border_strip_ends =
      let given = segment_ends c s closed x h in
      record {
        first = on_line (of_spot y.a) (of_spot x.a) is.from given.first;
        second = on_line (of_spot y.b) (of_spot x.b) is.to given.second;
        apart = λ sight. given.apart (subst (λ (p : Point). OnOneSight d p (of_spot x.b)) is.from (subst (λ (q : Point). OnOneSight d (of_spot y.a) q) is.to sight));
      }

  pub strip_runs : (r : Point) → IsOnBorder c h.face r → RunsAlong d y.line (step_of c (border h.face))
  strip_runs r on = border_runs_along c h.face (closed.none_flat h.face) y.line (λ q there plane. on_line q q refl (h.line q there plane)) r on

  module _ (p : Point) where
    -- no ordinary point is at an end: it is on an edge and on the plane
    off_end : (k l : Corner) → IsSideOf h.face k l → GoesBeyond c k l → IsOrdinaryInCut c s p → ¬ OnOneSight d (crossing_of c k l) p
    off_end k l side goes ordinary =
        let e = side-edge s closed in_range h.face k l side in
        ordinary.off_ends e.edge (crossing_of c k l)
        (subst (λ (a : Corner). IsPointOfEdge a e.edge.b (crossing_of c k l)) (sym e.at_a) (subst (λ (b : Corner). IsPointOfEdge k b (crossing_of c k l)) (sym e.at_b) (crossing_on_side c k l goes)))
        (crossing_on_plane c k l goes)

    pub off_border_ends : IsOrdinaryInCut c s p → (¬ OnOneSight d (of_spot y.a) p) × (¬ OnOneSight d (of_spot y.b) p)
    off_border_ends ordinary = (
      λ sight. off_end (start_corner h.face h.border.first) (end_corner h.face h.border.first) (side_there h.face h.border.first) h.border.goes ordinary
          (subst (λ (q : Point). OnOneSight d q p) (is.from ∙ h.border.from) sight),
      λ sight. off_end (end_corner h.face h.border.second) (start_corner h.face h.border.second) (side_back h.face h.border.second) h.border.returns ordinary
          (subst (λ (q : Point). OnOneSight d q p) (is.to ∙ h.border.to) sight),
    )

    -- the strip lies where a point of the border does
    pub point_of_border : LiesOnStrip d y p → (q : Point) × IsOnBorder c h.face q × OnOneSight d q p
    point_of_border (i, j, some, sight) = (spot_sum y.a y.b i j, (ends.on_face i j some, ends.on_plane i j), sight)

    pub strip_of_border : (q : Point) → IsPoint q → IsOnBorder c h.face q → OnOneSight d q p → LiesOnStrip d y p
    strip_of_border q positive on sight =
        let mix = ends.within q on.0 on.1 in
        (mix.i, mix.j, mix.some, sight_on d (spot_sum y.a y.b mix.i mix.j) q p positive (sight_of_mix d (of_spot y.a) (of_spot y.b) q mix) sight)
