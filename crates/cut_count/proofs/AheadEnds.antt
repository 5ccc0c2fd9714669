-- Whether an odd number of borders crosses an edge's line after its first end: by the segments as they are told, and by the triangles.
use Rattle.std.proofs.Common.{◌≡◌, ℕ, Bool, false, List, [], ◌∷◌, refl, ◌∙◌}
use Rattle.std.specs.Prelude.{ℤ, pos, ◌+ℤ◌, ◌-ℤ◌, ◌*ℤ◌}
use Rattle.std.specs.Bool.{Decides}
use Rattle.integers.proofs.Logic.{same_tests}
use Rattle.integers.proofs.Ring.{var, con, ◌⊕◌, ◌⊖◌, ◌⊗◌, ring}
use Rattle.lattice.specs.declared.points.Corner.{Corner}
use Rattle.lattice.specs.Triple.{Triple, dot, right_axis}
use Rattle.lattice.specs.Points.{Point, of_spot, point_of}
use Rattle.lattice.specs.Cuts.{Plane, toward_of}
use Rattle.lattice.proofs.SightLines.{right_axis-is}
use Rattle.geometry.specs.Faces.{share_point}
use Rattle.geometry.specs.Parts.{Part, Edge, IsClosed}
use Rattle.hiding_laws.specs.Values.{side_of}
use Rattle.geometry.specs.Counts.{Side}
use Rattle.geometry.specs.Shares.{mark}
use Rattle.cut_plane.specs.declared.segments.Segment.{Segment}
use Rattle.cut_plane.specs.Loops.{AreBorders}
use Rattle.cut_plane.proofs.Sights.{Sight, sight_of, turn_of}
use Rattle.cut_plane.proofs.Xors.{odd_in, is_odd, odd_decides, odd_count}
use Rattle.cut_count_laws.specs.BorderShares.{way_turn}
use Rattle.cut_count_laws.proofs.Laws.{HasCornersInRange}
use Rattle.cut_count_laws.proofs.Rays.{border_ahead}
use Rattle.cut_count_laws.proofs.SectionSegments.{segment_ahead, odd_ahead}
use Rattle.cut_count.specs.inner.Borders.{IsAhead}
use Rattle.cut_count.specs.inner.Walks.{IsOddAhead}
use Rattle.cut_count.proofs.BehindEnds.{signs, mark_at, corner_turn, counts_decides}

-- the place 0 / 1 is the first corner
first_corner : (a b : Corner) → share_point a b (pos 0) (pos 1) ≡ point_of a
first_corner a b = λ t. record { x = one a.x b.x t; y = one a.y b.y t; z = one a.z b.z t; w = pos 1 }
  where
    one : (x y : ℤ) → ((pos 1 -ℤ pos 0) *ℤ x) +ℤ (pos 0 *ℤ y) ≡ x
    one x y = ring (x ∷ y ∷ []) (((con (pos 1) ⊖ con (pos 0)) ⊗ var 0) ⊕ (con (pos 0) ⊗ var 1)) (var 0) refl

module _ (k : Side) (c : Plane) (s : Part) (closed : IsClosed s) (in_range : HasCornersInRange s) (o : Corner) (e : Edge s) (segments : List Segment) (starts : List ℕ) (borders : AreBorders c s segments starts) where
  abbrev d : Triple
  d = toward_of c

  abbrev T : Sight
  T = sight_of d (share_point e.a e.b (pos 0) (pos 1))

  -- the segment crosses the edge's line after the first end
  abbrev test : Segment → Bool
  test = segment_ahead k c s closed in_range o e segments starts borders (pos 0) (pos 1)

  turn_start : (p q : Point) → turn_of (sight_of d p) (sight_of d q) T ≡ dot (right_axis d) (right_axis d) *ℤ way_turn d p q e.a
  turn_start p q = (λ t. turn_of (sight_of d p) (sight_of d q) (sight_of d (first_corner e.a e.b t))) ∙ corner_turn d e.a e.b p q e.a

  segment_decides : (x : Segment) → Decides (test x) (IsAhead k false d e.a e.b (of_spot x.a) (of_spot x.b))
  segment_decides x =
      let p = of_spot x.a in let q = of_spot x.b in
      counts_decides _ _ (mark k (side_of d e.a e.b p)) (mark k (side_of d e.a e.b q)) (way_turn d p q e.a) (turn_of (sight_of d p) (sight_of d q) T)
      (mark_at d e.a e.b k p) (mark_at d e.a e.b k q)
      (signs (dot (right_axis d) (right_axis d)) _ _ (right_axis-is d).square (turn_start p q))

  -- whether an odd number is ahead of the first end
  pub odd_from_start : (odd : Bool) → IsOddAhead k false d e.a e.b segments odd → odd ≡ odd_in (border_ahead k c s o e (pos 0) (pos 1)) s.triangles
  odd_from_start odd (n, count, is) =
      same_tests odd (is_odd n) (λ h. (odd_decides n).1 (is.0 h)) (λ h. is.1 ((odd_decides n).0 h))
      ∙ odd_count (λ (x : Segment). IsAhead k false d e.a e.b (of_spot x.a) (of_spot x.b)) test segments n (λ x in_list. segment_decides x) count
      ∙ odd_ahead k c s closed in_range o e segments starts borders (pos 0) (pos 1)
