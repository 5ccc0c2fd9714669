-- The lines of a part's corners and edges in a view.
use Rattle.std.proofs.Common.{◌≡◌, ℕ, ◌+◌, List, [], ◌∷◌, ◌++◌, Contains, Some, flat_map, slice_get}
use Rattle.std.specs.Prelude.{ℤ, pos, ◌*ℤ◌}
use Rattle.std.proofs.lemmas.List.Elements.{Contains-append_left, Contains-append_right}
use Rattle.std.proofs.lemmas.Option.{slice_get_within, get_or_from_slice_get}
use Rattle.lattice.specs.declared.points.Corner.{Corner}
use Rattle.lattice.specs.Triple.{Triple, det}
use Rattle.lattice.specs.Points.{Point, point_of, scaled, difference}
use Rattle.geometry.specs.Faces.{IsPointOfEdge}
use Rattle.geometry.specs.Parts.{Part, Edge}
use Rattle.geometry.specs.Views.{IsSeenOver}
use Rattle.geometry.proofs.EdgeStepLines.{on_line_between, edge_point-is_point}
use Rattle.drawing_laws.proofs.LinesAlong.{line_along, on_line_along, on_line_of_sight, IsHeldAlong}
use Rattle.drawing_laws.proofs.LinesListed.{for_two, Contains-flat_map, Contains-for_two, Contains-first}
use Rattle.drawing_laws.proofs.LinesThrough.{lines_through}
use Rattle.drawing_laws.proofs.Sparse.{ViewLine, IsOnViewLine}

-- ---- the line from corner to corner
abbrev pub edge_line : Triple → Corner → Corner → ViewLine
edge_line d k l = line_along d (difference k l) (pos 2 *ℤ det d (difference k l) (scaled (point_of k)))

pub on_edge_line : (d : Triple) (k l : Corner) (q : Point) → IsPointOfEdge k l q → IsOnViewLine d (edge_line d k l) q
on_edge_line d k l q there = on_line_along d (difference k l) (pos 2 *ℤ det d (difference k l) (scaled (point_of k))) q (on_line_between d k l q there)

-- ---- listed corners
pub listed_corner : (corners : List Corner) (n : ℕ) (k : Corner) → slice_get corners n ≡ Some k → Contains corners k
listed_corner corners n k at = (n, slice_get_within corners n k at, get_or_from_slice_get corners n k k at)

-- ---- the lines through all corners, and from each to each
abbrev pub corner_lines : Triple → Part → List ViewLine
corner_lines d s = flat_map (λ k. lines_through d (point_of k)) s.corners

abbrev pub edge_lines : Triple → Part → List ViewLine
edge_lines d s = for_two s.corners (λ k l. edge_line d k l ∷ [])

abbrev pub part_lines : Triple → Part → List ViewLine
part_lines d s = corner_lines d s ++ edge_lines d s

module _ (d : Triple) (s : Part) (lines : List ViewLine) (within : (l : ViewLine) → Contains (part_lines d s) l → Contains lines l) where
  pub lines_of_corner : (k : Corner) → Contains s.corners k → (l : ViewLine) → Contains (lines_through d (point_of k)) l → Contains lines l
  lines_of_corner k here l there =
      within l (Contains-append_left (corner_lines d s) (edge_lines d s) l (Contains-flat_map (λ k. lines_through d (point_of k)) s.corners k l here there))

  line_of_edge : (e : Edge s) → Contains lines (edge_line d e.a e.b)
  line_of_edge e =
      within (edge_line d e.a e.b) (Contains-append_right (corner_lines d s) (edge_lines d s) (edge_line d e.a e.b)
      (Contains-for_two s.corners (λ k l. edge_line d k l ∷ []) e.a e.b (edge_line d e.a e.b)
      (listed_corner s.corners e.m e.a e.at_m) (listed_corner s.corners e.n e.b e.at_n) (Contains-first (edge_line d e.a e.b) [])))

  -- the line of an edge that is seen over p holds p
  pub edge_held : (e : Edge s) (p : Point) → IsSeenOver d e p → IsHeldAlong d lines p (difference e.a e.b)
  edge_held e p (q, on_edge, same) = record {
    number = pos 2 *ℤ det d (difference e.a e.b) (scaled (point_of e.a));
    listed = line_of_edge e;
    on = on_line_of_sight d (edge_line d e.a e.b) q p (edge_point-is_point e.a e.b q on_edge) same (on_edge_line d e.a e.b q on_edge);
  }
