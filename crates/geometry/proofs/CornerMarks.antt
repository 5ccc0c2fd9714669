-- The corners of a part as marks in a view, and that what is off all marks and crossings is ordinary there.
use Rattle.std.proofs.Common.{List, [], ◌∷◌, All, Contains, length, flat_map, ℕ, ◌*◌, ◌≤◌, arith}
use Rattle.std.proofs.lemmas.Int.{ints}
use Rattle.std.proofs.lemmas.List.Elements.{All-cons, All-nil}
use Rattle.lattice.specs.declared.points.Corner.{Corner}
use Rattle.lattice.specs.Points.{Point, IsPoint, point_of, OnOneSight}
use Rattle.lattice.specs.Triple.{Triple}
use Rattle.geometry.specs.Faces.{difference}
use Rattle.geometry.specs.Parts.{Part, AreEdges}
use Rattle.geometry.specs.Views.{IsOrdinary}
use Rattle.geometry.specs.Exceptions.{IsInSightOfOne}
use Rattle.geometry.proofs.Crossings.{StepLine, crossings}
use Rattle.geometry.proofs.EdgeStepLines.{edge_lines, edge_held}
use Rattle.geometry.proofs.Lists.{Contains-first, Contains-flat_map, All-flat_map, length-flat_map-few}
use Rattle.geometry.proofs.Marks.{parallel_steps}

abbrev mark_of : Corner → List Point
mark_of k = point_of k ∷ []

abbrev pub corner_marks : Part → List Point
corner_marks s = flat_map mark_of s.corners

pub corner_marks-few : (s : Part) → length (corner_marks s) ≤ 1 * length s.corners
corner_marks-few s = length-flat_map-few mark_of 1 (λ k. omega arith) s.corners

pub corner_marks-points : (s : Part) → All IsPoint (corner_marks s)
corner_marks-points s = All-flat_map mark_of IsPoint (λ k. All-cons IsPoint (point_of k) [] (omega (arith, ints)) (All-nil IsPoint)) s.corners

module _ (d : Triple) (s : Part) (marks : List Point) (within : (q : Point) → Contains (corner_marks s) q → Contains marks q) (p : Point) (off : ¬ IsInSightOfOne d marks p) where
  pub off_corner : (k : Corner) → Contains s.corners k → ¬ OnOneSight d (point_of k) p
  off_corner k here same = off (point_of k, within (point_of k) (Contains-flat_map mark_of s.corners k (point_of k) here (Contains-first (point_of k) [])), same)

  module _ (halves : List ℕ) (edges : AreEdges s halves) (lines : List StepLine) (lines_within : (l : StepLine) → Contains (edge_lines d s halves) l → Contains lines l)
      (off_crossings : ¬ IsInSightOfOne d (crossings d lines) p) where
    pub ordinary_off : IsOrdinary d s p
    ordinary_off = record {
      off_corners = off_corner;
      off_crossings = λ e f seen_e seen_f. parallel_steps d lines p off_crossings (difference e.a e.b) (difference f.a f.b)
          (edge_held d s halves edges lines lines_within e p seen_e) (edge_held d s halves edges lines lines_within f p seen_f);
    }
