-- The points that aren't ordinary in a cut view are on few lines of sight: those of the corners and of the ends of borders, and one for
-- each pair of edges or borders.
use Rattle.std.proofs.Common.{◌≡◌, ◌⊎◌, inr, ℕ, ◌+◌, ◌≤◌, List, [], ◌∷◌, ◌++◌, length, refl, sym, subst}
use Rattle.std.specs.Prelude.{ℤ, pos, ◌-ℤ◌, ◌*ℤ◌}
use Rattle.std.proofs.lemmas.List.Elements.{All-append, Contains-append_left, Contains-append_right}
use Rattle.integers.proofs.Absolutes.{natural_positive}
use Rattle.integers.proofs.Ring.{var, con, ◌⊕◌, ◌⊖◌, ◌⊗◌, ring, by_two}
use Rattle.lattice.specs.declared.points.Corner.{Corner}
use Rattle.lattice.specs.Cuts.{Plane, toward_of, plane_height}
use Rattle.lattice.specs.Points.{Point, IsPoint, point_of, scaled}
use Rattle.lattice.specs.Triple.{Triple, dot, cross, det}
use Rattle.lattice.proofs.Vectors.{letters, dots, crosses}
use Rattle.geometry.specs.Cuts.{EdgeOrBorder, edge, border, step_of, IsOnBorder, IsSeenOverInCut, IsOrdinaryInCut}
use Rattle.geometry.specs.Faces.{normal, IsPointOfFace}
use Rattle.geometry.specs.Parts.{Part, Face, AreEdges}
use Rattle.geometry.proofs.BorderSteps.{along_normal}
use Rattle.geometry.specs.Exceptions.{pairs_of, IsInSightOfOne, HoldsExceptAt}
use Rattle.geometry.proofs.BorderEnds.{end_marks, end_marks-few, end_marks-points, off_end}
use Rattle.geometry.proofs.CornerMarks.{corner_marks, corner_marks-few, corner_marks-points, off_corner}
use Rattle.geometry.proofs.Crossings.{StepLine, IsOnStepLine, crossings}
use Rattle.geometry.proofs.EdgeStepLines.{line_between, edge_lines, edge_held}
use Rattle.geometry.proofs.ForEach.{for_faces, for_edges-few, for_faces-few, Contains-for_faces}
use Rattle.geometry.proofs.Lists.{at_most_one_each, length-joined}
use Rattle.geometry.proofs.Marks.{IsStill, IsHeld, parallel_steps, except_at}

-- ---- the line of a border
-- a point of known products with d and with n
pub on_both : (d n p : Triple) (h g w : ℤ) → pos 2 *ℤ dot d p ≡ h *ℤ w → pos 1 *ℤ dot n p ≡ g *ℤ w → pos 2 *ℤ det d (cross d n) p ≡ ((dot d n *ℤ h) -ℤ ((pos 2 *ℤ dot d d) *ℤ g)) *ℤ w
on_both d n p h g w e f =
    by_two _ _ (pos 2 *ℤ dot d p) (h *ℤ w) (dot d n) (pos 1 *ℤ dot n p) (g *ℤ w) (pos 0 -ℤ (pos 2 *ℤ dot d d))
    (ring (d.x ∷ d.y ∷ d.z ∷ n.x ∷ n.y ∷ n.z ∷ p.x ∷ p.y ∷ p.z ∷ h ∷ g ∷ w ∷ [])
    ((con (pos 2) ⊗ dots (letters 0) (crosses (crosses (letters 0) (letters 3)) (letters 6)))
    ⊖ (((dots (letters 0) (letters 3) ⊗ var 9) ⊖ ((con (pos 2) ⊗ dots (letters 0) (letters 0)) ⊗ var 10)) ⊗ var 11))
    ((((con (pos 2) ⊗ dots (letters 0) (letters 6)) ⊖ (var 9 ⊗ var 11)) ⊗ dots (letters 0) (letters 3))
    ⊕ (((con (pos 1) ⊗ dots (letters 3) (letters 6)) ⊖ (var 10 ⊗ var 11)) ⊗ (con (pos 0) ⊖ (con (pos 2) ⊗ dots (letters 0) (letters 0))))) refl) e f

abbrev border_line : Plane → Corner → Corner → Corner → StepLine
border_line c k l m =
    let d = toward_of c in
    let n = normal k l m in
    record { step = cross d n; number = (dot d n *ℤ plane_height c) -ℤ ((pos 2 *ℤ dot d d) *ℤ dot n (scaled (point_of k))) }

on_border_line : (c : Plane) {s : Part} (f : Face s) (q : Point) → IsOnBorder c f q → IsOnStepLine (toward_of c) (border_line c f.a f.b f.c) q
on_border_line c f q on =
    let n = normal f.a f.b f.c in
    on_both (toward_of c) n (scaled q) (plane_height c) (dot n (scaled (point_of f.a))) q.w on.1 (along_normal f.a f.b f.c q on.0)

face_point-is_point : (a b c : Corner) (q : Point) → IsPointOfFace a b c q → IsPoint q
face_point-is_point a b c q (i, j, k, some, is) = subst IsPoint (sym is) (natural_positive (i + j + k) some)

-- ---- the view
module _ (c : Plane) (s : Part) (halves : List ℕ) (edges : AreEdges s halves) where
  abbrev d : Triple
  d = toward_of c

  abbrev marks : List Point
  marks = corner_marks s ++ end_marks c s halves

  abbrev border_lines : List StepLine
  border_lines = for_faces (border_line c) s

  abbrev lines : List StepLine
  lines = edge_lines d s halves ++ border_lines

  marks-few : length marks ≤ length s.corners + length halves
  marks-few =
      length-joined (corner_marks s) (end_marks c s halves) (length s.corners) (length halves)
      (at_most_one_each _ _ (corner_marks-few s)) (at_most_one_each _ _ (end_marks-few c s halves))

  lines-few : length lines ≤ length halves + length s.triangles
  lines-few =
      length-joined (edge_lines d s halves) border_lines (length halves) (length s.triangles)
      (at_most_one_each _ _ (for_edges-few (line_between d) s halves)) (at_most_one_each _ _ (for_faces-few (border_line c) s))

  held : (p : Point) (x : EdgeOrBorder s) → IsSeenOverInCut c x p → IsStill d (step_of c x) ⊎ IsHeld d lines p (step_of c x)
  held p (edge e) seen = edge_held d s halves edges lines (λ l here. Contains-append_left (edge_lines d s halves) border_lines l here) e p seen
  held p (border f) (q, on, same) = inr (record {
    line = border_line c f.a f.b f.c;
    listed = Contains-append_right (edge_lines d s halves) border_lines (border_line c f.a f.b f.c) (Contains-for_faces (border_line c) s f);
    seen = (q, face_point-is_point f.a f.b f.c q on.0, on_border_line c f q on, same);
    along = λ t none. none;
  })

  ordinary : (p : Point) → ¬ IsInSightOfOne d marks p → ¬ IsInSightOfOne d (crossings d lines) p → IsOrdinaryInCut c s p
  ordinary p off off_crossings = record {
    off_corners = off_corner d s marks (λ q here. Contains-append_left (corner_marks s) (end_marks c s halves) q here) p off;
    off_ends = off_end c s halves edges marks (λ q here. Contains-append_right (corner_marks s) (end_marks c s halves) q here) p off;
    off_crossings = λ x y seen_x seen_y. parallel_steps d lines p off_crossings (step_of c x) (step_of c y) (held p x seen_x) (held p y seen_y);
  }

  pub ordinary_in_cut_except_at : HoldsExceptAt d (length s.corners + length halves + pairs_of (length halves + length s.triangles)) (IsOrdinaryInCut c s)
  ordinary_in_cut_except_at =
      except_at d (IsOrdinaryInCut c s) marks lines (length s.corners + length halves) (length halves + length s.triangles)
      (All-append IsPoint (corner_marks s) (end_marks c s halves) (corner_marks-points s) (end_marks-points c s halves)) marks-few lines-few ordinary
