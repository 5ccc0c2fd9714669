-- The points that aren't ordinary in a plain view beside the traces of cuts are on few lines of sight: those of the corners and of the two
-- ends of each trace, and one for each pair of edges or traces.
use Rattle.std.proofs.Common.{◌⊎◌, inl, inr, ℕ, ◌+◌, ◌*◌, ◌≤◌, List, ◌++◌, Contains, length, sym, subst}
use Rattle.std.proofs.lemmas.List.Elements.{All-append, Contains-append_left, Contains-append_right}
use Rattle.lattice.specs.Cuts.{Plane}
use Rattle.lattice.specs.Points.{Point, IsPoint}
use Rattle.lattice.specs.Triple.{Triple}
use Rattle.geometry.specs.Parts.{Part, AreEdges}
use Rattle.geometry.specs.Traces.{TraceRuns, EdgeRuns, IsOrdinaryBeside}
use Rattle.geometry.specs.Exceptions.{pairs_of, IsInSightOfOne, HoldsExceptAt}
use Rattle.geometry.proofs.CornerMarks.{corner_marks, corner_marks-few, corner_marks-points, ordinary_off}
use Rattle.geometry.proofs.Crossings.{StepLine, crossings}
use Rattle.geometry.proofs.EdgeStepLines.{line_between, edge_lines, edge_held}
use Rattle.geometry.proofs.ForEach.{for_edges-few}
use Rattle.geometry.proofs.Lists.{at_most_one_each, length-joined}
use Rattle.geometry.proofs.Marks.{IsStill, IsHeld, parallel_steps, except_at}
use Rattle.geometry.proofs.TraceEnds.{trace_end_marks, trace_end_marks-few, trace_end_marks-points, off_trace_end}
use Rattle.geometry.proofs.TraceStepLines.{trace_lines, trace_lines-few, trace_held}

module _ (d : Triple) (s : Part) (cuts : List Plane) (halves : List ℕ) (edges : AreEdges s halves) where
  abbrev marks : List Point
  marks = corner_marks s ++ trace_end_marks d s cuts

  abbrev lines : List StepLine
  lines = edge_lines d s halves ++ trace_lines d cuts

  marks-few : length marks ≤ length s.corners + 2 * length cuts
  marks-few = length-joined (corner_marks s) (trace_end_marks d s cuts) (length s.corners) (2 * length cuts) (at_most_one_each _ _ (corner_marks-few s)) (trace_end_marks-few d s cuts)

  lines-few : length lines ≤ length halves + length cuts
  lines-few =
      length-joined (edge_lines d s halves) (trace_lines d cuts) (length halves) (length cuts)
      (at_most_one_each _ _ (for_edges-few (line_between d) s halves)) (at_most_one_each _ _ (trace_lines-few d cuts))

  of_edges : (l : StepLine) → Contains (edge_lines d s halves) l → Contains lines l
  of_edges l here = Contains-append_left (edge_lines d s halves) (trace_lines d cuts) l here

  trace : (p : Point) (way : Triple) → TraceRuns d s cuts p way → IsStill d way ⊎ IsHeld d lines p way
  trace p way runs = inr (trace_held d s cuts lines (λ l here. Contains-append_right (edge_lines d s halves) (trace_lines d cuts) l here) p way runs)

  edge_or_trace : (p : Point) (way : Triple) → EdgeRuns d s p way ⊎ TraceRuns d s cuts p way → IsStill d way ⊎ IsHeld d lines p way
  edge_or_trace p way (inl (e, seen, is)) = subst (λ (v : Triple). IsStill d v ⊎ IsHeld d lines p v) (sym is) (edge_held d s halves edges lines of_edges e p seen)
  edge_or_trace p way (inr runs) = trace p way runs

  ordinary : (p : Point) → ¬ IsInSightOfOne d marks p → ¬ IsInSightOfOne d (crossings d lines) p → IsOrdinaryBeside d s cuts p
  ordinary p off off_crossings = record {
    ordinary = ordinary_off d s marks (λ q here. Contains-append_left (corner_marks s) (trace_end_marks d s cuts) q here) p off halves edges lines of_edges off_crossings;
    off_ends = off_trace_end d s cuts marks (λ q here. Contains-append_right (corner_marks s) (trace_end_marks d s cuts) q here) p off;
    off_traces = λ way other runs runs_too. parallel_steps d lines p off_crossings way other (trace p way runs) (edge_or_trace p other runs_too);
  }

  pub ordinary_beside_except_at : HoldsExceptAt d (length s.corners + 2 * length cuts + pairs_of (length halves + length cuts)) (IsOrdinaryBeside d s cuts)
  ordinary_beside_except_at =
      except_at d (IsOrdinaryBeside d s cuts) marks lines (length s.corners + 2 * length cuts) (length halves + length cuts)
      (All-append IsPoint (corner_marks s) (trace_end_marks d s cuts) (corner_marks-points s) (trace_end_marks-points d s cuts)) marks-few lines-few ordinary
