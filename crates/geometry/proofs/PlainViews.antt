-- The points that aren't ordinary in a plain view are on few lines of sight: those of the corners, and one for each pair of edges.
use Rattle.std.proofs.Common.{ℕ, ◌+◌, List, length}
use Rattle.lattice.specs.Triple.{Triple}
use Rattle.geometry.specs.Parts.{Part, AreEdges}
use Rattle.geometry.specs.Views.{IsOrdinary}
use Rattle.geometry.specs.Exceptions.{pairs_of, HoldsExceptAt}
use Rattle.geometry.proofs.CornerMarks.{corner_marks, corner_marks-few, corner_marks-points, ordinary_off}
use Rattle.geometry.proofs.EdgeStepLines.{line_between, edge_lines}
use Rattle.geometry.proofs.ForEach.{for_edges-few}
use Rattle.geometry.proofs.Lists.{at_most_one_each}
use Rattle.geometry.proofs.Marks.{except_at}

pub ordinary_except_at : (d : Triple) (s : Part) (halves : List ℕ) → AreEdges s halves → HoldsExceptAt d (length s.corners + pairs_of (length halves)) (IsOrdinary d s)
ordinary_except_at d s halves edges =
    except_at d (IsOrdinary d s) (corner_marks s) (edge_lines d s halves) (length s.corners) (length halves) (corner_marks-points s)
    (at_most_one_each _ _ (corner_marks-few s)) (at_most_one_each _ _ (for_edges-few (line_between d) s halves))
    (λ p off off_crossings. ordinary_off d s (corner_marks s) (λ q here. here) p off halves edges (edge_lines d s halves) (λ l here. here) off_crossings)
