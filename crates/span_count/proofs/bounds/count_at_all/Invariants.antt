use Rattle.std.proofs.Common.{◌≤◌, ◌*◌, take}
use Rattle.solid_mesh.specs.Solids.{solid_part, edge_halves}
use Rattle.span_count.proofs.EndCounts.{IsSumOfEnds}
use Rattle.span_count.proofs.bounds.count_at_all.Given as goal

-- the counts of the edges so far
abbrev pub invariant-loop-edge : goal.invariant-loop-edge
invariant-loop-edge l =
    record {
      counted : IsSumOfEnds (solid_part l.solid) (edge_halves l.solid) (take l.edge-index l.edges) l.count;
      small : l.count ≤ 40000 * l.edge-index;
    }
