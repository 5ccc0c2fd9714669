use Rattle.std.proofs.Common.{refl, arith}
use Rattle.solid_mesh.specs.Solids.{solid_part, edge_halves}
use Rattle.span_count.proofs.EndCounts.{ends_none, ends_more}
use Rattle.span_count.proofs.bounds.count_at_all.Goals as goal

pub loop-edge-init : goal.loop-edge-init
loop-edge-init c = record { counted = ends_none (solid_part c.args.solid.now) (edge_halves c.args.solid.now); small = omega arith }

pub loop-edge-preserved : goal.loop-edge-preserved
loop-edge-preserved c =
    let solid = c.args.solid.now in
    record {
      counted = ends_more (solid_part solid) (edge_halves solid) c.args.edges.now c.loop-edge.edge-index c.count_at_ends-count.result c.loop-edge.count _
          c.loop-edge-test.true c.loop-edge.invariant.counted c.count_at_ends-count.ensures.count refl;
      small = omega (arith, c.loop-edge.invariant.small, c.count_at_ends-count.ensures.size);
    }
