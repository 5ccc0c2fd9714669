use Rattle.std.proofs.Common.{refl}
use Rattle.solid_mesh.specs.Solids.{solid_part, edge_halves}
use Rattle.span_count.proofs.EndCounts.{end_count}
use Rattle.span_count.proofs.bounds.count_at_ends.Goals as goal

pub returns-clause-count : goal.returns-clause-count
returns-clause-count c =
    let solid = c.args.solid.now in
    end_count (solid_part solid) (edge_halves solid) c.args.edge c.edge-numbers.result c.count_at.result c.count_at-2.result _ c.edge-numbers.ensures.edge
    c.count_at.ensures.count c.count_at-2.ensures.count refl
