use Rattle.std.proofs.Common.{length, refl, arith}
use Rattle.solid_mesh.proofs.Facts.{few_triangles}
use Rattle.solid_mesh.specs.Solids.{solid_part}
use Rattle.edge_pick.proofs.Lists.{few_rising}
use Rattle.span_count.proofs.bounds.count_at.Goals as goal

pub returns-clause-count : goal.returns-clause-count
returns-clause-count c = (c.star.result.now, c.star.ensures.at, refl)

pub returns-clause-size : goal.returns-clause-size
returns-clause-size c =
    let solid = c.args.solid.now in
    let triangles = length (solid_part solid).triangles in
    omega (arith, few_triangles solid, few_rising c.star.result.now triangles c.star.ensures.at.ascending c.star.ensures.within)
