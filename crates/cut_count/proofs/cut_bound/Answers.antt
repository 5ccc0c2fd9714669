use Rattle.std.proofs.Common.{arith}
use Rattle.lattice.specs.Cuts.{plane_of, toward_of}
use Rattle.solid_mesh.specs.Solids.{solid_part}
use Rattle.solid_mesh.proofs.Facts.{few_triangles}
use Rattle.edge_pick.proofs.PickedSizes.{few_drawn, few_outlines}
use Rattle.cut_count.proofs.CutBounds.{few_segments, cost_small, bound_small}
use Rattle.cut_count.proofs.cut_bound.Goals as goal

pub overflow_add-result-2 : goal.overflow_add-result-2
overflow_add-result-2 c =
    let solid = c.args.solid.now in
    let plane = plane_of c.args.section.now.cut in
    let segments = few_segments plane (solid_part solid) c.args.section.now.segments.items c.args.section.now.loops.items c.requires.borders in
    omega (
      arith,
      cost_small c.from.result c.len-outlines.result c.len-segments.result (omega (arith, c.from.ensures, c.triangles.ensures.count, few_triangles solid))
          (omega (arith, c.len-outlines.ensures, few_outlines solid c.args.picked.now (toward_of plane, c.requires.picked.0, c.requires.picked.1))) (omega (arith, c.from.ensures, c.triangles.ensures.count, c.len-segments.ensures, segments)),
    )

pub returns-clause-size : goal.returns-clause-size
returns-clause-size c =
    let solid = c.args.solid.now in
    let plane = plane_of c.args.section.now.cut in
    let segments = few_segments plane (solid_part solid) c.args.section.now.segments.items c.args.section.now.loops.items c.requires.borders in
    bound_small c.len-drawn.result _ (omega (arith, c.len-drawn.ensures, few_drawn solid c.args.picked.now (toward_of plane, c.requires.picked.0, c.requires.picked.1)))
    (cost_small c.from.result c.len-outlines.result c.len-segments.result (omega (arith, c.from.ensures, c.triangles.ensures.count, few_triangles solid))
    (omega (arith, c.len-outlines.ensures, few_outlines solid c.args.picked.now (toward_of plane, c.requires.picked.0, c.requires.picked.1))) (omega (arith, c.from.ensures, c.triangles.ensures.count, c.len-segments.ensures, segments)))

pub overflow_mul-result-2 : goal.overflow_mul-result-2
overflow_mul-result-2 c = omega (arith, returns-clause-size c)
