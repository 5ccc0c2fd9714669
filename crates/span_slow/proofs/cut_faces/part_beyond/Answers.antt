use Rattle.lattice.specs.Cuts.{plane_of}
use Rattle.hiding_laws.specs.CutValues.{below_of}
use Rattle.span_slow.proofs.CutParts.{part_is}
use Rattle.span_slow.proofs.Where.{tells}
use Rattle.span_slow.proofs.cut_faces.part_beyond.Goals as goal

pub returns : goal.returns
returns c s e at_a at_b =
    let seen = c.args.edge.now.seen in
    let q = plane_of c.args.edge.now.cut in
    part_is q e c.beyond.result (tells e c.beyond.result (below_of q) seen.a seen.b at_a at_b c.beyond.ensures.start c.beyond.ensures.end)
    c.where_nonnegative.result c.where_nonnegative.ensures c.proper.result c.proper.ensures.kept c.proper.ensures.dropped
