use Rattle.std.proofs.Common.{◌↔◌, get_or, subst, ◌∙◌}
use Rattle.std.specs.Prelude.{IsTrue}
use Rattle.std.proofs.lemmas.Option.{get_or_from_slice_get}
use Rattle.lattice.specs.Triple.{Triple}
use Rattle.lattice.specs.Points.{of_spot}
use Rattle.lattice.specs.Cuts.{plane_of, toward_of}
use Rattle.cut_plane.specs.declared.segments.Segment.{Segment}
use Rattle.cut_plane.specs.Sides.{IsRightOf}
use Rattle.cut_count.proofs.BorderTurns.{right_is_left, segment_listed}
use Rattle.cut_count.proofs.border.border_cover.Goals as goal

pub returns-clause-answer : goal.returns-clause-answer
returns-clause-answer c s f x borders listed number =
    let section = c.args.section.now in
    let plane = plane_of section.cut in
    let y = c.index-as_slice-segment.result in
    let same = c.index-as_slice-segment.is ∙ (λ i. get_or (c.as_slice.ensures.value i) c.args.segment y) ∙ get_or_from_slice_get section.segments.items c.args.segment x y listed in
    right_is_left plane s x (segment_listed plane s section.segments.items section.loops.items borders c.args.segment x listed) f number (of_spot c.args.p.now) c.args.p.now.positive c.is_right_of.result
    (subst (λ (z : Segment). IsTrue c.is_right_of.result ↔ IsRightOf (toward_of plane) z (of_spot c.args.p.now)) same
    (subst (λ (d : Triple). IsTrue c.is_right_of.result ↔ IsRightOf d y (of_spot c.args.p.now)) c.dir.ensures c.is_right_of.ensures))
