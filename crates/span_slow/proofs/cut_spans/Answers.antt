use Rattle.std.proofs.Common.{List, [], ◌∷◌, sym, subst, ◌∙◌}
use Rattle.std.proofs.lemmas.List.Elements.{All-head}
use Rattle.lattice.specs.Cuts.{Plane, plane_of}
use Rattle.solid_mesh.specs.Solids.{solid_part}
use Rattle.lattice.specs.declared.spans.Span.{Span}
use Rattle.geometry.specs.Spans.{CoverEdge}
use Rattle.cut_plane.specs.Beyond.{IsStretch, IsPartBeyond}
use Rattle.span_slow.specs.inner.Steps.{AreClipped}
use Rattle.span_slow.specs.CutSpans.{AreCutSpans}
use Rattle.span_slow.proofs.Numbered.{if_ok}
use Rattle.span_slow.proofs.Told.{read_ends}
use Rattle.span_slow.proofs.CutTold.{no_spans, cut_spans_are}
use Rattle.span_slow.proofs.cut_spans.Goals as goal

pub returns-in_default : goal.returns-in_default
returns-in_default c e numbered =
    let s = solid_part c.args.solid.now in
    let q = plane_of c.args.section.now.cut in
    let (at_a, at_b) = read_ends s e c.edge-numbers.result c.corner.result c.corner-2.result (c.edge-numbers.ensures.each e numbered) c.corner.ensures c.corner-2.ensures in
    let none : IsPartBeyond q e [] =
    subst (λ (p : Plane). IsPartBeyond p e []) c.new-seen.ensures.plane (c.in_default.ensures s e (at_a ∙ sym c.new-seen.ensures.a) (at_b ∙ sym c.new-seen.ensures.b)) in
    subst (AreCutSpans q e) (sym c.new.ensures.items) (no_spans q e none)

pub spans_of-requires : goal.spans_of-requires
spans_of-requires c =
    let s = solid_part c.args.solid.now in
    let there = c.edge-numbers.ensures.edge in
    let (at_a, at_b) = read_ends s there.edge c.edge-numbers.result c.corner.result c.corner-2.result there.numbers c.corner.ensures c.corner-2.ensures in
    (c.in_ok-hidden.ensures there.edge there.numbered (at_a ∙ sym c.new-seen.ensures.a) (at_b ∙ sym c.new-seen.ensures.b)).stretches

pub clipped-requires-clause-cover : goal.clipped-requires-clause-cover
clipped-requires-clause-cover c = subst CoverEdge (sym c.deref.ensures.value) c.in_ok-spans.ensures.covers

pub clipped-requires-clause-stretch : goal.clipped-requires-clause-stretch
clipped-requires-clause-stretch c =
    let s = solid_part c.args.solid.now in
    let e = c.edge-numbers.ensures.edge.edge in
    let (at_a, at_b) = read_ends s e c.edge-numbers.result c.corner.result c.corner-2.result c.edge-numbers.ensures.edge.numbers c.corner.ensures c.corner-2.ensures in
    let beyond = c.in-Some.ensures s e (at_a ∙ sym c.new-seen.ensures.a) (at_b ∙ sym c.new-seen.ensures.b) in
    All-head IsStretch c.in-Some.part [] beyond.stretches

pub returns : goal.returns
returns c e numbered =
    let s = solid_part c.args.solid.now in
    let q = plane_of c.args.section.now.cut in
    let part = c.in-Some.part in
    let spans = c.in_ok-spans.spans.items in
    let hidden = c.in_ok-hidden.hidden.items in
    let (at_a, at_b) = read_ends s e c.edge-numbers.result c.corner.result c.corner-2.result (c.edge-numbers.ensures.each e numbered) c.corner.ensures c.corner-2.ensures in
    let begins = at_a ∙ sym c.new-seen.ensures.a in
    let ends = at_b ∙ sym c.new-seen.ensures.b in
    let beyond : IsPartBeyond q e (part ∷ []) = subst (λ (p : Plane). IsPartBeyond p e (part ∷ [])) c.new-seen.ensures.plane (c.in-Some.ensures s e begins ends) in
    let told = c.in_ok-hidden.ensures e numbered begins ends in
    if_ok c.clipped.result
    (λ clipped right. cut_spans_are q s e part beyond hidden told spans clipped.items c.in_ok-spans.ensures (subst (λ (xs : List Span). AreClipped part xs clipped.items) c.deref.ensures.value right))
    c.clipped.ensures
