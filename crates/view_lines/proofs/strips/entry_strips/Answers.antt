use Rattle.std.proofs.Common.{List, All, ◌++◌, ◌∙◌, ap, sym, subst}
use Rattle.geometry.specs.Places.{IsEarlier}
use Rattle.lattice.specs.Points.{of_dir}
use Rattle.lattice.specs.declared.pieces.Strip.{Strip}
use Rattle.span_count.specs.declared.span.CountSpan.{CountSpan}
use Rattle.lattice.specs.declared.spans.Span.{Span}
use Rattle.view_lines.specs.inner.Told.{AreToldBy}
use Rattle.view_lines.specs.inner.Sources.{AreEntryStrips}
use Rattle.view_lines.proofs.CountedSpans.{told_earlier}
use Rattle.view_lines.proofs.strips.entry_strips.Goals as goal

pub add_strips-requires-clause-ordered : goal.add_strips-requires-clause-ordered
add_strips-requires-clause-ordered c =
    let x = c.args.entry.now in
    let spans = c.in_ok-spans.spans.items in
    subst (λ (xs : List Span). All (λ x. IsEarlier x.from x.to) xs) (sym c.deref-2.ensures.value)
    (told_earlier x.spans.items spans (subst (λ (xs : List CountSpan). AreToldBy xs spans) c.deref.ensures.value c.in_ok-spans.ensures) c.requires.chained)

pub returns : goal.returns
returns c =
    let x = c.args.entry.now in
    let told = subst (λ (xs : List Span). AreToldBy x.spans.items xs) (sym c.deref-2.ensures.value)
    (subst (λ (xs : List CountSpan). AreToldBy xs c.in_ok-spans.spans.items) c.deref.ensures.value c.in_ok-spans.ensures) in
    let (here, added, zip) = c.in_ok-add_strips.ensures in
    subst (AreEntryStrips (of_dir c.args.d.now) c.args.solid.now x) (sym (◌∙◌ {A = List Strip} added (ap (λ (ys : List Strip). ys ++ here) c.in_ok-strips.ensures.items))) (c.deref-2.result.now, told, zip)
