use Rattle.std.proofs.Common.{List, ◌+◌, refl, sym, subst}
use Rattle.lattice.specs.declared.spans.Span.{Span}
use Rattle.span_slow.proofs.Turns.{AreTold, told_none, told_more, spans_right}
use Rattle.span_slow.proofs.alternating.alternating.Goals as goal

pub loop-x-init : goal.loop-x-init
loop-x-init c = told_none c.args.united.now c.start-from.result _ c.start-from.ensures.place c.start-from.ensures.num c.new-spans.ensures.items

pub loop-x-preserved : goal.loop-x-preserved
loop-x-preserved c =
    let united = c.args.united.now in
    let k = c.loop-x.x-index in
    let x = c.x-item.result in
    subst (λ (spans : List Span). AreTold united (k + 1) x.to spans) (sym c.in_ok-push.ensures.items)
    (told_more united c.requires.stretches c.requires.apart k c.loop-x.from c.loop-x.spans.items c.loop-x.invariant x c.loop-x-test.true (sym c.x-item.is)
    _ c.in_ok-add_span.ensures _ (refl, refl) (refl, refl) refl)

pub returns : goal.returns
returns c = spans_right c.args.united.now c.requires.stretches c.requires.apart c.loop-x.x-index c.loop-x.from c.loop-x.spans.items c.loop-x.invariant c.loop-x-test.false c.finish.result c.finish.ensures.num _ c.in_ok-add_span-2.ensures
