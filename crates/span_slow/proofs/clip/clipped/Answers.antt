use Rattle.std.proofs.Common.{sym}
use Rattle.span_slow.proofs.ClippedSpans.{each_none, each_more, each_all, clipped_right}
use Rattle.span_slow.proofs.clip.clipped.Goals as goal

pub loop-span-init : goal.loop-span-init
loop-span-init c = each_none c.args.part.now c.args.spans.now c.new-clipped.result.items c.new-clipped.ensures.items

pub loop-span-preserved : goal.loop-span-preserved
loop-span-preserved c =
    each_more c.args.part.now c.args.spans.now c.loop-span.span-index c.span-item.result c.loop-span-test.true (sym c.span-item.is)
    c.loop-span.clipped.items c.loop-span.invariant c.add_clipped.new.clipped.items c.in_ok-add_clipped.ensures

pub returns : goal.returns
returns c =
    clipped_right c.args.part.now c.requires.stretch c.args.spans.now c.loop-span.clipped.items c.requires.cover c.requires.alternate
    (each_all c.args.part.now c.args.spans.now c.loop-span.span-index c.loop-span-test.false c.loop-span.clipped.items c.loop-span.invariant)
