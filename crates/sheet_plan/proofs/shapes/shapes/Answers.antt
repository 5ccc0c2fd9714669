use Rattle.std.proofs.Common.{arith}
use Rattle.std.proofs.lemmas.List.Elements.{All-push, All-same}
use Rattle.sheet_plan.specs.Numbers.{measure_of}
use Rattle.sheet_plan.specs.inner.Sizes.{IsSmall}
use Rattle.sheet_plan.proofs.Listed.{shapes_more, shapes_all}
use Rattle.sheet_plan.proofs.shapes.shapes.Goals as goal

pub loop-i-preserved : goal.loop-i-preserved
loop-i-preserved c =
    let ruler = c.args.ruler.now in
    let step = c.in_ok-push.ensures.items in
    record {
      value = shapes_more c.args.third (measure_of ruler.scale ruler.decimals) c.args.views.now c.args.extents.now c.loop-i.i c.index-views-i.result c.index-extents-i.result c.shape_of.result
          c.loop-i.shapes.items _ _ c.loop-i-test.true (omega (arith, c.loop-i-test.true, c.requires)) c.index-views-i.is c.index-extents-i.is c.shape_of.ensures.value step c.loop-i.invariant.value;
      small = All-same IsSmall _ _ step (All-push IsSmall c.loop-i.shapes.items c.shape_of.result c.loop-i.invariant.small c.shape_of.ensures.small);
    }

pub returns : goal.returns
returns c =
    let ruler = c.args.ruler.now in
    record {
      value = shapes_all c.args.third (measure_of ruler.scale ruler.decimals) c.args.views.now c.args.extents.now c.loop-i.i _ _ c.loop-i-test.false c.loop-i.invariant.value;
      small = c.loop-i.invariant.small;
    }
