use Rattle.lattice.specs.Points.{of_dir}
use Rattle.hatch_fill.specs.inner.Crossings.{AreCrossings}
use Rattle.hatch_fill.proofs.Joined.{joined_more}
use Rattle.hatch_fill.proofs.crossings.crossings.Goals as goal

pub loop-segment-preserved : goal.loop-segment-preserved
loop-segment-preserved c =
    joined_more (AreCrossings (of_dir c.args.d.now) c.args.spacing) c.args.segments.now c.loop-segment.segment-index c.segment-item.result c.loop-segment.places.items c.add_crossings.new.places.items c.loop-segment-test.true c.segment-item.is
    c.loop-segment.invariant c.in_ok-add_crossings.ensures
