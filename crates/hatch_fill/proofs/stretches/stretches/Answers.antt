use Rattle.lattice.specs.Points.{of_dir}
use Rattle.hatch_fill.specs.inner.Stretches.{AreStretches}
use Rattle.hatch_fill.proofs.Joined.{joined_more}
use Rattle.hatch_fill.proofs.stretches.stretches.Goals as goal

pub loop-segment-preserved : goal.loop-segment-preserved
loop-segment-preserved c =
    joined_more (AreStretches (of_dir c.args.d.now) c.args.spacing) c.args.segments.now c.loop-segment.segment-index c.segment-item.result c.loop-segment.intervals.items c.add_stretch.new.intervals.items c.loop-segment-test.true c.segment-item.is
    c.loop-segment.invariant c.in_ok-add_stretch.ensures
