use Rattle.std.proofs.Common.{arith}
use Rattle.std.proofs.lemmas.Option.{slice_get-get_or}
use Rattle.flip_slivers.proofs.MeasureLemmas.{all_measured, none_measured, more_measured}
use Rattle.flip_slivers.proofs.measures.measure_all.Goals as goal

pub loop-t-init : goal.loop-t-init
loop-t-init c = none_measured c.args.corners.now c.args.triangles.now c.new-measures.result.items c.new-measures.ensures.items

pub loop-t-preserved : goal.loop-t-preserved
loop-t-preserved c =
    more_measured c.args.corners.now c.args.triangles.now c.loop-t.t-index _ c.measure_of.result c.loop-t.measures.items c.push.new.self.items c.loop-t.invariant
    (slice_get-get_or c.args.triangles.now c.loop-t.t-index (record { a = 0; b = 0; c = 0 }) c.loop-t-test.true) c.measure_of.ensures c.in_ok-push.ensures.items

pub returns : goal.returns
returns c = all_measured c.args.corners.now c.args.triangles.now c.loop-t.t-index c.loop-t.measures.items (omega arith) c.loop-t.invariant
