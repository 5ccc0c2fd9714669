use Rattle.std.proofs.Common.{subst, arith}
use Rattle.std.proofs.lemmas.List.{take_all}
use Rattle.piece_verify.specs.Checked.{AreKnown}
use Rattle.piece_verify.proofs.Verdicts.{known_more, stranger_at}
use Rattle.piece_verify.proofs.check.first_stranger.Goals as goal

pub returns-then-entry-len : goal.returns-then-entry-len
returns-then-entry-len c =
    stranger_at c.args.job.now c.args.entries.now c.loop-place.place c.index-entries-place.result c.loop-place-test.true c.index-entries-place.is
    (omega (arith, c.if-entry-len.true, c.len.ensures)) c.loop-place.invariant

pub loop-place-preserved : goal.loop-place-preserved
loop-place-preserved c =
    known_more c.args.job.now c.args.entries.now c.loop-place.place c.index-entries-place.result c.loop-place-test.true c.index-entries-place.is
    (omega (arith, c.if-entry-len.false, c.len.ensures)) c.loop-place.invariant

pub returns : goal.returns
returns c = subst (AreKnown c.args.job.now) (take_all c.loop-place.place c.args.entries.now c.loop-place-test.false) c.loop-place.invariant
