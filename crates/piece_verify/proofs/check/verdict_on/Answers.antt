use Rattle.std.proofs.Common.{Option, subst, arith}
use Rattle.std.specs.Prelude.{MatchOption}
use Rattle.piece_verify.specs.Checked.{IsGoodIn, DiffersAt}
use Rattle.piece_verify.specs.Stands.{pieces_in}
use Rattle.piece_verify.specs.declared.check.Difference.{Difference}
use Rattle.piece_verify.proofs.Verdicts.{good_list, one_more_view, first_difference}
use Rattle.piece_verify.proofs.check.verdict_on.Goals as goal

pub returns-in-Some : goal.returns-in-Some
returns-in-Some c =
    first_difference c.args.solid.now c.args.job.now c.args.entries.now c.loop-view.view c.in-Some.found.place c.in-Some.found.want c.requires.known c.loop-view.invariant
    (omega (arith, c.loop-view-test.true, c.len-view-end.ensures))
    (λ asked is_view.
    subst (λ (o : Option Difference). MatchOption o (IsGoodIn c.args.solid.now c.args.job.now asked.spec (pieces_in c.loop-view.view c.args.entries.now))
    (λ x. DiffersAt c.args.solid.now c.args.job.now asked.spec (pieces_in c.loop-view.view c.args.entries.now) x.place x.want)) c.in-Some.is (c.in_ok-found.ensures asked is_view))

pub loop-view-preserved : goal.loop-view-preserved
loop-view-preserved c = one_more_view c.args.solid.now c.args.job.now c.args.entries.now c.loop-view.view c.loop-view.invariant
    (λ asked is_view.
    subst (λ (o : Option Difference). MatchOption o (IsGoodIn c.args.solid.now c.args.job.now asked.spec (pieces_in c.loop-view.view c.args.entries.now))
    (λ x. DiffersAt c.args.solid.now c.args.job.now asked.spec (pieces_in c.loop-view.view c.args.entries.now) x.place x.want)) c.in_default.is (c.in_ok-found.ensures asked is_view))

pub returns : goal.returns
returns c =
    good_list c.args.solid.now c.args.job.now c.args.entries.now c.requires.known
    (λ n asked within. c.loop-view.invariant n asked (omega (arith, within, c.loop-view-test.false, c.len-view-end.ensures)))
