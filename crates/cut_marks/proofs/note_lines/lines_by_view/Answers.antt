use Rattle.std.proofs.Common.{sym}
use Rattle.cut_marks.proofs.Written.{one_noted, all_noted}
use Rattle.cut_marks.proofs.note_lines.lines_by_view.Goals as goal

pub loop-view-preserved : goal.loop-view-preserved
loop-view-preserved c =
    one_noted c.args.views.now c.loop-view.view c.index-views-view.result _ _ _ c.loop-view-test.true (sym c.index-views-view.is) c.in_ok-add_notes.ensures c.loop-view.invariant

pub returns : goal.returns
returns c = all_noted c.args.views.now c.loop-view.view _ _ c.loop-view-test.false c.loop-view.invariant
