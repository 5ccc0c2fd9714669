use Rattle.std.proofs.Common.{arith}
use Rattle.solid_mesh.specs.Solids.{solid_part}
use Rattle.sheet_summary.proofs.Lines.{all_lines}
use Rattle.sheet_summary.proofs.cuts.cut_lines.Goals as goal

pub returns : goal.returns
returns c =
    let job = c.args.drawing.now.job in
    all_lines (solid_part c.args.drawing.now.solid) job.decimals c.args.in_units job.views.items c.args.marks.now c.loop-view.view _ _ (omega (arith, c.loop-view-test.false, c.min-view-end.ensures, c.len.ensures, job.views.ok.0)) c.loop-view.invariant
