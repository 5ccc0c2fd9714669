use Rattle.std.proofs.Common.{List, sym, subst, take, ◌+◌}
use Rattle.std.specs.List.{AllZip}
use Rattle.lattice.specs.declared.pieces.HatchLine.{HatchLine}
use Rattle.lattice.specs.Cuts.{plane_of}
use Rattle.line_merge.proofs.Zips.{zip_more}
use Rattle.hatch_fill.specs.inner.Lines.{IsLineOver}
use Rattle.hatch_fill.proofs.lines.hatch_lines.Goals as goal

pub loop-x-preserved : goal.loop-x-preserved
loop-x-preserved c =
    let intervals = c.args.intervals.now in
    let k = c.loop-x.x-index in
    let plane = plane_of c.args.cut.now in
    subst (λ (xs : List HatchLine). AllZip (IsLineOver plane) (take (k + 1) intervals) xs) (sym {A = List HatchLine} c.in_ok-push.ensures.items)
    (zip_more (IsLineOver plane) intervals c.loop-x.lines.items k c.x-item.result c.hatch_line.result c.loop-x-test.true c.x-item.is c.loop-x.invariant c.hatch_line.ensures)
