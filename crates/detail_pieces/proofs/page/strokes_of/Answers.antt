use Rattle.std.proofs.Common.{◌+◌, List, take, sym, subst}
use Rattle.std.specs.List.{AllZip}
use Rattle.line_merge.proofs.Zips.{zip_more}
use Rattle.sheet_plan.specs.declared.sheet.Stroke.{Stroke}
use Rattle.sheet_plan.specs.Sheets.{IsStrokeAt}
use Rattle.detail_pieces.proofs.Orders.{at_first}
use Rattle.detail_pieces.proofs.page.strokes_of.Goals as goal

pub loop-piece-preserved : goal.loop-piece-preserved
loop-piece-preserved c = λ place one.
    let sheet = c.args.sheet.now in
    subst (λ (ss : List Stroke). AllZip (IsStrokeAt sheet 0 place) (take (c.loop-piece.piece-index + 1) c.args.pieces.now) ss) (sym {A = List Stroke} c.in_ok-push.ensures.items)
    (zip_more (IsStrokeAt sheet 0 place) c.args.pieces.now c.loop-piece.strokes.items c.loop-piece.piece-index c.piece-item.result c.stroke.result c.loop-piece-test.true c.piece-item.is
    (c.loop-piece.invariant place one) (c.stroke.ensures place (at_first sheet place one)))
