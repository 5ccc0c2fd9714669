use Rattle.std.proofs.Common.{List, All, length, sym, subst}
use Rattle.std.specs.Prelude.{◌<◌}
use Rattle.sheet_plan.specs.declared.sheet.Stroke.{Stroke}
use Rattle.detail_pieces.proofs.Orders.{of_first, text_of}
use Rattle.detail_pieces.proofs.page.detail_text.Goals as goal

pub svg-requires : goal.svg-requires
svg-requires c =
    let sheet = c.in_ok-sheet.sheet in
    let is = c.in_ok-sheet.ensures in
    subst (λ (ss : List Stroke). All (λ (s : Stroke). s.view < length sheet.places.items) ss) (sym {A = List Stroke} c.deref.ensures.value)
    (of_first sheet is.place c.args.pieces.now c.in_ok-strokes.strokes.items is.one (c.in_ok-strokes.ensures is.place is.one))

pub returns : goal.returns
returns c =
    let is = c.in_ok-sheet.ensures in
    text_of c.args.decimals c.args.scale c.args.d.now c.args.window.now c.args.pieces.now c.in_ok-sheet.sheet is _ c.in_ok-title.ensures.same
    c.deref.result.now c.in_ok-strokes.strokes.items c.deref.ensures.value (c.in_ok-strokes.ensures is.place is.one) c.svg.result c.svg.ensures
