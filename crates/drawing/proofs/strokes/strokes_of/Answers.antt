use Rattle.std.proofs.Common.{◌≡◌, ◌+◌, ◌++◌, List, take, get_or, length, sym, subst, arith}
use Rattle.std.proofs.lemmas.List.{take_all, take_more, length-take-le}
use Rattle.sheet_plan.specs.declared.sheet.Stroke.{Stroke}
use Rattle.drawing.specs.Strokes.{AreStrokesOf, AreStrokes}
use Rattle.view_lines.specs.declared.view.ViewDrawing.{ViewDrawing}
use Rattle.drawing.proofs.StrokeLists.{view_more, all_in_place}
use Rattle.drawing.proofs.strokes.strokes_of.Goals as goal

pub loop-number-preserved : goal.loop-number-preserved
loop-number-preserved c =
    let sheet = c.args.sheet.now in
    let views = c.args.views.now in
    let i = c.loop-number.number in
    let view = get_or views i c.index-views-number.result in
    let (here, added, drawn) = c.in_ok-add_view.ensures in
    let of_view = subst (λ (v : ViewDrawing). AreStrokesOf sheet i v here) c.index-views-number.is drawn in
    let at : i ≡ 0 + length (take i views) = omega (arith, length-take-le i views (omega arith)) in
    let more = view_more sheet 0 i (take i views) c.loop-number.strokes.items view here at c.loop-number.invariant of_view in
    subst (λ (ys : List Stroke). AreStrokes sheet (take (i + 1) views) ys) (sym added)
    (subst (λ (vs : List ViewDrawing). AreStrokes sheet vs (c.loop-number.strokes.items ++ here)) (sym (take_more views i c.index-views-number.result c.loop-number-test.true)) more)

pub returns-clause-strokes : goal.returns-clause-strokes
returns-clause-strokes c =
    subst (λ (vs : List ViewDrawing). AreStrokes c.args.sheet.now vs c.loop-number.strokes.items) (take_all c.loop-number.number c.args.views.now c.loop-number-test.false) c.loop-number.invariant

pub returns-clause-in_range : goal.returns-clause-in_range
returns-clause-in_range c = all_in_place c.args.sheet.now 0 _ _ c.loop-number.invariant
