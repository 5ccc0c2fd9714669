use Rattle.std.proofs.Common.{◌≡◌, ℕ, ◌+◌, ◌++◌, List, take, get_or, length, sym, subst, ap, ◌∙◌, arith}
use Rattle.std.proofs.lemmas.List.{take_all, take_more, length-take-le}
use Rattle.svg_page.specs.Svg.{page_begin, page_end, groups_below, svg_of}
use Rattle.drawing.specs.Strokes.{AreStrokesOf, AreStrokes}
use Rattle.view_lines.specs.declared.view.ViewDrawing.{ViewDrawing}
use Rattle.draw_core.proofs.StrokeLists.{AreWritten, none_written, one_more_written}
use Rattle.draw_core.proofs.pages.page_text.Goals as goal

pub loop-number-init : goal.loop-number-init
loop-number-init c = none_written c.args.sheet.now (page_begin c.args.sheet.now c.args.title.now) c.in_ok-text.text.items c.in_ok-text.ensures

pub loop-number-preserved : goal.loop-number-preserved
loop-number-preserved c =
    let sheet = c.args.sheet.now in
    let begin = page_begin sheet c.args.title.now in
    let views = c.args.views.now in
    let i = c.loop-number.number in
    let view = get_or views i c.index-views-number.result in
    let (here, added, drawn) = c.in_ok-add_view_group.ensures in
    let of_view = subst (λ (v : ViewDrawing). AreStrokesOf sheet i v here) c.index-views-number.is drawn in
    let at : i ≡ 0 + length (take i views) = omega (arith, length-take-le i views (omega arith)) in
    subst (λ (vs : List ViewDrawing). AreWritten sheet begin vs (i + 1) c.add_view_group.new.text.items) (sym (take_more views i c.index-views-number.result c.loop-number-test.true))
    (one_more_written sheet begin (take i views) i c.loop-number.text.items view here c.add_view_group.new.text.items at c.loop-number.invariant of_view added)

pub returns : goal.returns
unfolding svg_of
returns c =
    let sheet = c.args.sheet.now in
    let views = c.args.views.now in
    let n = c.loop-number.number in
    let h = c.loop-number.invariant in
    let all : n ≡ length sheet.places.items = omega (arith, c.requires.placed, c.loop-number-test.false, c.loop-number.auto.number-end) in (
      h.strokes,
      subst (λ (vs : List ViewDrawing). AreStrokes sheet vs h.strokes) (take_all n views c.loop-number-test.false) h.right,
      c.in_ok-end_page.ensures ∙ ap (λ (t : List ℕ). t ++ page_end) (h.is ∙ ap (λ (m : ℕ). page_begin sheet c.args.title.now ++ groups_below m h.strokes) all),
    )
