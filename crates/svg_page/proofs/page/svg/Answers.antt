use Rattle.std.proofs.Common.{◌≡◌, ℕ, ◌++◌, length, arith, sym, ap, ◌∙◌, append-nil}
use Rattle.svg_page.specs.Svg.{page_begin, page_end, groups_below, svg_of}
use Rattle.svg_page.proofs.Pages.{after_view}
use Rattle.svg_page.proofs.page.svg.Goals as goal

pub loop-view-init : goal.loop-view-init
loop-view-init c = c.in_ok-text.ensures ∙ sym (append-nil (page_begin c.args.sheet.now c.args.title.now))

pub loop-view-preserved : goal.loop-view-preserved
loop-view-preserved c =
    after_view _ _ (page_begin c.args.sheet.now c.args.title.now) c.loop-view.view c.args.strokes.now c.in_ok-add_group.ensures c.loop-view.invariant

pub returns : goal.returns
unfolding svg_of
returns c =
    let sheet = c.args.sheet.now in
    let all : c.loop-view.view ≡ length sheet.places.items = omega (arith, c.len-view-end.ensures, c.loop-view-test.false, c.loop-view.auto.view-end) in
    let groups = c.loop-view.invariant ∙ ap (λ (n : ℕ). page_begin sheet c.args.title.now ++ groups_below n c.args.strokes.now) all in
    c.in_ok-end_page.ensures ∙ (λ i. groups i ++ page_end)
