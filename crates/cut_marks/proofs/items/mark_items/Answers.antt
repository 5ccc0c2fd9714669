use Rattle.std.proofs.Common.{◌≡◌, ℕ, ◌++◌, List, Some, refl, ap, subst, ◌∙◌, arith}
use Rattle.std.specs.Prelude.{slice_get}
use Rattle.std.proofs.lemmas.Option.{slice_get_read, slice_get_within}
use Rattle.cut_marks.specs.Items.{items_of_view, IsHeadedWell}
use Rattle.cut_marks.specs.declared.views.ViewMarks.{ViewMarks}
use Rattle.cut_marks.proofs.TitledViews.{one_view_more, one_heading_more}
use Rattle.cut_marks.proofs.items.mark_items.Goals as goal

pub loop-view-preserved : goal.loop-view-preserved
loop-view-preserved c =
    let views = c.args.views.now in
    let titles = c.args.titles.now in
    let k = c.loop-view.view in
    let v : ViewMarks = c.index-views-view.result in
    let at : slice_get views k ≡ Some v = slice_get_read views _ k v refl c.loop-view-test.true c.index-views-view.is in
    let decimals = c.args.form.decimals in
    let unit = c.args.form.unit in
    let grown = c.in_ok-add_view.ensures.items ∙ ap (λ (title : List ℕ). c.loop-view.items.items ++ items_of_view decimals unit v title) c.title_at-title.ensures in
    let well = subst (IsHeadedWell decimals unit v) c.title_at-title.ensures c.in_ok-add_view.ensures.well in
    record {
      items = one_view_more decimals unit views titles k v at c.loop-view.items.items c.add_view.new.items.items grown c.loop-view.invariant.items;
      well = one_heading_more decimals unit views titles k v at well c.loop-view.invariant.well;
    }

pub returns-clause-well : goal.returns-clause-well
returns-clause-well c j w here =
    c.loop-view.invariant.well j w (omega (arith, slice_get_within c.args.views.now j w here, c.loop-view-test.false)) here
