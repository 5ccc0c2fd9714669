use Rattle.std.proofs.Common.{◌≡◌, ◌<◌, ℕ, ◌++◌, drop, Some}
use Rattle.std.specs.Prelude.{slice_get}
use Rattle.cut_marks.specs.Items.{items_of_marks, title_at, IsHeadedWell}
use Rattle.cut_marks.specs.declared.views.ViewMarks.{ViewMarks}
use Rattle.cut_marks.proofs.items.mark_items.Given as goal

-- the items so far and those of the views that are left are all items; the headings so far are right
abbrev pub invariant-loop-view : goal.invariant-loop-view
invariant-loop-view l = record {
  items : l.items.items ++ items_of_marks l.form.decimals l.form.unit (drop l.view l.views) (drop l.view l.titles) ≡ items_of_marks l.form.decimals l.form.unit l.views l.titles;
  well : (k : ℕ) (v : ViewMarks) → k < l.view → slice_get l.views k ≡ Some v → IsHeadedWell l.form.decimals l.form.unit v (title_at l.titles k);
}
