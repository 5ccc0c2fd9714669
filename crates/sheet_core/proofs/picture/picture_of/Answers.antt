use Rattle.std.proofs.Common.{◌<◌, ◌++◌, List, length, ◌∙◌}
use Rattle.std.specs.Prelude.{not}
use Rattle.std.proofs.lemmas.List.Elements.{All-append, All-filter, All-same}
use Rattle.sheet_plan.specs.LineKinds.{is_same_mark}
use Rattle.sheet_plan.specs.declared.sheet.Mark.TheVariants.{Hatch}
use Rattle.sheet_plan.specs.declared.sheet.Stroke.{Stroke}
use Rattle.sheet_core.specs.Pages.{unhatched}
use Rattle.sheet_core.proofs.picture.picture_of.Goals as goal

pub returns-clause-picture : goal.returns-clause-picture
returns-clause-picture c = record {
  hatches = c.in_ok-hatches.hatches.items;
  are_hatches = c.in_ok-hatches.ensures.strokes;
  together = ◌∙◌ {A = List Stroke} c.in_ok-extend_from_slice.ensures.items (λ i. c.in_ok-picture.ensures i ++ c.deref.ensures.value i);
}

pub returns-clause-in_range : goal.returns-clause-in_range
returns-clause-in_range c =
    let HasPlace : Stroke → Type 0 = λ s. s.view < length c.args.sheet.now.places.items in
    let kept = unhatched c.args.strokes.now in
    let hatches = c.in_ok-hatches.hatches.items in
    let together = ◌∙◌ {A = List Stroke} c.in_ok-extend_from_slice.ensures.items (λ i. c.in_ok-picture.ensures i ++ c.deref.ensures.value i) in
    All-same HasPlace c.extend_from_slice.new.self.items (kept ++ hatches) together
    (All-append HasPlace kept hatches (All-filter (λ (s : Stroke). not (is_same_mark s.mark Hatch)) HasPlace c.args.strokes.now c.requires.in_range) c.in_ok-hatches.ensures.in_range)
