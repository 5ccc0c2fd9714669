use Rattle.std.proofs.Common.{List, get_or, refl, subst, ap, ◌∙◌}
use Rattle.std.proofs.lemmas.List.Elements.{All-same}
use Rattle.std.proofs.lemmas.Option.{slice_get-get_or}
use Rattle.sheet_layout.specs.declared.sides.Sides.{Sides}
use Rattle.cut_marks.specs.Figures.{marks_in}
use Rattle.cut_marks.specs.Lanes.{AreLaned}
use Rattle.cut_marks.specs.Ranges.{IsMarkInRange}
use Rattle.cut_marks.specs.declared.areas.Area.{Area}
use Rattle.cut_marks.specs.declared.ways.Trace.{Trace}
use Rattle.cut_marks.proofs.InRange.{all_in_range}
use Rattle.cut_marks.proofs.job_marks.plain_marks.Goals as goal

pub invariant_of-result : goal.invariant_of-result
invariant_of-result c = record {
  heading_in_range = λ x e. cc;
  marks_in_range = All-same IsMarkInRange c.in_ok-marks.marks.items (marks_in c.of-b.result c.in_ok-laned.field-0.laned.items)
      (c.in_ok-marks.ensures ∙ ap (marks_in c.of-b.result) c.deref-2.ensures.value) (all_in_range c.of-b.result c.in_ok-laned.field-0.laned.items);
}

pub returns : goal.returns
returns c =
    let b = c.of-b.result in
    let none : Sides = record { left = 0; right = 0; top = 0; bottom = 0; width = 0 } in
    let asked = get_or c.args.sides.now c.args.view none in
    let laned = c.in_ok-laned.field-0.laned.items in
    let left_out = c.in_ok-laned.field-0.left_out.items in
    let of_traces = subst (λ (ts : List Trace). AreLaned b c.room_area-room.result ts laned left_out) c.deref.ensures.value c.in_ok-laned.ensures in
    record {
      box = b;
      asked = asked;
      traces = c.in_ok-traces.traces.items;
      laned = laned;
      is_box = c.of-b.ensures;
      listed = slice_get-get_or c.args.sides.now c.args.view none c.requires.asked;
      are_traces = c.in_ok-traces.ensures;
      are_laned = subst (λ (room : Area). AreLaned b room c.in_ok-traces.traces.items laned left_out) c.room_area-room.ensures of_traces;
      unheaded = refl;
      marks = c.in_ok-marks.ensures ∙ ap (marks_in b) c.deref-2.ensures.value;
    }
