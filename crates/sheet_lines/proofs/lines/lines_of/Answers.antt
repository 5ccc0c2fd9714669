use Rattle.std.proofs.Common.{◌≡◌, Bool, List, ap, subst, ◌∙◌}
use Rattle.covered_paths.specs.Drawn.{AreBeneath, AreDrawn}
use Rattle.stroke_paths.specs.declared.path.Path.{Path}
use Rattle.sheet_lines.specs.Kept.{as_many, kept, without}
use Rattle.sheet_lines.specs.Shown.{shown_in}
use Rattle.sheet_lines.specs.Ways.{drawn_strokes}
use Rattle.sheet_lines.proofs.lines.lines_of.Goals as goal

pub returns : goal.returns
returns c =
    let hidden = c.args.hidden.now in
    let paths = c.args.paths.items in
    let flags = c.in_ok-drawn.drawn.items in
    let shown = shown_in hidden paths in
    let shown_is : c.in_ok-shown.shown.items ≡ shown = c.in_ok-shown.ensures ∙ ap (shown_in hidden) c.deref.ensures.value in
    let asked : c.deref-3.result.now ≡ shown = c.deref-3.ensures.value ∙ shown_is in
    let covered : c.in_ok-covered.covered.items ≡ without shown flags =
    c.in_ok-covered.ensures ∙ (λ i. without ((c.deref-4.ensures.value ∙ shown_is) i) (c.deref-5.ensures.value i)) in
    record {
      drawn = flags;
      are_drawn = subst (λ (ps : List Path). AreDrawn ps shown flags) c.deref-2.ensures.value (subst (λ (s : List Bool). AreDrawn c.deref-2.result.now s flags) asked c.in_ok-drawn.ensures.exact);
      are_beneath = subst (λ (ps : List Path). AreBeneath ps shown flags) c.deref-2.ensures.value (subst (λ (s : List Bool). AreBeneath c.deref-2.result.now s flags) asked c.in_ok-drawn.ensures.covered);
      paths_are = c.in_ok-paths.ensures ∙ ap (λ (fs : List Bool). kept fs paths) c.deref-9.ensures.value;
      strokes_are = c.in_ok-strokes.ensures ∙ (λ i. drawn_strokes hidden (kept ((c.deref-6.ensures.value ∙ covered) i) (c.deref-7.ensures.value i)) c.args.strokes.now);
      covered_is = c.as_many-many.ensures ∙ ap as_many (c.deref-8.ensures.value ∙ covered);
    }
