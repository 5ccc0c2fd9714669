use Rattle.std.proofs.Common.{ℕ, List, subst, ap, ◌∙◌}
use Rattle.cut_marks.specs.declared.views.ViewMarks.{ViewMarks}
use Rattle.sheet_core.specs.Pages.{IsPageWith}
use Rattle.sheet_summary.specs.Summary.{summary_of}
use Rattle.sheet_core.proofs.texts.texts_of.Goals as goal

pub returns : goal.returns
returns c =
    let shown = c.in_ok-shown.shown in
    let input = c.args.input.now in
    record {
      shown = shown;
      shows = subst (λ (part : List ℕ). IsPageWith input.look part input.drawing input.shrunk shown.page shown.strokes.items shown.marks.items shown.drawn.items shown.covered) c.as_str.ensures.same c.in_ok-shown.ensures.shows;
      text = c.in_ok-page.ensures;
      list = c.in_ok-list.ensures;
      plain = c.in_ok-plain.ensures;
      summary = c.in_ok-summary.ensures ∙ ap (λ (marks : List ViewMarks). summary_of input.drawing input.look.fitted input.look.in_units shown.page shown.covered marks) c.deref.ensures.value;
      unwritten = c.in_ok-unwritten.ensures;
      unlisted = c.in_ok-unlisted.ensures;
      unplain = c.in_ok-unplain.ensures;
    }
