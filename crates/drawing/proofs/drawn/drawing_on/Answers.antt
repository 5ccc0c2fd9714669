use Rattle.std.proofs.Common.{ℕ, List, refl, subst}
use Rattle.std.specs.List.{AllZip}
use Rattle.job_file.specs.ShownCuts.{planes_in}
use Rattle.job_file.specs.declared.view.JobView.{JobView}
use Rattle.view_lines.specs.declared.view.ViewDrawing.{ViewDrawing}
use Rattle.drawing.specs.Drawing.{ShowsJobView, spacing_on}
use Rattle.drawing.specs.Numbers.{SumsViews}
use Rattle.drawing.proofs.InBoxes.{strokes_in_boxes}
use Rattle.drawing.proofs.drawn.drawing_on.Goals as goal

pub returns-clause-shows : goal.returns-clause-shows
returns-clause-shows c =
    let job = c.args.job in
    let solid = c.args.solid in
    let sheet = c.args.sheet in
    let made = c.in_ok-views.field-0 in
    let R : List JobView → ℕ → JobView → ViewDrawing → Type 0 = λ of spacing. ShowsJobView solid job.crease (planes_in of) spacing in
    let asked = c.deref.result.now in
    let views = made.views.items in
    let spaced = subst (λ (n : ℕ). AllZip (R asked n) asked views) c.spacing.ensures.value c.in_ok-views.ensures.shows in
    let shown = subst (λ (of : List JobView). AllZip (R of (spacing_on sheet)) of views) c.deref.ensures.value spaced in
    record {
      views = shown;
      placed = c.requires;
      inside = λ extents reach strokes are. strokes_in_boxes job.views.items extents sheet c.requires solid job.crease (planes_in job.views.items) (spacing_on sheet) reach views shown strokes are;
      bound = (made.numbers, subst (λ (of : List JobView). SumsViews solid job.crease of made.numbers) c.deref.ensures.value c.in_ok-views.ensures.sums, refl, refl, refl);
      tested = c.in_ok-views.ensures.tested;
      cut_tested = c.in_ok-views.ensures.cut_tested;
      celled = c.in_ok-views.ensures.celled;
    }

pub returns-clause-sums : goal.returns-clause-sums
returns-clause-sums c = subst (λ (of : List JobView). SumsViews c.args.solid c.args.job.crease of c.in_ok-views.field-0.numbers) c.deref.ensures.value c.in_ok-views.ensures.sums
