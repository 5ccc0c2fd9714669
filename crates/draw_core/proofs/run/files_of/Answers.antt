use Rattle.std.proofs.Common.{◌≡◌, ◌≤◌, ◌∷◌, List, length, sym, subst, ◌∙◌, arith}
use Rattle.std.proofs.lemmas.Option.{slice_get_within}
use Rattle.plot_rack.specs.Racks.{boxes_of}
use Rattle.drawing.specs.Strokes.{AreStrokes}
use Rattle.view_lines.specs.declared.view.ViewDrawing.{ViewDrawing}
use Rattle.drawing.proofs.DrawnViews.{few, as_many_placed}
use Rattle.draw_core.proofs.PlotFiles.{files_are, none_drawn}
use Rattle.draw_core.proofs.run.files_of.Goals as goal

pub page_text-requires-clause-placed : goal.page_text-requires-clause-placed
page_text-requires-clause-placed g c =
    let d = c.args.drawing.now in
    subst (λ (views : List ViewDrawing). length views ≡ length d.sheet.places.items) (sym c.deref.ensures.value) (as_many_placed d c.requires.shows)

pub page_text-requires-clause-few : goal.page_text-requires-clause-few
page_text-requires-clause-few g c =
    let d = c.args.drawing.now in
    subst (λ (views : List ViewDrawing). length views ≤ 12) (sym c.deref.ensures.value) (few d c.requires.shows)

pub outputs_of-requires : goal.outputs_of-requires
outputs_of-requires g c i b here =
    let within = slice_get_within (boxes_of c.args.rack) i b here in
    absurd (omega (arith, within, c.len.ensures, c.if-len-ne0.false))

pub returns : goal.returns
returns g c =
    let sheet = c.args.drawing.now.sheet in
    let job = c.args.drawing.now.job in
    let out = c.args.out in
    let boxes = boxes_of c.args.rack in
    let none : length boxes ≡ 0 = omega (arith, c.len.ensures, c.if-len-ne0.false) in
    let (strokes, drawn, text) = c.in_ok-text.ensures in
    record {
      places = c.in_ok-outputs.ensures.places;
      files = λ all chosen. (
        strokes,
        subst (λ (views : List ViewDrawing). AreStrokes sheet views strokes) c.deref.ensures.value drawn,
        c.in_ok-outputs.ensures.files
            ∙ (λ i. (out, text i) ∷ files_are (λ b. (goal.Plotter-dyn g (b.vtable, b.value)).plot b.value) all sheet strokes out job.outputs.items
            boxes boxes chosen (none_drawn (λ b. (goal.Plotter-dyn g (b.vtable, b.value)).plot b.value) (sheet.width, sheet.height) strokes boxes none) i),
      );
    }
