use Rattle.std.proofs.Common.{◌≤◌, ◌<◌, ◌^◌, ◌∷◌, ℤ, unsigned_abs, List, length, sym, subst, ◌∙◌, arith, FitsSigned}
use Rattle.std.specs.Int.{w64}
use Rattle.std.proofs.lemmas.Int.{ints, to_z-of_z}
use Rattle.plot_rack.specs.Racks.{boxes_of}
use Rattle.plot_rack.proofs.Texts.{begun_after}
use Rattle.svg_page.specs.Svg.{svg_of}
use Rattle.drawing.specs.Strokes.{AreStrokes}
use Rattle.view_lines.specs.declared.view.ViewDrawing.{ViewDrawing}
use Rattle.drawing.proofs.DrawnViews.{few, placed}
use Rattle.draw_core.proofs.PlotFiles.{files_are}
use Rattle.draw_core.proofs.run.plotted_files.Goals as goal

pub strokes_of-requires-clause-placed : goal.strokes_of-requires-clause-placed
strokes_of-requires-clause-placed g c =
    let d = c.args.drawing.now in
    subst (λ (views : List ViewDrawing). length views ≤ length d.sheet.places.items) (sym c.deref.ensures.value) (placed d c.requires.shows)

pub strokes_of-requires-clause-few : goal.strokes_of-requires-clause-few
strokes_of-requires-clause-few g c =
    let d = c.args.drawing.now in
    subst (λ (views : List ViewDrawing). length views ≤ 12) (sym c.deref.ensures.value) (few d c.requires.shows)

pub outputs_of-requires : goal.outputs_of-requires
outputs_of-requires g c i b here =
    begun_after (λ b. (goal.Plotter-dyn g (b.vtable, b.value)).plot b.value) _ _ i (boxes_of c.args.rack) (boxes_of c.draw.new.self) b c.in_ok-draw.ensures.ok here

fits : (z : ℤ) → unsigned_abs z < 2 ^ 60 → FitsSigned w64 z
fits z h = omega (arith, ints)

pub returns : goal.returns
returns g c =
    let sheet = c.args.drawing.now.sheet in
    let job = c.args.drawing.now.job in
    let out = c.args.out in
    let strokes = c.in_ok-strokes.strokes.items in
    let width_fits : FitsSigned w64 sheet.width = fits sheet.width sheet.width_in_range in
    let height_fits : FitsSigned w64 sheet.height = fits sheet.height sheet.height_in_range in
    let drew = rw c.deref-2.ensures.value at (simp to_z-of_z at c.in_ok-draw.ensures.ok) in
    let text = c.in_ok-text.ensures ∙ (λ i. svg_of sheet job.title (c.deref-3.ensures.value i)) in
    record {
      places = c.in_ok-outputs.ensures.places;
      files = λ all chosen. (
        strokes,
        subst (λ (views : List ViewDrawing). AreStrokes sheet views strokes) c.deref.ensures.value c.in_ok-strokes.ensures.strokes,
        c.in_ok-outputs.ensures.files
            ∙ (λ i. (out, text i) ∷ files_are (λ b. (goal.Plotter-dyn g (b.vtable, b.value)).plot b.value) all sheet strokes out job.outputs.items
            (boxes_of c.args.rack) (boxes_of c.draw.new.self) chosen drew i),
      );
    }
