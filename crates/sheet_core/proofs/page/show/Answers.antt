use Rattle.std.proofs.Common.{◌≡◌, ◌<◌, ℕ, Bool, List, length, refl, sym, subst, ap, ◌∙◌, arith, FitsSigned}
use Rattle.std.specs.Int.{w64}
use Rattle.std.specs.List.{All}
use Rattle.std.proofs.lemmas.Int.{ints, to_z-of_z}
use Rattle.job_file.specs.ShownCuts.{cuts_in}
use Rattle.cut_marks.specs.AskedSides.{sides_for}
use Rattle.cut_marks.specs.Marks.{AreMarked}
use Rattle.cut_marks.specs.Reach.{AreInReach}
use Rattle.sheet_layout.specs.declared.sides.Sides.{Sides}
use Rattle.cut_marks.specs.declared.views.ViewMarks.{ViewMarks}
use Rattle.drawing.specs.Strokes.{AreStrokes}
use Rattle.drawing.proofs.DrawnViews.{few, placed}
use Rattle.job_file.specs.declared.view.JobView.{JobView}
use Rattle.cut_marks.specs.Items.{items_of_marks, AreHeadedWell}
use Rattle.sheet_lines.proofs.KeptPaths.{all_kept}
use Rattle.sheet_lines.specs.Lines.{AreLines}
use Rattle.sheet_plan.specs.declared.sheet.Stroke.{Stroke}
use Rattle.stroke_paths.specs.declared.path.Path.{Path}
use Rattle.stroke_paths.specs.Paths.{ArePaths}
use Rattle.stroke_paths.proofs.ViewsWithin.{views_within}
use Rattle.view_lines.specs.declared.view.ViewDrawing.{ViewDrawing}
use Rattle.sheet_page.specs.Pages.{IsInView}
use Rattle.sheet_page.specs.declared.page.Item.{Item}
use Rattle.sheet_page.specs.Blocks.{block_of}
use Rattle.sheet_page.specs.Corners.{EndsBefore}
use Rattle.sheet_page.proofs.InCorner.{clear_of_views}
use Rattle.sheet_plan.specs.declared.sheet.Sheet.{Sheet}
use Rattle.solid_mesh.specs.Solids.{solid_part}
use Rattle.section_look.specs.Looks.{AreLooks}
use Rattle.section_look.specs.declared.looks.SectionLook.{SectionLook}
use Rattle.sheet_core.specs.Pages.{items_of, IsPicture}
use Rattle.sheet_core.proofs.PageItems.{of_block, of_marks, in_views}
use Rattle.sheet_core.proofs.page.show.Goals as goal

pub strokes_of-requires-clause-placed : goal.strokes_of-requires-clause-placed
strokes_of-requires-clause-placed c =
    let d = c.args.input.now.drawing in
    let views = ap (λ (views : List ViewDrawing). length views) c.deref.ensures.value in
    omega (arith, placed d c.requires.shows, views)

pub strokes_of-requires-clause-few : goal.strokes_of-requires-clause-few
strokes_of-requires-clause-few c =
    let views = ap (λ (views : List ViewDrawing). length views) c.deref.ensures.value in
    omega (arith, few c.args.input.now.drawing c.requires.shows, views)

pub looks_of-requires-clause-placed : goal.looks_of-requires-clause-placed
looks_of-requires-clause-placed c =
    let d = c.args.input.now.drawing in
    let views = ap (λ (views : List JobView). length views) c.deref-2.ensures.value in
    omega (arith, c.requires.shows.placed.count, views)

pub looks_of-requires-clause-few : goal.looks_of-requires-clause-few
looks_of-requires-clause-few c =
    let views = ap (λ (views : List JobView). length views) c.deref-2.ensures.value in
    omega (arith, views, c.args.input.now.drawing.job.few_views)

pub picture_of-requires-clause-placed : goal.picture_of-requires-clause-placed
picture_of-requires-clause-placed c =
    subst (λ (xs : List SectionLook). All (λ (x : SectionLook). x.view < length c.args.input.now.drawing.sheet.places.items) xs) (sym c.deref-4.ensures.value) c.in_ok-sections.ensures.in_range

pub picture_of-requires-clause-in_range : goal.picture_of-requires-clause-in_range
picture_of-requires-clause-in_range c =
    subst (λ (xs : List Stroke). All (λ (x : Stroke). x.view < length c.args.input.now.drawing.sheet.places.items) xs) (sym c.deref-3.ensures.value) c.in_ok-strokes.ensures.in_range

pub marks-requires-clause-placed : goal.marks-requires-clause-placed
marks-requires-clause-placed c =
    let d = c.args.input.now.drawing in
    let views = ap (λ (views : List JobView). length views) c.deref-9.ensures.value in
    omega (arith, c.requires.shows.placed.count, views)

pub marks-requires-clause-asked : goal.marks-requires-clause-asked
marks-requires-clause-asked c =
    let views = ap (λ (views : List JobView). length views) c.deref-9.ensures.value in
    let sides = ap (λ (sides : List Sides). length sides) c.deref-8.ensures.value in
    omega (arith, c.in_ok-sides.ensures.count, views, sides)

pub marks-requires-clause-few : goal.marks-requires-clause-few
marks-requires-clause-few c =
    let views = ap (λ (views : List JobView). length views) c.deref-9.ensures.value in
    omega (arith, views, c.args.input.now.drawing.job.few_views)

pub returns-clause-shows : goal.returns-clause-shows
returns-clause-shows c =
    let d = c.args.input.now.drawing in
    let sheet = d.sheet in
    let laid = c.requires in
    let asked : c.deref-8.result.now ≡ sides_for d.job = c.deref-8.ensures.value ∙ c.in_ok-sides.ensures.sides in
    let strokes = c.in_ok-strokes.strokes.items in
    let marks = c.in_ok-marks.marks.items in
    let wide = d.sheet.width_in_range in
    let high = d.sheet.height_in_range in
    let width_fits : FitsSigned w64 d.sheet.width = omega (arith, ints) in
    let height_fits : FitsSigned w64 d.sheet.height = omega (arith, ints) in
    let are_strokes = subst (λ (views : List ViewDrawing). AreStrokes sheet views strokes) c.deref.ensures.value c.in_ok-strokes.ensures.strokes in
    record {
      layout = laid.layout;
      sheet = laid.sheet;
      shrunk_is = laid.shrunk_is;
      apart = laid.apart;
      in_frame = laid.in_frame;
      clear = λ view room takes. clear_of_views d.sheet.width d.sheet.height room (block_of d.sheet d.job c.args.part.now c.args.input.now.look.block)
          (subst (λ (s : Sheet). EndsBefore s.width s.height room) (sym laid.sheet) (laid.in_frame view room takes).clear) c.in_ok-items.ensures.in_corner;
      are_strokes = are_strokes;
      sections = c.in_ok-sections.sections.items;
      are_sections = subst (λ (views : List JobView). AreLooks sheet (solid_part d.solid) views c.in_ok-sections.sections.items) c.deref-2.ensures.value c.in_ok-sections.ensures.looks;
      picture = c.in_ok-picture.picture.items;
      is_picture = subst (λ (ss : List Stroke). IsPicture sheet ss c.in_ok-sections.sections.items c.in_ok-picture.picture.items) c.deref-3.ensures.value
          (subst (λ (looks : List SectionLook). IsPicture sheet c.deref-3.result.now looks c.in_ok-picture.picture.items) c.deref-4.ensures.value c.in_ok-picture.ensures.picture);
      paths = c.in_ok-all.all.items;
      are_paths = subst (λ (ss : List Stroke). ArePaths ss c.in_ok-all.all.items) c.deref-5.ensures.value c.in_ok-all.ensures;
      lines = c.in_ok-lines.lines;
      are_lines = subst (λ (ss : List Stroke). AreLines c.args.input.now.look.hidden.items ss c.in_ok-all.all.items c.in_ok-lines.lines) c.deref-7.ensures.value
          (subst (λ (hidden : List Bool). AreLines hidden c.deref-7.result.now c.in_ok-all.all.items c.in_ok-lines.lines) c.deref-6.ensures.value c.in_ok-lines.ensures);
      drawn_is = refl;
      covered_is = refl;
      are_marks = subst (λ (sides : List Sides). AreMarked sheet sides c.args.input.now.shrunk (solid_part d.solid) (cuts_in d.job.views.items) d.job.views.items marks) asked
          (subst (λ (views : List JobView). AreMarked sheet c.deref-8.result.now c.args.input.now.shrunk (solid_part d.solid) (cuts_in views) views marks) c.deref-9.ensures.value c.in_ok-marks.ensures.marked);
      in_reach = subst (λ (sides : List Sides). AreInReach sheet (solid_part d.solid).corners sides c.args.input.now.shrunk marks) asked c.in_ok-marks.ensures.in_reach;
      none_touch = c.in_ok-marks.ensures.none_touch;
      headed = subst (λ (ms : List ViewMarks). AreHeadedWell d.job.decimals d.job.unit ms c.args.input.now.look.titles.items) c.deref-10.ensures.value c.in_ok-items.ensures.headed;
      width = simp to_z-of_z;
      height = simp to_z-of_z;
      title = c.in_ok-new.ensures.same ∙ c.as_str.ensures.same;
      views = omega (arith, c.len.ensures, d.sheet.places.ok.0);
      items = c.in_ok-items.ensures.items ∙ ap (λ (ms : List ViewMarks). items_of c.args.input.now.look c.args.part.now d c.in_ok-sections.sections.items c.in_ok-lines.lines.paths.items ms) c.deref-10.ensures.value;
    }

pub returns-clause-in_views : goal.returns-clause-in_views
returns-clause-in_views c =
    let d = c.args.input.now.drawing in
    let many = length c.args.input.now.drawing.sheet.places.items in
    let block = block_of d.sheet d.job c.args.part.now c.args.input.now.look.block in
    let sections = c.in_ok-sections.sections.items in
    let paths = c.in_ok-lines.lines.paths.items in
    let titles = c.args.input.now.look.titles.items in
    let strokes : All (λ (s : Stroke). s.view < many) c.deref-5.result.now = subst (λ (xs : List Stroke). All (λ (s : Stroke). s.view < many) xs) (sym c.deref-5.ensures.value) c.in_ok-picture.ensures.in_range in
    let all_within = views_within c.deref-5.result.now many c.in_ok-all.all.items strokes c.in_ok-all.ensures in
    let lines = c.in_ok-lines.ensures in
    let within : All (λ (p : Path). p.view < many) paths = subst (λ (ps : List Path). All (λ (p : Path). p.view < many) ps) (sym lines.paths_are) (all_kept (λ (p : Path). p.view < many) lines.drawn c.in_ok-all.all.items all_within) in
    let all : All (IsInView many) c.in_ok-items.items.items =
    subst (λ (items : List Item). All (IsInView many) items) (sym c.in_ok-items.ensures.items)
    (in_views many d block (items_of_marks d.job.decimals d.job.unit c.deref-10.result.now titles) sections paths (of_block many d.sheet.width d.sheet.height block c.in_ok-items.ensures.in_corner)
    (of_marks many d.job.decimals d.job.unit c.deref-10.result.now titles) c.in_ok-sections.ensures.in_range within) in
    let same : many ≡ c.len.result = omega (arith, c.len.ensures, d.sheet.places.ok.0) in
    subst (λ (n : ℕ). All (IsInView n) c.in_ok-items.items.items) same all
