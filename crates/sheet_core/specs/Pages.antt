-- The page of a drawing: its frame, its title block, the paths of its strokes, but for hidden lines that aren't asked for or are covered,
-- and what tells its cuts.
use Rattle.std.specs.Prelude.{◌≡◌, ℕ, Bool, not, pos, ℤ, ◌-ℤ◌, List, ◌∷◌, ◌++◌, length, map}
use Rattle.std.specs.List.{All, filter, flat_map}
use Rattle.cut_marks.specs.AskedSides.{sides_for}
use Rattle.job_file.specs.ShownCuts.{cuts_in}
use Rattle.cut_marks.specs.Marks.{AreMarked}
use Rattle.cut_marks.specs.Reach.{AreInReach, NoneTouch}
use Rattle.cut_marks.specs.declared.views.ViewMarks.{ViewMarks}
use Rattle.cut_marks.specs.Items.{items_of_marks, AreHeadedWell}
use Rattle.sheet_lines.specs.Lines.{AreLines}
use Rattle.sheet_lines.specs.declared.lines.SheetLines.{SheetLines}
use Rattle.sheet_plan.specs.Boxes.{Box}
use Rattle.sheet_plan.specs.LineKinds.{is_same_mark}
use Rattle.sheet_plan.specs.declared.sheet.Mark.TheVariants.{Hatch}
use Rattle.sheet_plan.specs.declared.sheet.Sheet.{Sheet}
use Rattle.sheet_plan.specs.declared.sheet.Stroke.{Stroke}
use Rattle.drawing.specs.Strokes.{AreStrokes}
use Rattle.drawing.specs.declared.drawn.Drawing.{Drawing}
use Rattle.section_look.specs.HatchStrokes.{AreHatchStrokes}
use Rattle.section_look.specs.Looks.{AreLooks}
use Rattle.section_look.specs.declared.looks.SectionLook.{SectionLook}
use Rattle.stroke_paths.specs.Paths.{ArePaths}
use Rattle.stroke_paths.specs.declared.path.Path.{Path}
use Rattle.sheet_page.specs.declared.page.Item.{Item}
use Rattle.sheet_page.specs.declared.page.Item.TheVariants as item
use Rattle.sheet_page.specs.declared.page.Page.{Page}
use Rattle.sheet_layout.specs.Keeps.{KeepsApart, StandsInFrame, TakesRoom}
use Rattle.sheet_layout.specs.declared.layout.Layout.{Layout}
use Rattle.solid_mesh.specs.Solids.{solid_part}
use Rattle.sheet_page.specs.Blocks.{block_of}
use Rattle.sheet_page.specs.Corners.{IsClearOf}
use Rattle.sheet_input.specs.declared.look.SheetLook.{SheetLook}

-- ---- the page
-- the frame of a sheet, 10 mm from its edges
abbrev pub frame_of : ℤ → ℤ → Item
frame_of width height = item.Frame (record { x = pos 1000; y = pos 1000; width = width -ℤ pos 2000; height = height -ℤ pos 2000 })

-- what is filled of the sections in views
abbrev pub fills_of : SectionLook → List Item
fills_of section = map (λ fill. item.Fill (record { view = section.view; loops = fill.loops })) section.fills.items

-- what stands on the page: the frame, the title block, what is filled of sections, the paths that are drawn, and what tells the cuts
abbrev pub items_of : SheetLook → List ℕ → Drawing → List SectionLook → List Path → List ViewMarks → List Item
items_of look part d sections paths marks =
    (frame_of d.sheet.width d.sheet.height ∷ block_of d.sheet d.job part look.block)
    ++ flat_map fills_of sections
    ++ map item.Path paths
    ++ items_of_marks d.job.decimals d.job.unit marks look.titles.items

-- ---- the picture
-- the strokes of a drawing but for its hatch lines
abbrev pub unhatched : List Stroke → List Stroke
unhatched strokes = filter (λ s. not (is_same_mark s.mark Hatch)) strokes

-- the strokes of the picture: those, and then the hatch lines by which the sheet shows the sections
pub record IsPicture (sheet : Sheet) (strokes : List Stroke) (sections : List SectionLook) (picture : List Stroke) : Type 0 where
  pub hatches : List Stroke
  pub are_hatches : AreHatchStrokes sheet sections hatches
  pub together : picture ≡ unhatched strokes ++ hatches

-- The page shows the drawing of the part with this name, whose sheet is that of a layout: the frame and the title block, what is filled of
-- its sections, the paths of its strokes that are asked for and not covered, in their order, with hatch lines as close as the sections
-- need, and the marks and the headings of its cuts. The views with their sides, which are shrunk or not, keep apart, in the frame and clear of the block. Each mark
-- and each heading ends within its view's sides; no two marks of a view touch, and nor does one its view, but by its chain line; and no heading
-- has the place of its cut in part.
pub record IsPageWith (look : SheetLook) (part : List ℕ) (d : Drawing) (shrunk : Bool) (page : Page) (strokes : List Stroke) (marks : List ViewMarks) (drawn : List Bool) (covered : ℕ) : Type 0 where
  pub layout : Layout
  pub sheet : d.sheet ≡ layout.sheet
  pub shrunk_is : layout.shrunk ≡ shrunk
  pub apart : KeepsApart (solid_part d.solid).corners (sides_for d.job) layout
  pub in_frame : StandsInFrame (solid_part d.solid).corners (sides_for d.job) layout
  pub clear : (view : ℕ) (room : Box) → TakesRoom layout (solid_part d.solid).corners (sides_for d.job) view room → All (IsClearOf room) (block_of d.sheet d.job part look.block)
  pub are_strokes : AreStrokes d.sheet d.views.items strokes
  pub sections : List SectionLook
  pub are_sections : AreLooks d.sheet (solid_part d.solid) d.job.views.items sections
  pub picture : List Stroke
  pub is_picture : IsPicture d.sheet strokes sections picture
  pub paths : List Path
  pub are_paths : ArePaths picture paths
  pub lines : SheetLines
  pub are_lines : AreLines look.hidden.items strokes paths lines
  pub drawn_is : drawn ≡ lines.strokes.items
  pub covered_is : covered ≡ lines.covered
  pub are_marks : AreMarked d.sheet (sides_for d.job) shrunk (solid_part d.solid) (cuts_in d.job.views.items) d.job.views.items marks
  pub in_reach : AreInReach d.sheet (solid_part d.solid).corners (sides_for d.job) shrunk marks
  pub none_touch : NoneTouch marks
  pub headed : AreHeadedWell d.job.decimals d.job.unit marks look.titles.items
  pub width : page.width ≡ d.sheet.width
  pub height : page.height ≡ d.sheet.height
  pub title : page.title ≡ d.job.title
  pub views : page.views ≡ length d.sheet.places.items
  pub items : page.items.items ≡ items_of look part d sections lines.paths.items marks

-- with some such strokes and marks, of which some are drawn, and so many covered paths
abbrev pub IsPageOf : SheetLook → List ℕ → Drawing → Bool → Page → Type 0
IsPageOf look part d shrunk page = (strokes : List Stroke) × (marks : List ViewMarks) × (drawn : List Bool) × (covered : ℕ) × IsPageWith look part d shrunk page strokes marks drawn covered
