-- The files of a drawing, and what a run leaves of them.
use Rattle.std.specs.Prelude.{◌≡◌, ℕ, ℤ, List, [], ◌∷◌, map, Option, Some, None, IsSomeAnd}
use Rattle.desk.specs.Files.{Files}
use Rattle.draw_words.specs.Names.{Named}
use Rattle.plot_rack.specs.Choices.{first_with}
use Rattle.plot_rack.specs.Plotters.{Plot}
use Rattle.sheet_plan.specs.declared.sheet.Sheet.{Sheet}
use Rattle.sheet_plan.specs.declared.sheet.Stroke.{Stroke}
use Rattle.svg_page.specs.Svg.{svg_of}
use Rattle.draw_core.specs.Outputs.{File, plot_name, HoldsAll, LeavesAll}
use Rattle.drawing.specs.Strokes.{AreStrokes}
use Rattle.drawing.specs.declared.drawn.Drawing.{Drawing}
use Rattle.part_input.specs.declared.fault.Fault.{Fault}

-- what a plotter makes of a page and strokes; there is one for each output
abbrev pub paper_of : Option Plot → ℤ × ℤ → List Stroke → List ℕ
paper_of None page strokes = []
paper_of (Some plot) page strokes = plot.paper page strokes

-- the file of an output of the drawing: the paper of the first plotter with that suffix
abbrev pub plot_file : List Plot → Sheet → List Stroke → List ℕ → List ℕ → File
plot_file plots sheet strokes out name =
    (plot_name out name, paper_of (first_with (λ plot. plot.suffix) plots name) (sheet.width, sheet.height) strokes)

-- the files of the drawing, of which the first has this name: the SVG of its sheet with its title and strokes, and for each
-- output of its job a plotter's file of the same strokes
abbrev pub files_of : List Plot → Drawing → List Stroke → List ℕ → List File
files_of plots d strokes out = (out, svg_of d.sheet d.job.title strokes) ∷ map (plot_file plots d.sheet strokes out) d.job.outputs.items

abbrev pub AreFilesOf : List Plot → Drawing → List ℕ → List File → Type 0
AreFilesOf plots d out files = (strokes : List Stroke) × AreStrokes d.sheet d.views.items strokes × (files ≡ files_of plots d strokes out)

-- the run leaves the drawing's files, of which the first has this name, as its fault allows
pub record Writes (plots : List Plot) (fault : Option Fault) (old new : Files) (out : List ℕ) (d : Drawing) : Type 0 where
  pub files : List File
  pub are_files : AreFilesOf plots d out files
  pub leaves : LeavesAll fault old new files

-- each of the drawing's files, of which the first has this name, is there with its bytes
abbrev pub Holds : List Plot → Files → List ℕ → Drawing → Type 0
Holds plots held out d = (files : List File) × AreFilesOf plots d out files × HoldsAll held files

-- the words name it; and with no fault each of its files holds its bytes
abbrev pub WritesNamed : List Plot → Option Named → Option Fault → Files → Files → Drawing → Type 0
WritesNamed plots named fault old new d = IsSomeAnd named (λ names. Writes plots fault old new names.out d × (fault ≡ None → Holds plots new names.out d))
