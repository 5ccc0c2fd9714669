-- Where the texts of a drawing go, and what a run leaves of them.
use Rattle.std.specs.Prelude.{◌≡◌, ℕ, Bool, true, List, [], ◌∷◌, Option, Some, None, IfNone}
use Rattle.desk.specs.Files.{DeskState}
use Rattle.cut_marks.specs.declared.views.ViewMarks.{ViewMarks}
use Rattle.job_file.specs.Seen.{job_seen}
use Rattle.job_writer.specs.PlainJobs.{plain_job}
use Rattle.part_input.specs.declared.fault.Fault.TheVariants.{WriteFault}
use Rattle.part_input.specs.declared.fault.Target.{Target}
use Rattle.part_input.specs.declared.fault.Target.TheVariants.{Out, Plot, Summary}
use Rattle.put_texts.specs.Desks.{HearsAll}
use Rattle.put_texts.specs.Noting.{IsQuiet, Notes, NotesWhole, unless_said}
use Rattle.put_texts.specs.Order.{Way, Text, nowhere, aloud, under, SaysAlone, HoldTexts, KeepsTexts, SaysTexts, SparesFiles, SparesSaid}
use Rattle.sheet_input.specs.Faults.{sheet_faults}
use Rattle.sheet_core.specs.Pages.{IsPageWith}
use Rattle.sheet_summary.specs.Summary.{summary_of}
use Rattle.sheet_input.specs.declared.fault.SheetFault.{SheetFault}
use Rattle.sheet_input.specs.declared.fault.SheetFault.TheVariants.{Common, WriteList, WritePlain}
use Rattle.sheet_core.specs.declared.lines.TheConstants.{HELP, VERSION}
use Rattle.sheet_input.specs.declared.take.SheetInput.{SheetInput}
use Rattle.sheet_list.specs.Lists.{list_text}
use Rattle.sheet_page.specs.Pdf.{pdf_of}
use Rattle.sheet_page.specs.Svg.{svg_of}
use Rattle.sheet_page.specs.declared.page.Page.{Page}
use Rattle.sheet_plan.specs.declared.sheet.Stroke.{Stroke}
use Rattle.sheet_words.specs.Names.{Asks, Goal, ListGoal, Named, help, version, sheet, said, svg_file, pdf_file, list_said, list_file}

-- ---- texts
-- a page's text: as PDF for a file of that, and else as SVG
abbrev pub page_text : Goal → Page → List ℕ
page_text said page = svg_of page
page_text (svg_file name) page = svg_of page
page_text (pdf_file name) page = pdf_of page

-- the text of the list or of the plain job, where one was asked for
abbrev pub listed : Option ListGoal → List ℕ → List ℕ
listed None text = []
listed (Some goal) text = text

-- ---- where they go
abbrev pub way_of : Goal → Way
way_of said = aloud
way_of (svg_file name) = under name
way_of (pdf_file name) = under name

abbrev pub list_way : Option ListGoal → Way
list_way None = nowhere
list_way (Some list_said) = aloud
list_way (Some (list_file name)) = under name

-- the summary is said, unless the sheet, the list or the plain job is
abbrev pub summary_way : Named → Way
summary_way named = unless_said (way_of named.out) (unless_said (list_way named.list) (unless_said (list_way named.plain) aloud))

-- the sheet comes first, then the list, then the plain job, and then the summary
abbrev pub texts_for : Named → List ℕ → List ℕ → List ℕ → List ℕ → List (Text SheetFault)
texts_for named page list plain summary =
    record { way = way_of named.out; unwritten = Common (WriteFault Out); bytes = page }
    ∷ record { way = list_way named.list; unwritten = WriteList; bytes = list }
    ∷ record { way = list_way named.plain; unwritten = WritePlain; bytes = plain }
    ∷ record { way = summary_way named; unwritten = Common (WriteFault Summary); bytes = summary }
    ∷ []

-- What a run with a drawing writes: the text of one page that shows it, the list of that page's strokes, the plain job, and the summary, put
-- in this order, as far as the fault allows; and with no fault the warning in place of a summary that isn't said. On every desk what
-- isn't kept touches no file, and what isn't said adds nothing to what was said.
pub record Writes (named : Named) (fault : Option SheetFault) (old new : DeskState) (made : SheetInput) : Type 0 where
  pub page : Page
  pub strokes : List Stroke
  pub marks : List ViewMarks
  pub drawn : List Bool
  pub covered : ℕ
  pub shows : IsPageWith made.look named.part made.drawing made.shrunk page strokes marks drawn covered
  pub texts : List (Text SheetFault)
  pub are_texts : texts ≡ texts_for named (page_text named.out page) (listed named.list (list_text made.drawing.job made.drawing.sheet drawn strokes)) (listed named.plain (plain_job (job_seen made.drawing.job))) (summary_of made.drawing made.look.fitted made.look.in_units page covered marks)
  pub files : old.tells ≡ true → KeepsTexts sheet_faults fault texts old.files new.files
  pub said : old.tells_said ≡ true → SaysTexts sheet_faults fault texts old.said new.said
  pub spared : SparesFiles sheet_faults fault texts old.files new.files
  pub silent : SparesSaid sheet_faults fault texts old.said new.said
  pub noted : old.tells_warned ≡ true → IfNone fault (Notes (summary_way named) (summary_of made.drawing made.look.fitted made.look.in_units page covered marks) old.warned new.warned)
  pub noted_whole : HearsAll old new → IfNone fault (NotesWhole (summary_way named) (summary_of made.drawing made.look.fitted made.look.in_units page covered marks) old.warned new.warned)

-- and with no fault each file that is named holds its text at the end, for no two texts go to one place
abbrev pub WritesHeld : Named → Option SheetFault → DeskState → DeskState → SheetInput → Type 0
WritesHeld named fault old new made = (w : Writes named fault old new made) × (old.tells ≡ true → IfNone fault (HoldTexts w.texts new.files))

-- the faults of writing beside those of a list and of a plain job: of the sheet, or of a summary that is said
abbrev pub IsOfTarget : Named → Target → Type 0
IsOfTarget named Out = Unit {0}
IsOfTarget named (Plot number) = ⊥
IsOfTarget named Summary = summary_way named ≡ aloud

-- ---- what was asked
-- a sheet was asked for, of which this holds
abbrev pub AsksSheetAnd : Option Asks → (Named → Type 0) → Type 0
AsksSheetAnd None P = ⊥
AsksSheetAnd (Some help) P = ⊥
AsksSheetAnd (Some version) P = ⊥
AsksSheetAnd (Some (sheet named)) P = P named

-- the drawing is written as it was asked for
abbrev pub WritesAsked : Option Asks → Option SheetFault → DeskState → DeskState → SheetInput → Type 0
WritesAsked asked fault old new made = AsksSheetAnd asked (λ named. WritesHeld named fault old new made)

-- without a fault no warning fails but beside a text that is said
abbrev pub IsQuietIfAsked : Option Asks → ℕ → ℕ → Type 0
IsQuietIfAsked (Some help) old new = new ≡ old
IsQuietIfAsked (Some version) old new = new ≡ old
IsQuietIfAsked (Some (sheet named)) old new = IsQuiet (summary_way named) old new
IsQuietIfAsked None old new = new ≡ old

-- without a drawing only help and the version are said
abbrev pub TellsAsked : Option Asks → Option SheetFault → List ℕ → List ℕ → Type 0
TellsAsked (Some help) fault old new = SaysAlone sheet_faults fault HELP.now old new
TellsAsked (Some version) fault old new = SaysAlone sheet_faults fault VERSION.now old new
TellsAsked (Some (sheet named)) fault old new = new ≡ old
TellsAsked None fault old new = new ≡ old

-- and on every desk nothing else is
abbrev pub SpeaksIfTold : Option Asks → List ℕ → List ℕ → Type 0
SpeaksIfTold (Some help) old new = Unit {0}
SpeaksIfTold (Some version) old new = Unit {0}
SpeaksIfTold (Some (sheet named)) old new = new ≡ old
SpeaksIfTold None old new = new ≡ old
