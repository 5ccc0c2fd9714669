-- What a sheet is drawn from: steps in order, each with what it gives and what it refuses.
use Rattle.std.specs.Prelude.{◌≡◌, Result, Ok}
use Rattle.desk.specs.Files.{Files}
use Rattle.part_input.specs.Parts.{sample_size}
use Rattle.part_input.specs.Steps.{◌and_then◌}
use Rattle.sheet_layout.specs.declared.layout.Wish.{Wish}
use Rattle.sheet_plan.specs.JobSheets.{Drawn}
use Rattle.sheet_words.specs.Names.{Named}
use Rattle.sheet_input.specs.Fits.{FitsBy, SettlesBy}
use Rattle.sheet_input.specs.Jobs.{AnyValues, Lifted, TakesAnyJob}
use Rattle.sheet_input.specs.Looks.{Look, look_of}
use Rattle.sheet_input.specs.Sheets.{LaysSheet, wish_of}
use Rattle.sheet_input.specs.Texts.{PartText, TakesText}
use Rattle.sheet_input.specs.Titles.{title_of}
use Rattle.sheet_input.specs.declared.fault.SheetFault.{SheetFault}

-- what is drawn, by which job, how the sheet looks, and what was asked of its layout
pub record DrawnSheet : Type 0 where
  pub drawn : Drawn
  pub look : Look
  pub wish : Wish

-- the part at the number of decimals that fits, laid out on its sheet
abbrev pub DrawsText : Named → AnyValues → PartText → Result DrawnSheet SheetFault → Type 0
DrawsText named values text =
    FitsBy (title_of named.said.title values named.part) values (sample_size named.part) text and_then λ settled.
    (LaysSheet (wish_of values) settled.job settled.part and_then λ drawn r. r ≡ Ok (record { drawn = drawn; look = look_of named values; wish = wish_of values }))

-- the job's places of cuts are in range; then the part is taken
abbrev pub DrawsBy : Files → Named → AnyValues → Result DrawnSheet SheetFault → Type 0
DrawsBy files named values =
    SettlesBy (title_of named.said.title values named.part) values (sample_size named.part) and_then λ job.
    (Lifted (TakesText files named.part) and_then λ text. DrawsText named values text)

-- the job that is named or the usual one, the part, and the sheet
abbrev pub DrawsSheet : Files → Named → Result DrawnSheet SheetFault → Type 0
DrawsSheet files named = TakesAnyJob files named.job and_then λ values. DrawsBy files named values
