-- Where the texts of a mended part go, and what a run leaves of them.
use Rattle.std.specs.Prelude.{◌≡◌, ℕ, true, List, [], ◌∷◌, Option, Some, None, IfNone, Result, Ok, IsOkAnd}
use Rattle.dec_text.specs.declared.number.Length.TheVariants.{Millimetre}
use Rattle.desk.specs.Files.{DeskState, Files}
use Rattle.geometry.specs.Parts.{Part}
use Rattle.geometry.specs.Sound.{IsSound}
use Rattle.mend_core.specs.Mending.{Made}
use Rattle.mend_core.specs.Telling.{told_text}
use Rattle.mend_core.specs.declared.lines.TheConstants.{HELP, VERSION}
use Rattle.mend_words.specs.Names.{Asks, Goal, Named, help, version, mend, said, file}
use Rattle.off_writer.specs.OffTexts.{off_of, raw_of}
use Rattle.part_input.specs.Parts.{TakesSoup, sample_size}
use Rattle.part_input.specs.Reading.{ReadsPartText}
use Rattle.part_input.specs.declared.fault.Fault.{Fault}
use Rattle.part_input.specs.declared.fault.Fault.TheVariants.{WriteFault}
use Rattle.part_input.specs.declared.fault.Target.{Target}
use Rattle.part_input.specs.declared.fault.Target.TheVariants.{Out, Plot, Summary}
use Rattle.put_texts.specs.Desks.{HearsAll}
use Rattle.part_input.specs.Causes.{common}
use Rattle.put_texts.specs.Noting.{IsQuiet, Notes, NotesWhole, unless_said}
use Rattle.put_texts.specs.Order.{Way, Text, aloud, under, SaysAlone, KeepsTexts, SaysTexts, SparesFiles, SparesSaid}

-- ---- where they go
abbrev pub way_of : Goal → Way
way_of said = aloud
way_of (file name) = under name

-- the line that tells of the part is said, unless the part is
abbrev pub summary_way : Goal → Way
summary_way out = unless_said (way_of out) aloud

-- the part comes first, and then the line
abbrev pub texts_for : Goal → List ℕ → List ℕ → List (Text Fault)
texts_for out part summary =
    record { way = way_of out; unwritten = WriteFault Out; bytes = part } ∷ record { way = summary_way out; unwritten = WriteFault Summary; bytes = summary } ∷ []

-- ---- what is read of it
-- The file that the part was written to is read again as a sound part, with these decimals, in millimetres; but where its name is that of
-- a sample this is read in its place.
abbrev pub ReadsSound : ℕ → Goal → Files → Type 0
ReadsSound decimals said files = Unit {0}
ReadsSound decimals (file name) files = sample_size name ≡ None → (r : Result Part Fault) → TakesSoup files name decimals Millimetre r → IsOkAnd r IsSound

-- ---- what is written
-- What a run with a part writes: the part as OFF with the decimals that it was read with, from which its corners and triangles are read
-- again, and the line that tells of it, put in this order, as far as the fault allows; and with no fault the warning in place of a line
-- that isn't said. A file that was written without a fault is accepted: once it is read and welded it is sound. On every desk what isn't
-- kept touches no file, and what isn't said adds nothing to what was said.
pub record Writes (named : Named) (fault : Option Fault) (old new : DeskState) (made : Made) : Type 0 where
  pub text : List ℕ
  pub is_text : text ≡ off_of named.decimals made.part.corners made.part.triangles
  pub reads_back : ReadsPartText named.decimals Millimetre text (Ok (raw_of made.part.corners made.part.triangles))
  pub texts : List (Text Fault)
  pub are_texts : texts ≡ texts_for named.out text (told_text made.told)
  pub files : old.tells ≡ true → KeepsTexts common fault texts old.files new.files
  pub said : old.tells_said ≡ true → SaysTexts common fault texts old.said new.said
  pub accepted : old.tells ≡ true → IfNone fault (ReadsSound named.decimals named.out new.files)
  pub spared : SparesFiles common fault texts old.files new.files
  pub silent : SparesSaid common fault texts old.said new.said
  pub noted : old.tells_warned ≡ true → IfNone fault (Notes (summary_way named.out) (told_text made.told) old.warned new.warned)
  pub noted_whole : HearsAll old new → IfNone fault (NotesWhole (summary_way named.out) (told_text made.told) old.warned new.warned)

-- the faults of writing: of the part, or of a line that is said
abbrev pub IsOfTarget : Goal → Target → Type 0
IsOfTarget out Out = Unit {0}
IsOfTarget out (Plot number) = ⊥
IsOfTarget out Summary = summary_way out ≡ aloud

-- ---- what was asked
-- a mended part was asked for, of which this holds
abbrev pub AsksMendAnd : Option Asks → (Named → Type 0) → Type 0
AsksMendAnd None P = ⊥
AsksMendAnd (Some help) P = ⊥
AsksMendAnd (Some version) P = ⊥
AsksMendAnd (Some (mend named)) P = P named

-- the part is written as it was asked for
abbrev pub WritesAsked : Option Asks → Option Fault → DeskState → DeskState → Made → Type 0
WritesAsked asked fault old new made = AsksMendAnd asked (λ named. Writes named fault old new made)

-- without a fault no warning fails but beside a text that is said
abbrev pub IsQuietIfAsked : Option Asks → ℕ → ℕ → Type 0
IsQuietIfAsked (Some help) old new = new ≡ old
IsQuietIfAsked (Some version) old new = new ≡ old
IsQuietIfAsked (Some (mend named)) old new = IsQuiet (summary_way named.out) old new
IsQuietIfAsked None old new = new ≡ old

-- without a part only help and the version are said
abbrev pub TellsAsked : Option Asks → Option Fault → List ℕ → List ℕ → Type 0
TellsAsked (Some help) fault old new = SaysAlone common fault HELP.now old new
TellsAsked (Some version) fault old new = SaysAlone common fault VERSION.now old new
TellsAsked (Some (mend named)) fault old new = new ≡ old
TellsAsked None fault old new = new ≡ old

-- and on every desk nothing else is
abbrev pub SpeaksIfTold : Option Asks → List ℕ → List ℕ → Type 0
SpeaksIfTold (Some help) old new = Unit {0}
SpeaksIfTold (Some version) old new = Unit {0}
SpeaksIfTold (Some (mend named)) old new = new ≡ old
SpeaksIfTold None old new = new ≡ old
