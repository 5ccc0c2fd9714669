-- What the line of a fault tells beside it.
use Rattle.std.specs.Prelude.{◌≡◌, ℕ, true, List, Option, Some, None, Err}
use Rattle.dec_text.specs.declared.number.Length.TheVariants.{Millimetre}
use Rattle.desk.specs.Files.{DeskState}
use Rattle.desk_reasons.specs.Reasons.{MayGive}
use Rattle.desk_reasons.specs.declared.reason.Reason.{Reason}
use Rattle.mend_core.specs.Lines.{mend_line}
use Rattle.mend_words.specs.Names.{Asks, Named, help, version, mend}
use Rattle.part_input.specs.Reading.{ReadsPartText}
use Rattle.part_input.specs.declared.fault.Fault.{Fault}
use Rattle.part_input.specs.declared.fault.Fault.TheVariants.{Part}
use Rattle.part_lines.specs.Hints.{IsPartHint}
use Rattle.part_lines.specs.declared.hint.PartHint.{PartHint}
use Rattle.part_lines.specs.declared.hint.PartHint.TheVariants.{Nothing}
use Rattle.put_texts.specs.Reasoned.{IsLineWith}
use Rattle.weld.specs.declared.fault.PartFault.{PartFault}

-- the hint helps with the fault of a text; on a desk that tells its files that is the text of the part that was named
pub record IsHintOf (named : Named) (old : DeskState) (fault : PartFault) (hint : PartHint) : Type 0 where
  pub text : List ℕ
  pub refused : ReadsPartText named.decimals Millimetre text (Err fault)
  pub helps : IsPartHint text fault named.decimals Millimetre hint
  pub of_files : old.tells ≡ true → old.files named.part ≡ Some text

-- of a text what helps is told, and else nothing
abbrev pub IsToldFor : Named → DeskState → Fault → PartHint → Type 0
IsToldFor named old (Part fault) hint = IsHintOf named old fault hint
IsToldFor named old fault hint = hint ≡ Nothing

-- a run with names tells that, and one without nothing
abbrev pub IsToldTo : Option Named → DeskState → Fault → PartHint → Type 0
IsToldTo None old fault hint = hint ≡ Nothing
IsToldTo (Some named) old fault hint = IsToldFor named old fault hint

-- the names that the words give, where they ask for a part
abbrev pub named_in : Option Asks → Option Named
named_in (Some (mend named)) = Some named
named_in (Some help) = None
named_in (Some version) = None
named_in None = None

-- The line tells the fault, with what helps, and with a reason that desks of this kind may give: that of a file which couldn't be read
-- or written says it.
abbrev pub IsLineOf : {D : Type 0} → (D → Option Reason) → Option Named → DeskState → Fault → List ℕ → Type 0
IsLineOf of_desk named = IsLineWith (MayGive of_desk) (IsToldTo named) (mend_line named)
