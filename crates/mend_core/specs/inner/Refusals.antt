-- Refusals with what helps.
use Rattle.std.specs.Prelude.{◌≡◌, ℕ, List, Result, Ok, Err}
use Rattle.dec_text.specs.declared.number.Length.TheVariants.{Millimetre}
use Rattle.mend_core.specs.declared.refusal.Refusal.{Refusal}
use Rattle.part_input.specs.declared.fault.Fault.{Fault}
use Rattle.part_input.specs.declared.fault.Fault.TheVariants.{Part}
use Rattle.part_lines.specs.Hints.{IsPartHint}
use Rattle.part_lines.specs.declared.hint.PartHint.{PartHint}
use Rattle.part_lines.specs.declared.hint.PartHint.TheVariants.{Nothing}

-- the answer, without what helps
abbrev pub faulted : {T : Type 0} → Result T Refusal → Result T Fault
faulted (Ok made) = Ok made
faulted (Err refusal) = Err refusal.fault

-- what helps with a fault of this text
abbrev pub IsHintFor : List ℕ → ℕ → Fault → PartHint → Type 0
IsHintFor text decimals (Part fault) hint = IsPartHint text fault decimals Millimetre hint
IsHintFor text decimals fault hint = hint ≡ Nothing
