-- Words that name no file to be read have no fault of reading.
use Rattle.std.proofs.Common.{◌≡◌, Option, Some, None, IfSome, inl, inr, subst}
use Rattle.std.specs.Prelude.{List, ℕ}
use Rattle.draw_words.specs.Names.{Named}
use Rattle.part_input.specs.Causes.{cause_of, unread}
use Rattle.part_input.specs.Parts.{sample_size}
use Rattle.part_input.specs.Sheets.{NamesNoFile}
use Rattle.part_input.specs.declared.fault.Input.{Input}
use Rattle.part_input.specs.declared.fault.Fault.{Fault}
use Rattle.part_input.specs.declared.fault.Fault.TheVariants.{ReadFault}
use Rattle.part_input.proofs.Causes.{read_only}
use Rattle.part_input.proofs.NoFile.{sample_not_read}
use Rattle.draw_core.specs.Run.{AnswersDrawWords, IsOfFiles, IsOfJob}

not_read : (named : Named) → NamesNoFile named.job named.part → (input : Input) → IsOfFiles named (ReadFault input) → ⊥
not_read named alone input (inl of_job) = subst (λ (name : Option (List ℕ)). IsOfJob name (ReadFault input)) alone.no_job of_job
not_read named alone input (inr (inl of_part)) = sample_not_read (sample_size named.part) alone.sample input of_part
not_read named alone input (inr (inr of_sheet)) = of_sheet

input_unread : (named : Option Named) → IfSome named (λ names. NamesNoFile names.job names.part) → (input : Input) → AnswersDrawWords named (Some (ReadFault input)) → ⊥
input_unread None alone input words = words
input_unread (Some names) alone input words = not_read names alone input words

pub no_reading : (named : Option Named) → IfSome named (λ names. NamesNoFile names.job names.part) → (f : Fault) → cause_of f ≡ unread → AnswersDrawWords named (Some f) → ⊥
no_reading named alone f is words = read_only (λ (f : Fault). AnswersDrawWords named (Some f) → ⊥) (λ input. input_unread named alone input) f is words
