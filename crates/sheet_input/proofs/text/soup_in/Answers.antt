use Rattle.std.proofs.Common.{ℕ, List, subst}
use Rattle.geometry.specs.Parts.{part_of}
use Rattle.part_input.specs.Parts.{ReadsPart}
use Rattle.part_input.specs.Steps.{GivesInput}
use Rattle.sheet_input.proofs.text.soup_in.Goals as goal

pub returns-in-Bytes-clause-answer : goal.returns-in-Bytes-clause-answer
returns-in-Bytes-clause-answer c =
    rw c.in-Bytes.is (subst (λ (bytes : List ℕ). GivesInput part_of (ReadsPart c.args.decimals c.args.unit bytes) c.soup_of.result) c.deref.ensures.value c.soup_of.ensures.answer)
