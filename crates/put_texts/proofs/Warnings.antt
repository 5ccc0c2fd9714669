-- What a warning adds, whatever it answers, is a prefix of its line.
use Rattle.std.proofs.Common.{ℕ, List, ◌++◌, length, ap, sym, ◌∙◌, arith}
use Rattle.std.specs.Prelude.{Result, Ok, Err}
use Rattle.std.proofs.lemmas.List.{take_all, append-nil}
use Rattle.desk.specs.Files.{Appends, AppendsFront}
use Rattle.desk.specs.declared.desk.DeskFault.{DeskFault}
use Rattle.desk.specs.declared.desk.DeskFault.TheVariants.{Failed, Memory}

pub added : {T : Type 0} (answer : Result T DeskFault) (old new bytes : List ℕ) → Appends answer old new bytes → AppendsFront old new bytes
added (Ok done) old new bytes is = (length bytes, is ∙ ap (λ b. old ++ b) (sym (take_all (length bytes) bytes (omega arith))))
added (Err Failed) old new bytes front = front
added (Err (Memory none)) old new bytes is = (0, is ∙ sym (append-nil old))
