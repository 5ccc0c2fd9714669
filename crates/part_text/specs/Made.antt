-- What a call of the code made, as a reading.
use Rattle.std.specs.Prelude.{List, Result, Ok, Err}
use Rattle.lex_lines.specs.declared.token.Token.{Token}
use Rattle.weld.specs.declared.fault.PartError.{PartError}
use Rattle.weld.specs.declared.fault.PartError.TheVariants.{Part, Memory}
use Rattle.weld.specs.declared.fault.PartFault.{PartFault}
use Rattle.part_text.specs.Steps.{Reading}

-- the answer, and the tokens that are left behind it
abbrev pub made : {A X : Type 0} → (A → X) → Result A PartFault → List Token → Reading X
made view (Ok a) left = Ok (view a, left)
made view (Err fault) left = Err fault

-- so it is of an answer that isn't want of memory
abbrev pub IsMade : {A X : Type 0} → (A → X) → (Reading X → Type 0) → Result A PartError → List Token → Type 0
IsMade view P (Ok a) left = P (Ok (view a, left))
IsMade view P (Err (Part fault)) left = P (Err fault)
IsMade view P (Err (Memory e)) left = Unit {0}
