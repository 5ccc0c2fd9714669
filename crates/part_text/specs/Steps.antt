-- Reading, step by step: what a step makes of the tokens that are left.
use Rattle.std.specs.Prelude.{◌≡◌, ℕ, zero, suc, Bool, true, false, List, [], ◌∷◌, Result, Ok, Err}
use Rattle.lex_lines.specs.declared.token.Token.{Token}
use Rattle.weld.specs.declared.fault.PartFault.{PartFault}
use Rattle.weld.specs.declared.fault.PartKind.{PartKind}

-- a value and the tokens behind it, or the fault at the first token at which no reading goes on
abbrev pub Reading : Type 0 → Type 0
Reading X = Result (X × List Token) PartFault

-- of these tokens the step makes this
abbrev pub Step : Type 0 → Type 1
Step X = List Token → Reading X → Type 0

abbrev pub fault_at : ℕ → PartKind → PartFault
fault_at line kind = record { line = line; kind = kind }

-- the value, with no token taken
abbrev pub StepGives : {X : Type 0} → X → Step X
StepGives x tokens r = r ≡ Ok (x, tokens)

abbrev pub Fails : {X : Type 0} → ℕ → PartKind → Step X
Fails line kind tokens r = r ≡ Err (fault_at line kind)

abbrev pub After : {X Y : Type 0} → (X → Step Y) → Reading X → Reading Y → Type 0
After next (Ok (x, tokens)) r = next x tokens r
After next (Err fault) r = r ≡ Err fault

infixr 5 ◌then◌
-- one step and, where it gives a value, the next
abbrev pub ◌then◌ : {X Y : Type 0} → Step X → (X → Step Y) → Step Y
(first then next) tokens r = (made : Reading _) × first tokens made × After next made r

-- so many times the step, one after the other
abbrev pub Times : {X : Type 0} → ℕ → Step X → Step (List X)
Times zero one = StepGives []
Times (suc n) one = one then λ x. Times n one then λ xs. StepGives (x ∷ xs)

-- what a function makes of the tokens
abbrev pub Computes : {X : Type 0} → (List Token → Reading X) → Step X
Computes f tokens r = r ≡ f tokens

-- the value where the test passes, and else a fault
abbrev pub checked : {X : Type 0} → Bool → X → ℕ → PartKind → List Token → Reading X
checked true x line kind tokens = Ok (x, tokens)
checked false x line kind tokens = Err (fault_at line kind)

abbrev pub Check : {X : Type 0} → Bool → X → ℕ → PartKind → Step X
Check test x line kind = Computes (checked test x line kind)

-- the value alone
abbrev pub read_value : {X : Type 0} → Reading X → Result X PartFault
read_value (Ok (x, tokens)) = Ok x
read_value (Err fault) = Err fault
