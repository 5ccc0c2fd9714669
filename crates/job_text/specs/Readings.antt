-- What is read from the front of a text, or the first fault.
use Rattle.std.specs.Prelude.{◌≡◌, ℕ, ◌<◌, List, length, Result, Ok, Err, IfOk}
use Rattle.std.specs.Borrow.{Bor}
use Rattle.job_text.specs.declared.fault.Flaw.{Flaw}
use Rattle.job_text.specs.declared.fault.Stop.{Stop}
use Rattle.job_text.specs.declared.fault.Stop.TheVariants.{At, Memory}

-- what is read and the text after it; or what is wrong, and how many bytes are left where it is
abbrev pub TextReading : Type 0 → Type 0
TextReading A = Result (A × List ℕ) (Flaw × ℕ)

-- the flaw, at the front of this text
abbrev pub flawed : {A : Type 0} → Flaw → List ℕ → Result A (Flaw × ℕ)
flawed flaw text = Err (flaw, length text)

-- what is read, and then the rest; or its fault
infixl 10 ◌>>=◌
abbrev pub ◌>>=◌ : {A B : Type 0} → Result A (Flaw × ℕ) → (A → Result B (Flaw × ℕ)) → Result B (Flaw × ℕ)
(Ok x) >>= f = f x
(Err e) >>= f = Err e

-- the fault is the one that is said, unless memory ran out
abbrev pub Stops : {B : Type 0} → Stop → Result B (Flaw × ℕ) → Type 0
Stops (At flaw left) said = said ≡ Err (flaw, left)
Stops (Memory e) said = Unit {0}

-- the result is what is said, seen through f
abbrev pub SaysRead : {A B : Type 0} → (A → B) → Result A Stop → Result B (Flaw × ℕ) → Type 0
SaysRead f (Ok x) said = said ≡ Ok (f x)
SaysRead f (Err stop) said = Stops stop said

-- the same of something and the text after it
abbrev pub Reads : {A B : Type 0} → (A → B) → Result (A × Bor (List ℕ)) Stop → TextReading B → Type 0
Reads f result said = SaysRead (λ p. (f p.0, p.1.now)) result said

-- less text is left
abbrev pub Shortens : {A : Type 0} → List ℕ → Result (A × Bor (List ℕ)) Stop → Type 0
Shortens text result = IfOk result (λ p. length p.1.now < length text)
