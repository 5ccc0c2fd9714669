-- Columns of a line: the text of a value, and behind it a byte that is in none.
use Rattle.std.specs.Prelude.{◌≡◌, ◌≢◌, ℕ, List, [], ◌∷◌, ◌++◌, Option, MatchOption}

-- the byte doesn't stand in the text
abbrev pub IsFree : ℕ → List ℕ → Type 0
IsFree byte [] = Unit {0}
IsFree byte (next ∷ text) = (next ≢ byte) × IsFree byte text

-- what a text is read as: the value that it is written of, where it is written of one
abbrev pub Reads : {X : Type 0} → (X → Type 0) → (X → List ℕ) → List ℕ → Option X → Type 0
Reads {X} Holds text_of text result = MatchOption result ((x : X) → Holds x → text ≡ text_of x → ⊥) (λ x. Holds x × (text ≡ text_of x))

-- the text begins with that of x and this byte, and goes on with the rest; so it does with no other text of a value
pub record IsColumn {X : Type 0} (Holds : X → Type 0) (text_of : X → List ℕ) (end : ℕ) (text : List ℕ) (x : X) (rest : List ℕ) : Type 0 where
  pub holds : Holds x
  pub written : text ≡ text_of x ++ end ∷ rest
  pub alone : (y : X) (tail : List ℕ) → Holds y → text ≡ text_of y ++ end ∷ tail → (text_of y ≡ text_of x) × (tail ≡ rest)

-- the text begins with no value's and this byte
abbrev pub HasNoColumn : {X : Type 0} → (X → Type 0) → (X → List ℕ) → ℕ → List ℕ → Type 0
HasNoColumn {X} Holds text_of end text = (x : X) (rest : List ℕ) → Holds x → text ≡ text_of x ++ end ∷ rest → ⊥
