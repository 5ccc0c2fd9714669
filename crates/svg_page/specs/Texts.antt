-- Texts of several parts.
use Rattle.std.specs.Prelude.{ℕ, List, ◌++◌}

-- one text and then another, grouped to the right as the parts of a format are
infixr 10 ◌⊕◌
abbrev pub ◌⊕◌ : List ℕ → List ℕ → List ℕ
a ⊕ b = a ++ b
