-- 1 or 0 for a statement.
use Rattle.std.specs.Prelude.{ℤ, pos}

-- 1 where P holds, else 0
pub data IsTally (P : Type 0) : ℤ → Type 0 where
  yes : P → IsTally P (pos 1)
  no : ¬ P → IsTally P (pos 0)
