-- Which hatch lines are at a U - V or beyond.
use Rattle.std.specs.Prelude.{◌↔◌, ℕ, ℤ, pos, ◌*ℤ◌, ◌≤ℤ◌}

-- the hatch lines from this number on, and no others, are where U - V is n / m or more
abbrev pub IsFirstNumber : ℤ → ℤ → ℕ → ℤ → Type 0
IsFirstNumber n m spacing first = (number : ℤ) → (first ≤ℤ number) ↔ (n ≤ℤ ((number *ℤ pos spacing) *ℤ m))
