-- The first found in ascending order is the least.
use Rattle.std.proofs.Common.{ℕ, ◌<◌, ◌≤◌, ◌⊎◌, inl, inr}
use Rattle.std.proofs.lemmas.Bool.{cases_lt}
use Rattle.solid_mesh.specs.Faults.{IsLeast}

pub first_is_least : (P : ℕ → Type 0) (m : ℕ) → P m → ((n : ℕ) → n < m → P n → ⊥) → IsLeast P m
first_is_least P m here none = record { holds = here; least = λ n h. by n h (cases_lt n m) }
  where
    by : (n : ℕ) → P n → ((n < m) ⊎ (m ≤ n)) → m ≤ n
    by n h (inl less) = absurd (none n less h)
    by n h (inr more) = more
