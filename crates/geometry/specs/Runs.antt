-- The runs of drawn edges: their connected parts.
use Rattle.std.specs.Prelude.{◌≡◌, ◌⊎◌, ◌↔◌, ℕ, ◌+◌, ◌<◌, List, [], ◌∷◌, Contains, length, Some, slice_get}
use Rattle.geometry.specs.Parts.{Part, Edge, IsNumbered}

-- the edges with these numbers have a corner number in common
pub record ShareACorner (s : Part) (halves : List ℕ) (i j : ℕ) : Type 0 where
  pub first : Edge s
  pub second : Edge s
  pub at_first : IsNumbered halves i first
  pub at_second : IsNumbered halves j second
  pub corner : (first.m ≡ second.m) ⊎ (first.m ≡ second.n) ⊎ (first.n ≡ second.m) ⊎ (first.n ≡ second.n)

-- drawn edges lead from the one to the other, neighbours sharing a corner
pub data Leads (s : Part) (halves drawn : List ℕ) : ℕ → ℕ → Type 0 where
  start : (i : ℕ) → Contains drawn i → Leads s halves drawn i i
  step : (i j k : ℕ) → Leads s halves drawn i j → Contains drawn k → ShareACorner s halves j k → Leads s halves drawn i k

-- each number is less than the next new one, or is that one
abbrev pub CountUpFrom : ℕ → List ℕ → Type 0
CountUpFrom next [] = Unit {0}
CountUpFrom next (r ∷ rs) = ((r < next) × CountUpFrom next rs) ⊎ ((r ≡ next) × CountUpFrom (next + 1) rs)

-- the number of its run for each drawn edge; runs are numbered from 0 by their first edge
pub record AreRuns (s : Part) (halves drawn runs : List ℕ) : Type 0 where
  pub each : length runs ≡ length drawn
  pub same : (k l i j m n : ℕ) → slice_get drawn k ≡ Some i → slice_get drawn l ≡ Some j → slice_get runs k ≡ Some m → slice_get runs l ≡ Some n → (m ≡ n) ↔ Leads s halves drawn i j
  pub numbered : CountUpFrom 0 runs
