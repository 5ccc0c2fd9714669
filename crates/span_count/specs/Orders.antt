-- The order in which drawn edges are walked.
use Rattle.std.specs.Prelude.{◌≡◌, ℕ, ◌+◌, ◌≤◌, List, [], ◌∷◌, Option, Some, None, map, length, slice_get, IsPermutation}
use Rattle.std.specs.List.{range_with_len}
use Rattle.geometry.specs.Parts.{Edge, IsNumbered}
use Rattle.geometry.specs.Turns.{number_at}
use Rattle.cross_find.specs.Sights.{SightState}
use Rattle.edge_pick.specs.declared.Picked.{Picked}
use Rattle.edge_pick.specs.Orders.{IsWalkedBefore}
use Rattle.span_count.specs.Bounds.{IsRunCount}
use Rattle.edge_pick.specs.declared.order.DrawnEnd.{DrawnEnd}
use Rattle.edge_pick.specs.declared.order.Step.{Step}

-- the two ends are at one corner
abbrev pub AreAtOneCorner : (x : SightState) → Picked → DrawnEnd → DrawnEnd → Type 0
AreAtOneCorner x p a b = (i j : ℕ) (e f : Edge x.part) → slice_get p.drawn.items a.place ≡ Some i → slice_get p.drawn.items b.place ≡ Some j →
    IsNumbered x.halves i e → IsNumbered x.halves j f → number_at e a.at_b ≡ number_at f b.at_b

-- the step goes on from an end of an edge that was walked before it, at the same corner; or it begins a run
abbrev pub ComesFrom : SightState → Picked → List Step → ℕ → DrawnEnd → Option DrawnEnd → Type 0
ComesFrom x p steps k to None = Unit {0}
ComesFrom x p steps k to (Some from) = IsWalkedBefore steps k from.place × AreAtOneCorner x p from to

-- 1 where a step begins a run
abbrev pub start_of : Option DrawnEnd → ℕ
start_of None = 1
start_of (Some from) = 0

-- how many steps begin a run
abbrev pub starts_of : List Step → ℕ
starts_of [] = 0
starts_of (x ∷ xs) = start_of x.from + starts_of xs

-- Steps over all drawn edges, each once; each goes on from a corner of an edge before it, but for at most one step in each run.
pub record AreSteps (x : SightState) (p : Picked) (steps : List Step) : Type 0 where
  pub each : IsPermutation (map (λ step. step.to.place) steps) (range_with_len 0 (length p.drawn.items))
  pub from : (k : ℕ) (step : Step) → slice_get steps k ≡ Some step → ComesFrom x p steps k step.to step.from
  pub starts : (runs : ℕ) → IsRunCount p.runs.items runs → starts_of steps ≤ runs
