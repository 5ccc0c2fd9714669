-- The order in which edges are reached from corner to corner.
use Rattle.std.specs.Prelude.{◌≡◌, ◌≢◌, ℕ, ◌<◌, Bool, true, false, List, All, AllPairs, Option, Some, None, map, length, slice_get, slice_index_or, IsPermutation}
use Rattle.std.specs.List.{filter_map, range_with_len}
use Rattle.edge_pick.specs.declared.order.EdgeCorners.{EdgeCorners}
use Rattle.edge_pick.specs.declared.order.DrawnEnd.{DrawnEnd}
use Rattle.edge_pick.specs.declared.order.Step.{Step}

-- ---- edges by their corners
abbrev pub number_in : EdgeCorners → Bool → ℕ
number_in c false = c.a
number_in c true = c.b

abbrev pub no_corners : EdgeCorners
no_corners = record { a = 0; b = 0 }

-- the corner at an end of the edge at a place
abbrev pub corner_at : List EdgeCorners → ℕ → Bool → ℕ
corner_at edges place at_b = number_in (slice_index_or edges place no_corners) at_b

abbrev pub corner_of : List EdgeCorners → DrawnEnd → ℕ
corner_of edges end = corner_at edges end.place end.at_b

-- the edges at two places have a corner in common
pub record Meet (edges : List EdgeCorners) (i j : ℕ) : Type 0 where
  pub at_b : Bool
  pub other_at_b : Bool
  pub same : corner_at edges i at_b ≡ corner_at edges j other_at_b

-- edges lead from the one place to the other
pub data Reaches (edges : List EdgeCorners) : ℕ → ℕ → Type 0 where
  begin : (i : ℕ) → Reaches edges i i
  further : (i j k : ℕ) → Reaches edges i j → k < length edges → Meet edges j k → Reaches edges i k

-- ---- steps
abbrev pub places_of : List Step → List ℕ
places_of steps = map (λ step. step.to.place) steps

abbrev pub begun_at : ℕ → Option DrawnEnd → Option ℕ
begun_at place None = Some place
begun_at place (Some from) = None

-- the places at which runs begin
abbrev pub starts_in : List Step → List ℕ
starts_in steps = filter_map (λ step. begun_at step.to.place step.from) steps

-- one of the first k steps goes to the edge at this place
pub record IsWalkedBefore (steps : List Step) (k place : ℕ) : Type 0 where
  pub at : ℕ
  pub step : Step
  pub before : at < k
  pub listed : slice_get steps at ≡ Some step
  pub same : step.to.place ≡ place

-- a run begins at the first edge that was not reached before; else the end that is come from is of an edge before, at the same corner
abbrev pub IsFrom : List EdgeCorners → List Step → ℕ → DrawnEnd → Option DrawnEnd → Type 0
IsFrom edges steps k to None = (place : ℕ) → place < to.place → IsWalkedBefore steps k place
IsFrom edges steps k to (Some from) = IsWalkedBefore steps k from.place × (corner_of edges from ≡ corner_of edges to)

abbrev pub AreFrom : List EdgeCorners → List Step → Type 0
AreFrom edges steps = (k : ℕ) (step : Step) → slice_get steps k ≡ Some step → IsFrom edges steps k step.to step.from

-- each edge is gone to once, from an edge before it at the same corner, and no start leads to a later one
pub record AreWalked (edges : List EdgeCorners) (steps : List Step) : Type 0 where
  pub each : IsPermutation (places_of steps) (range_with_len 0 (length edges))
  pub once : AllPairs ◌≢◌ (places_of steps)
  pub from : AreFrom edges steps
  pub starts : All (λ i. i < length edges) (starts_in steps)
  pub apart : AllPairs (λ i j. ¬ Reaches edges i j) (starts_in steps)
