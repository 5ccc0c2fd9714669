-- The search over edges, from corner to corner.
use Rattle.std.specs.Prelude.{◌≡◌, ◌≢◌, ◌⊎◌, ℕ, ◌<◌, Bool, true, false, List, [], All, AllPairs, Contains, Some, map, length, slice_get, slice_index_or, ◌++◌, ◌∷◌}
use Rattle.smallvec.specs.SmallVec.{SmallVec}
use Rattle.edge_pick.specs.declared.order.EdgeCorners.{EdgeCorners}
use Rattle.edge_pick.specs.declared.order.DrawnEnd.{DrawnEnd}
use Rattle.edge_pick.specs.declared.order.Step.{Step}
use Rattle.edge_pick.specs.Orders.{corner_of, Meet, places_of, starts_in, AreFrom}

abbrev pub AreBelow : ℕ → EdgeCorners → Type 0
AreBelow n c = (c.a < n) × (c.b < n)

-- ---- the ends at each corner
-- what the vectors hold
abbrev pub lists_of : List (SmallVec DrawnEnd) → List (List DrawnEnd)
lists_of lists = map (λ ends. ends.items) lists

-- each corner's list has the ends there of the first edges, and no others
pub record AreEndsAt (edges : List EdgeCorners) (count : ℕ) (lists : List (List DrawnEnd)) : Type 0 where
  pub room : All (AreBelow (length lists)) edges
  pub right : (corner : ℕ) (end : DrawnEnd) → Contains (slice_index_or lists corner []) end → (end.place < count) × (corner_of edges end ≡ corner)
  pub listed : (end : DrawnEnd) → end.place < count → Contains (slice_index_or lists (corner_of edges end) []) end

abbrev pub IsReached : List Bool → ℕ → Type 0
IsReached reached place = slice_index_or reached place false ≡ true

-- so for all edges, where an end whose edge is reached may be left out
pub record AreEndsLeft (edges : List EdgeCorners) (lists : List (List DrawnEnd)) (reached : List Bool) : Type 0 where
  pub room : All (AreBelow (length lists)) edges
  pub right : (corner : ℕ) (end : DrawnEnd) → Contains (slice_index_or lists corner []) end → (end.place < length edges) × (corner_of edges end ≡ corner)
  pub listed : (end : DrawnEnd) → end.place < length edges → Contains (slice_index_or lists (corner_of edges end) []) end ⊎ IsReached reached end.place

-- ---- a search
-- the edges that are reached are those that the steps go to, each once
pub record IsSearch (edges : List EdgeCorners) (reached : List Bool) (steps : List Step) : Type 0 where
  pub long : length reached ≡ length edges
  pub told : (place : ℕ) → IsReached reached place → Contains (places_of steps) place
  pub marked : (place : ℕ) → Contains (places_of steps) place → IsReached reached place
  pub once : AllPairs ◌≢◌ (places_of steps)
  pub from : AreFrom edges steps

-- with an edge, those that it meets are reached
abbrev pub IsClosed : List EdgeCorners → List Bool → Type 0
IsClosed edges reached = (i j : ℕ) → IsReached reached i → j < length edges → Meet edges i j → IsReached reached j

-- the search has gone on, and no run has begun
pub record IsOnward (edges : List EdgeCorners) (old_reached : List Bool) (old_steps : List Step) (reached : List Bool) (steps : List Step) : Type 0 where
  pub search : IsSearch edges reached steps
  pub grows : (place : ℕ) → IsReached old_reached place → IsReached reached place
  pub kept : (k : ℕ) (step : Step) → slice_get old_steps k ≡ Some step → slice_get steps k ≡ Some step
  pub starts : starts_in steps ≡ starts_in old_steps

-- and all edges at a corner are reached
pub record IsSpread (edges : List EdgeCorners) (corner : ℕ) (old_reached : List Bool) (old_steps : List Step) (lists : List (List DrawnEnd)) (reached : List Bool) (steps : List Step) : Type 0 where
  pub onward : IsOnward edges old_reached old_steps reached steps
  pub ends : AreEndsLeft edges lists reached
  pub all : (end : DrawnEnd) → end.place < length edges → corner_of edges end ≡ corner → IsReached reached end.place

-- and all edges that meet one are reached
pub record IsAround (edges : List EdgeCorners) (place : ℕ) (old_reached : List Bool) (old_steps : List Step) (lists : List (List DrawnEnd)) (reached : List Bool) (steps : List Step) : Type 0 where
  pub onward : IsOnward edges old_reached old_steps reached steps
  pub ends : AreEndsLeft edges lists reached
  pub all : (other : ℕ) → other < length edges → Meet edges place other → IsReached reached other

-- a run has begun at a place, and all that it leads to is reached
pub record IsRun (edges : List EdgeCorners) (start : ℕ) (old_reached : List Bool) (old_steps : List Step) (lists : List (List DrawnEnd)) (reached : List Bool) (steps : List Step) : Type 0 where
  pub search : IsSearch edges reached steps
  pub ends : AreEndsLeft edges lists reached
  pub closed : IsClosed edges reached
  pub grows : (place : ℕ) → IsReached old_reached place → IsReached reached place
  pub started : IsReached reached start
  pub starts : starts_in steps ≡ starts_in old_steps ++ start ∷ []
