-- Numbers of runs, by the order in which drawn edges are reached.
use Rattle.std.specs.Prelude.{◌≡◌, ℕ, ◌<◌, ◌≤◌, false, true, List, AllPairs, Option, Some, None, length, slice_get, slice_index_or}
use Rattle.geometry.specs.Parts.{Part, Edge, IsNumbered}
use Rattle.edge_pick.specs.declared.order.EdgeCorners.{EdgeCorners}
use Rattle.edge_pick.specs.declared.order.DrawnEnd.{DrawnEnd}
use Rattle.edge_pick.specs.declared.order.Step.{Step}
use Rattle.edge_pick.specs.Orders.{corner_at, Reaches, starts_in}

-- the part has an edge with this number
pub record HasEdge (s : Part) (halves : List ℕ) (i : ℕ) : Type 0 where
  pub edge : Edge s
  pub numbered : IsNumbered halves i edge

-- these are the corners of the first of the drawn edges
pub record AreCornersOf (s : Part) (halves drawn : List ℕ) (edges : List EdgeCorners) : Type 0 where
  pub right : (place i : ℕ) (e : Edge s) → place < length edges → slice_get drawn place ≡ Some i → IsNumbered halves i e →
      (e.m ≡ corner_at edges place false) × (e.n ≡ corner_at edges place true)

-- the end's place is below this
abbrev pub IsWithin : Option DrawnEnd → ℕ → Type 0
IsWithin None count = Unit {0}
IsWithin (Some from) count = from.place < count

-- the next number, or that of the edge that is come from
abbrev pub number_from : Option DrawnEnd → List ℕ → ℕ → ℕ
number_from None runs next = next
number_from (Some from) runs next = slice_index_or runs from.place 0

-- the number is the place of a start in the list; from there one reaches the edge, which is not before it
pub record IsNumberOf (edges : List EdgeCorners) (starts : List ℕ) (run place : ℕ) : Type 0 where
  pub start : ℕ
  pub listed : slice_get starts run ≡ Some start
  pub leads : Reaches edges start place
  pub first : start ≤ place

-- the starts rise, and each edge has the number of its run's start among them
pub record AreNumbered (edges : List EdgeCorners) (steps : List Step) (runs : List ℕ) : Type 0 where
  pub long : length runs ≡ length edges
  pub rising : AllPairs ◌<◌ (starts_in steps)
  pub right : (place : ℕ) → place < length edges → IsNumberOf edges (starts_in steps) (slice_index_or runs place 0) place
