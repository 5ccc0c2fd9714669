-- The sides that some first halves go along, and the edges among them.
use Rattle.std.specs.Prelude.{◌≡◌, ◌↔◌, ℕ, ◌<◌, ◌≤◌, ◌&&◌, ◌==◌, Bool, List, Some, length, slice_index, slice_get, IsTrue}
use Rattle.std.specs.List.{list_any}
use Rattle.geometry.specs.Parts.{Part, IsHalf, AreEdges}
use Rattle.fault_place.specs.declared.halves.DirectedSide.{DirectedSide}

-- the test of two sides, number by number
abbrev pub same_side : DirectedSide → DirectedSide → Bool
same_side v w = (v.from == w.from) && (v.to == w.to)

-- these are the sides along the first halves
abbrev pub AreFirstSides : Part → ℕ → List DirectedSide → Type 0
AreFirstSides s count sides =
    (m n : ℕ) → IsTrue (list_any (same_side (record { from = m; to = n })) sides) ↔ ((k : ℕ) × (k < count) × IsHalf s k m n)

-- exactly so many numbers of the list are below the bound, and they come first
pub record AreBelow (bound count : ℕ) (numbers : List ℕ) : Type 0 where
  pub within : count ≤ length numbers
  pub before : (i : ℕ) → i < count → slice_index numbers i < bound
  pub behind : (i : ℕ) → count ≤ i → i < length numbers → bound ≤ slice_index numbers i

-- so many edges go along the first halves
abbrev pub AreFirstEdges : Part → ℕ → ℕ → Type 0
AreFirstEdges s bound count = (halves : List ℕ) → AreEdges s halves → AreBelow bound count halves

-- there is an edge with this number
abbrev pub HasEdge : Part → ℕ → Type 0
HasEdge s edge = (halves : List ℕ) × AreEdges s halves × (edge < length halves)

-- the edge with this number goes along this half
abbrev pub IsHalfOfEdge : Part → ℕ → ℕ → Type 0
IsHalfOfEdge s edge half = (halves : List ℕ) → AreEdges s halves → slice_get halves edge ≡ Some half
