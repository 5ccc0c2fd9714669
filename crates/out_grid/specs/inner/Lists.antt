-- What is put into the cells, and what is taken from them.
use Rattle.std.specs.Prelude.{◌≡◌, ◌≢◌, ◌⊎◌, ◌↔◌, ℕ, ◌<◌, ◌≤◌, List, [], ◌∷◌, ◌++◌, All, AllPairs, Contains, length, slice_index_or}
use Rattle.lattice.specs.Triple.{Triple}
use Rattle.geometry.specs.Parts.{Part}
use Rattle.out_grid.specs.Cells.{Raster, HasPointIn}
use Rattle.out_grid.specs.Grids.{cell_at, HoldsThose}

-- ---- into cells
-- an outline was put last into the cells of which P holds, and the others stand
abbrev pub IsPut : (ℕ → ℕ → Type 0) → ℕ → ℕ → List (List ℕ) → List (List ℕ) → Type 0
IsPut P columns outline old new = (column row : ℕ) → column < columns → row < columns →
    (P column row × (cell_at new columns column row ≡ cell_at old columns column row ++ outline ∷ []))
    ⊎ ((¬ P column row) × (cell_at new columns column row ≡ cell_at old columns column row))

-- each cell holds those of these outlines that have a point in it
abbrev pub AreHeld : Triple → Raster → Part → List ℕ → List ℕ → ℕ → List (List ℕ) → Type 0
AreHeld d r s halves outlines columns cells = (column row : ℕ) → column < columns → row < columns →
    HoldsThose {s = s} halves outlines (λ o. HasPointIn d r o column row) (cell_at cells columns column row)

-- some column and row of which P holds has a cell with k
abbrev pub IsInSome : (ℕ → ℕ → Type 0) → ℕ → List (List ℕ) → ℕ → Type 0
IsInSome P columns cells k = (column : ℕ) × (row : ℕ) × P column row × Contains (cell_at cells columns column row) k

-- ---- stamps
-- the list has the numbers with this stamp, each once, and no stamp is above it
pub record IsStamped (stamp : ℕ) (stamps list : List ℕ) : Type 0 where
  pub once : AllPairs ◌≢◌ list
  pub within : All (λ k. k < length stamps) list
  pub stamped : (k : ℕ) → k < length stamps → (slice_index_or stamps k 0 ≡ stamp) ↔ Contains list k
  pub most : All (λ m. m ≤ stamp) stamps

-- the list has also those of which Q holds
abbrev pub IsGrown : (ℕ → Type 0) → List ℕ → List ℕ → Type 0
IsGrown Q old new = (k : ℕ) → Contains new k ↔ (Contains old k ⊎ Q k)
