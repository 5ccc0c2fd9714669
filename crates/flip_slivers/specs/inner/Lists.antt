-- Lists of places: for each directed side and each corner, among others, all triangles that have it.
use Rattle.std.specs.Prelude.{◌≡◌, ◌≢◌, ◌⊎◌, ℕ, ◌+◌, ◌*◌, ◌%◌, ◌<◌, List, [], map, length, Contains, Some, slice_get, slice_index_or}
use Rattle.std.proofs.Common.{Vec, Global}
use Rattle.std.specs.List.{All}
use Rattle.lattice.specs.declared.soup.Tri.{Tri}
use Rattle.flip_slivers.specs.declared.bounded.Bounded.{Bounded}
use Rattle.flip_slivers.specs.Flips.{tri, IsRound, HasSide}
use Rattle.geometry.specs.Parts.{IsCornerOf}

abbrev pub triangles_of : List Bounded → List Tri
triangles_of surface = map (λ x. x.tri) surface

-- what the vectors hold
abbrev pub lists_of : List (Vec ℕ Global) → List (List ℕ)
lists_of lists = map (λ list. list.items) lists

-- the number of the list of the side from m to n, or of a corner where both are the same
unfoldable pub list_number : ℕ → ℕ → ℕ
list_number m n = (m * 40503 + n * 30011) % 65536

-- the places in the list of this number
abbrev pub listed_at : List (List ℕ) → ℕ → List ℕ
listed_at lists k = slice_index_or lists k []

-- the triangle has the side from m to n, or both are one corner of it
abbrev pub HasKey : Tri → ℕ → ℕ → Type 0
HasKey t m n = HasSide t m n ⊎ ((m ≡ n) × IsCornerOf t m)

pub record IsListed (triangles : List Tri) (lists : List (List ℕ)) : Type 0 where
  pub within : (k : ℕ) → All (λ i. i < length triangles) (listed_at lists k)
  pub holds : (i m n : ℕ) (t : Tri) → slice_get triangles i ≡ Some t → HasKey t m n → Contains (listed_at lists (list_number m n)) i

-- one place more in the list of this number
pub record IsGrown (old new : List (List ℕ)) (number place : ℕ) : Type 0 where
  pub long : length new ≡ length old
  pub kept : (k i : ℕ) → Contains (listed_at old k) i → Contains (listed_at new k) i
  pub added : Contains (listed_at new number) place
  pub within : (n : ℕ) → place < n → ((k : ℕ) → All (λ i. i < n) (listed_at old k)) → (k : ℕ) → All (λ i. i < n) (listed_at new k)

-- a place is in all lists of a triangle, and no other place is gone
pub record IsMore (old new : List (List ℕ)) (t : Tri) (place : ℕ) : Type 0 where
  pub long : length new ≡ length old
  pub kept : (k i : ℕ) → Contains (listed_at old k) i → Contains (listed_at new k) i
  pub added : (m n : ℕ) → HasKey t m n → Contains (listed_at new (list_number m n)) place
  pub within : (n : ℕ) → place < n → ((k : ℕ) → All (λ i. i < n) (listed_at old k)) → (k : ℕ) → All (λ i. i < n) (listed_at new k)

-- no place is gone but this one
pub record IsLess (old new : List (List ℕ)) (place : ℕ) : Type 0 where
  pub long : length new ≡ length old
  pub kept : (k i : ℕ) → i ≢ place → Contains (listed_at old k) i → Contains (listed_at new k) i
  pub within : (n : ℕ) → ((k : ℕ) → All (λ i. i < n) (listed_at old k)) → (k : ℕ) → All (λ i. i < n) (listed_at new k)

-- the triangle at a place has the directed side from m to n
abbrev pub HasSideAt : List Bounded → ℕ → ℕ → ℕ → Type 0
HasSideAt surface i m n = (x : Bounded) × (slice_get surface i ≡ Some x) × HasSide x.tri m n

-- it has the corners m, n and d, in this order around
abbrev pub HasTriAt : List Bounded → ℕ → ℕ → ℕ → ℕ → Type 0
HasTriAt surface i m n d = (x : Bounded) × (slice_get surface i ≡ Some x) × IsRound x.tri (tri m n d)
