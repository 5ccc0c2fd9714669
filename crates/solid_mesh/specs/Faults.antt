-- What is wrong with a part: each kind of fault, with its least numbers, where no earlier kind is there.
use Rattle.std.specs.Prelude.{◌≡◌, ℕ, ◌+◌, ◌*◌, ◌/◌, ◌<◌, ◌≤◌, List}
use Rattle.geometry.specs.Faces.{IsFlat}
use Rattle.geometry.specs.Parts.{Part, Face, Edge, IsHalf, HasNoFlatTriangle, HasNoSideTwice, IsClosed, AreDouble, HasNoDouble, AreEdges, IsNumbered}
use Rattle.geometry.specs.Sound.{MeetsElsewhere}
use Rattle.solid_mesh.specs.declared.faults.MeshFault.{MeshFault}
use Rattle.solid_mesh.specs.declared.faults.MeshFault.TheVariants.{Flat, SameWay, Unpaired, Double, Meet}

-- m is the least number of which it holds
pub record IsLeast (P : ℕ → Type 0) (m : ℕ) : Type 0 where
  pub holds : P m
  pub least : (n : ℕ) → P n → m ≤ n

-- the triangle with this number is flat
abbrev pub IsFlatAt : Part → ℕ → Type 0
IsFlatAt s i = (f : Face s) × (f.number ≡ i) × IsFlat f.a f.b f.c

-- triangle i has a directed side that triangle j has too
pub record ShareSide (s : Part) (i j : ℕ) : Type 0 where
  pub half : ℕ
  pub other : ℕ
  pub m : ℕ
  pub n : ℕ
  pub goes : IsHalf s half m n
  pub goes_too : IsHalf s other m n
  pub of_first : half / 3 ≡ i
  pub of_second : other / 3 ≡ j

-- triangle i comes before triangle j and has a directed side of it
abbrev pub SharesEarlier : Part → ℕ → ℕ → Type 0
SharesEarlier s j i = (i < j) × ShareSide s i j

-- the half has no reverse
pub record IsUnpaired (s : Part) (half : ℕ) : Type 0 where
  pub m : ℕ
  pub n : ℕ
  pub goes : IsHalf s half m n
  pub alone : (other : ℕ) → ¬ IsHalf s other n m

-- triangle i comes before triangle j and has the same three corners
abbrev pub DoublesEarlier : Part → ℕ → ℕ → Type 0
DoublesEarlier s j i = (i < j) × AreDouble s i j

-- the edge with this number, in this list, meets the triangle with this number in another point than a shared corner
abbrev pub MeetsAt : Part → List ℕ → ℕ → ℕ → Type 0
MeetsAt s halves i t = (e : Edge s) × (f : Face s) × IsNumbered halves i e × (f.number ≡ t) × MeetsElsewhere e f

-- The part has this fault and none of an earlier kind. Of two numbers of triangles the second is the least for which there is
-- a first, and the first is the least for it; a side has the least triangle and there the least number; an edge that meets a
-- triangle is the least, and the triangle is the least for it.
abbrev pub HasFault : Part → MeshFault → Type 0
HasFault s (Flat i) = IsLeast (IsFlatAt s) i
HasFault s (SameWay i j) =
    HasNoFlatTriangle s × IsLeast (λ j. (i : ℕ) × SharesEarlier s j i) j × IsLeast (SharesEarlier s j) i
HasFault s (Unpaired i side) =
    HasNoFlatTriangle s × HasNoSideTwice s × (side < 3) × IsLeast (IsUnpaired s) (3 * i + side)
HasFault s (Double i j) =
    IsClosed s × IsLeast (λ j. (i : ℕ) × DoublesEarlier s j i) j × IsLeast (DoublesEarlier s j) i
HasFault s (Meet i t) =
    IsClosed s × HasNoDouble s
    × ((halves : List ℕ) × AreEdges s halves × IsLeast (λ i. (t : ℕ) × MeetsAt s halves i t) i × IsLeast (MeetsAt s halves i) t)
