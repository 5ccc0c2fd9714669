-- What a search has tested and found.
use Rattle.std.specs.Prelude.{◌≡◌, ◌≢◌, ◌⊎◌, ℕ, ◌+◌, ◌<◌, ◌≤◌, List, Option, Some, None, length, slice_get, All, AllPairs, MatchOption, IfSome}
use Rattle.lattice.specs.declared.points.Corner.{Corner}
use Rattle.geometry.specs.Parts.{Part}
use Rattle.solid_mesh.specs.Faults.{IsLeast, MeetsAt}
use Rattle.solid_mesh.specs.Meetings.{Side, HaveCommonX, HaveCommonBox, MeetApart}
use Rattle.solid_mesh.specs.inner.Meetings.{HasNoMeeting}
use Rattle.solid_mesh.specs.inner.Bounds.{AreEdgeBounds, BoundsEnd, PassesBy, PassesRound}
use Rattle.solid_mesh.specs.declared.bounds.Bounds.{Bounds}
use Rattle.solid_mesh.specs.declared.placed.Placed.{Placed}
use Rattle.solid_mesh.specs.declared.search.Meeting.{Meeting}
use Rattle.solid_mesh.specs.declared.search.Reach.{Reach}
use Rattle.solid_mesh.specs.declared.search.SearchResult.{SearchResult}

-- ---- pairs of the number of an edge, by its half in a list, and the number of a triangle
abbrev pub AtHalf : (ℕ → ℕ → Type 0) → List ℕ → (ℕ × ℕ) → Type 0
AtHalf P halves p = (half : ℕ) × (slice_get halves p.0 ≡ Some half) × P half p.1

-- the bounds are those of the edge with this number, and p and q its corners, by their numbers m and n
pub record IsReachOf (s : Part) (halves : List ℕ) (edge : ℕ) (r : Reach) : Type 0 where
  pub half : ℕ
  pub listed : slice_get halves edge ≡ Some half
  pub side : Side s half
  pub of_side : AreEdgeBounds side.p side.q r.bounds
  pub start : r.m ≡ side.m
  pub end : r.n ≡ side.n
  pub at_start : r.p ≡ side.p
  pub at_end : r.q ≡ side.q

abbrev pub IsEnd : Reach → ℕ → Type 0
IsEnd r corner = (r.m ≡ corner) ⊎ (r.n ≡ corner)

-- the bounds of the edge reach no farther into those around than to an end, or the edge passes by the rim
abbrev pub Leaves : Reach → Bounds → Bounds → Type 0
Leaves r around rim = BoundsEnd r.bounds around ⊎ PassesBy r.p r.q rim

-- the edge leaves the triangles with a common corner there, if it has that corner, or passes round their fan
abbrev pub IsBeside : Reach → Bounds → ℕ → Corner → Bounds → Type 0
IsBeside r around corner at rim = (IsEnd r corner × Leaves r around rim) ⊎ PassesRound at r.p r.q rim

-- the edge passes by the triangles within these bounds, or is beside them and their common corner, if they have one
abbrev pub IsApart : Reach → Bounds → Option ℕ → Corner → Bounds → Type 0
IsApart r around corner at rim = PassesBy r.p r.q around ⊎ ((n : ℕ) × (corner ≡ Some n) × IsBeside r around n at rim)

-- ---- the pairs that are tested: their ranges of x meet
-- this one
abbrev pub IsPair : Part → List ℕ → ℕ → ℕ → (ℕ × ℕ) → Type 0
IsPair s halves edge tri p = (p ≡ (edge, tri)) × AtHalf (HaveCommonX s) halves p

-- those of an edge with the triangles at the places from first on and below end
abbrev pub IsOfPlaces : Part → List ℕ → ℕ → List Placed → ℕ → ℕ → (ℕ × ℕ) → Type 0
IsOfPlaces s halves edge placed first end p =
    (j : ℕ) × (x : Placed) × (first ≤ j) × (j < end) × (slice_get placed j ≡ Some x) × IsPair s halves edge x.tri p

-- those of an edge
abbrev pub IsOfEdge : Part → List ℕ → ℕ → (ℕ × ℕ) → Type 0
IsOfEdge s halves edge p = (p.0 ≡ edge) × AtHalf (HaveCommonX s) halves p

-- ---- what was found
-- the pair is before the one that was found, if one was
abbrev pub ComesBefore : ℕ → ℕ → Option Meeting → Type 0
ComesBefore edge tri None = Unit {0}
ComesBefore edge tri (Some m) = (edge < m.edge) ⊎ ((edge ≡ m.edge) × (tri < m.tri))

-- the pair that was found, if one was, meets
abbrev pub IsMeeting : Part → List ℕ → Option Meeting → Type 0
IsMeeting s halves first = IfSome first (λ m. AtHalf (MeetApart s) halves (m.edge, m.tri))

-- as many more as there are pairs in some list of pairs of which Q holds, without a repetition
pub record Rises (Q : (ℕ × ℕ) → Type 0) (old new : ℕ) : Type 0 where
  pub pairs : List (ℕ × ℕ)
  pub hold : All Q pairs
  pub differ : AllPairs (λ p q. p ≢ q) pairs
  pub by : new ≡ old + length pairs

-- from old to new the pairs of which Q holds were searched: some of them were tested, each once, and none that comes before the
-- one that was found meets
pub record Searched (s : Part) (halves : List ℕ) (Q : (ℕ × ℕ) → Type 0) (old new : SearchResult) : Type 0 where
  pub boxes : Rises Q old.meter.boxes new.meter.boxes
  pub pairs : Rises (λ p. Q p × AtHalf (HaveCommonBox s) halves p) old.meter.pairs new.meter.pairs
  -- the pair that is found moves down only
  pub down : (i t : ℕ) → ComesBefore i t new.first → ComesBefore i t old.first
  -- no pair that meets is before it
  pub least : (p : ℕ × ℕ) → Q p → AtHalf (MeetApart s) halves p → ¬ ComesBefore p.0 p.1 new.first
  pub right : IsMeeting s halves old.first → IsMeeting s halves new.first

-- the first edge that meets a triangle so, and the first such triangle
abbrev pub IsFirst : Part → List ℕ → Option Meeting → Type 0
IsFirst s halves first =
    MatchOption first (HasNoMeeting s) (λ m. IsLeast (λ i. (t : ℕ) × MeetsAt s halves i t) m.edge × IsLeast (MeetsAt s halves m.edge) m.tri)
