-- The flip that is chosen, and the sliver that it takes.
use Rattle.std.specs.Prelude.{◌≡◌, ◌≢◌, ◌⊎◌, ℕ, ◌+◌, ◌<◌, ◌≤◌, max, ℤ, pos, ◌*ℤ◌, ◌<ℤ◌, ◌≤ℤ◌, Bool, true, List, length, Contains, Some, slice_get, slice_set}
use Rattle.std.proofs.Common.{Vec, Global}
use Rattle.std.specs.List.{All}
use Rattle.lattice.specs.Triangles.{IsBelow}
use Rattle.lattice.specs.declared.points.Corner.{Corner}
use Rattle.lattice.specs.declared.soup.Tri.{Tri}
use Rattle.flip_slivers.specs.declared.bounded.Bounded.{Bounded}
use Rattle.flip_slivers.specs.Heights.{HasHeight, IsRoundedUp, side_square}
use Rattle.flip_slivers.specs.Flips.{tri, IsRound, IsSliverBeside, IsSideOf, IsRise, first_of, second_of}
use Rattle.flip_slivers.specs.inner.Lists.{IsListed, lists_of, triangles_of}
use Rattle.flip_slivers.specs.inner.Measures.{AreMeasures}
use Rattle.flip_slivers.specs.declared.measures.Measure.{Measure}
use Rattle.flip_slivers.specs.declared.choices.Flip.{Flip}
use Rattle.flip_slivers.specs.declared.choices.Sliver.{Sliver}

-- the surface with its measures and lists
pub record IsLaid (corners : List Corner) (surface : List Bounded) (measures : List Measure) (lists : List (Vec ℕ Global)) : Type 0 where
  pub count : length lists ≡ 65536
  pub listed : IsListed (triangles_of surface) (lists_of lists)
  pub measured : AreMeasures corners (triangles_of surface) measures
  pub in_range : All (λ x. IsBelow (length corners) x.tri) surface

-- the triangle at the sliver's place, turned so that a longest side comes first: its height there is at most 2 units
pub record IsSliverAt (corners : List Corner) (surface : List Bounded) (s : Sliver) : Type 0 where
  pub given : Bounded
  pub at : slice_get surface s.place ≡ Some given
  pub turned : IsRound given.tri s.tri
  pub area : ℤ
  pub side : ℤ
  pub height : HasHeight corners s.tri area side
  pub on_longest : side ≡ side_square height.placed.a height.placed.b
  pub long : pos 0 <ℤ side
  pub low : area ≤ℤ (pos 4 *ℤ side)
  pub is_rise : IsRoundedUp s.rise area side

-- the bound after a flip
pub record IsNewBound (most first second rise bound : ℕ) : Type 0 where
  pub is_bound : bound ≡ max first second + rise
  pub within : bound ≤ most

-- the surface once the flip is made
abbrev pub flipped : List Bounded → Flip → List Bounded
flipped surface f = slice_set
    (slice_set surface f.sliver (record { tri = first_of f.a f.b f.c f.d; bound = f.bound }))
    f.neighbour (record { tri = second_of f.a f.b f.c f.d; bound = f.bound })

-- a flip that may be made: the two triangles by their places, and what `IsFlip` asks of them
pub record IsChoice (corners : List Corner) (most : ℕ) (surface : List Bounded) (f : Flip) : Type 0 where
  pub different : f.sliver ≢ f.neighbour
  pub sliver : Bounded
  pub neighbour : Bounded
  pub at_sliver : slice_get surface f.sliver ≡ Some sliver
  pub at_neighbour : slice_get surface f.neighbour ≡ Some neighbour
  pub area : ℤ
  pub side : ℤ
  pub is_sliver : IsSliverBeside corners sliver.tri neighbour.tri f.a f.b f.c f.d area side
  pub no_side : ¬ IsSideOf surface f.c f.d
  pub no_side_back : ¬ IsSideOf surface f.d f.c
  pub rises : IsRise corners sliver.tri neighbour.tri (first_of f.a f.b f.c f.d) (second_of f.a f.b f.c f.d)
  pub rise : ℕ
  pub is_rise : IsRoundedUp rise area side
  pub new_bound : IsNewBound most sliver.bound neighbour.bound rise f.bound

-- what a flip of the sliver at a place and its neighbour at another takes, as far as the sliver and the limit go
pub record IsCandidate (corners : List Corner) (most : ℕ) (surface : List Bounded) (place : ℕ) (t : Tri) (other d : ℕ) (f : Flip) : Type 0 where
  pub is : f ≡ record { sliver = place; neighbour = other; a = t.a; b = t.b; c = t.c; d = d; bound = f.bound }
  pub sliver : Sliver
  pub is_sliver : IsSliverAt corners surface sliver
  pub at : sliver.place ≡ place
  pub turned : sliver.tri ≡ t
  pub neighbour : Bounded
  pub at_neighbour : slice_get surface other ≡ Some neighbour
  pub new_bound : IsNewBound most is_sliver.given.bound neighbour.bound sliver.rise f.bound

-- no flip may be made
abbrev pub AreSettled : List Corner → ℕ → List Bounded → Type 0
AreSettled corners most surface = (f : Flip) → ¬ IsChoice corners most surface f

-- the place waits to be looked at
abbrev pub Waits : List Bool → ℕ → Type 0
Waits waits i = slice_get waits i ≡ Some true

-- each flip that may be made is one of a triangle that waits
abbrev pub AreIdle : List Corner → ℕ → List Bounded → List Bool → Type 0
AreIdle corners most surface waits = (f : Flip) → IsChoice corners most surface f → Waits waits f.sliver ⊎ Waits waits f.neighbour

-- each flip of the triangle at a place is one with a triangle that waits
pub record IsIdleAt (corners : List Corner) (most : ℕ) (surface : List Bounded) (waits : List Bool) (place : ℕ) : Type 0 where
  pub as_sliver : (f : Flip) → f.sliver ≡ place → IsChoice corners most surface f → Waits waits f.neighbour
  pub as_neighbour : (f : Flip) → f.neighbour ≡ place → IsChoice corners most surface f → Waits waits f.sliver

-- so is each across the first side of that triangle as it is turned
pub record IsIdleOn (corners : List Corner) (most : ℕ) (surface : List Bounded) (waits : List Bool) (place : ℕ) (t : Tri) : Type 0 where
  pub as_sliver : (f : Flip) → f.sliver ≡ place → tri f.a f.b f.c ≡ t → IsChoice corners most surface f → Waits waits f.neighbour
  pub as_neighbour : (f : Flip) → f.neighbour ≡ place → tri f.b f.a f.d ≡ t → IsChoice corners most surface f → Waits waits f.sliver

-- there is none across that side with the triangle at the other place
pub record IsIdleBeside (corners : List Corner) (most : ℕ) (surface : List Bounded) (place : ℕ) (t : Tri) (other : ℕ) : Type 0 where
  pub as_sliver : (f : Flip) → f.sliver ≡ place → tri f.a f.b f.c ≡ t → f.neighbour ≡ other → ¬ IsChoice corners most surface f
  pub as_neighbour : (f : Flip) → f.neighbour ≡ place → tri f.b f.a f.d ≡ t → f.sliver ≡ other → ¬ IsChoice corners most surface f

-- the places that wait are queued, with a mark for each triangle
pub record IsQueue (count : ℕ) (waits : List Bool) (places : List ℕ) : Type 0 where
  pub for_each : length waits ≡ count
  pub within : All (λ i. i < count) places
  pub queued : (i : ℕ) → Waits waits i → Contains places i

-- more places wait, and are queued
pub record IsFuller (old_waits new_waits : List Bool) (old new : List ℕ) : Type 0 where
  pub count : length new_waits ≡ length old_waits
  pub kept : (i : ℕ) → Waits old_waits i → Waits new_waits i
  pub queue : (count : ℕ) → IsQueue count old_waits old → IsQueue count new_waits new

-- the mesh is laid out, and each flip that may be made is one of a triangle that is queued
pub record IsReady (corners : List Corner) (most : ℕ) (surface : List Bounded) (measures : List Measure) (lists : List (Vec ℕ Global)) (waits : List Bool) (places : List ℕ) : Type 0 where
  pub laid : IsLaid corners surface measures lists
  pub queue : IsQueue (length surface) waits places
  pub idle : AreIdle corners most surface waits
