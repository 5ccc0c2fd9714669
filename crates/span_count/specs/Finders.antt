-- What is picked of a part that is seen in a direction, and what the lists of a finder hold for it.
use Rattle.std.specs.Prelude.{◌≡◌, ◌≢◌, ℕ, ◌<◌, ◌≤◌, List, All, AllPairs, Contains, Option, Some, None, length, slice_get}
use Rattle.lattice.specs.declared.points.Corner.{Corner}
use Rattle.lattice.specs.Triple.{Triple}
use Rattle.geometry.specs.Parts.{Part, Face, Edge, IsNumbered}
use Rattle.geometry.specs.Shares.{Changes}
use Rattle.geometry.specs.Turns.{IsNearerOver}
use Rattle.cross_find.specs.Ends.{IsApart}
use Rattle.cross_find.specs.Sights.{SightState}
use Rattle.edge_pick.specs.declared.Picked.{Picked}
use Rattle.edge_pick.specs.Picked.{IsPicked}

-- picked of what is seen, with some crease's fraction
abbrev pub IsPickedIn : SightState → Picked → Type 0
IsPickedIn x p = (fraction : ℕ) × IsPicked x.direction fraction x.part x.halves p

-- P holds of no number from that one on and before the next; none is next where it holds of none from there on
abbrev pub IsNext : (ℕ → Type 0) → ℕ → Option ℕ → Type 0
IsNext P from None = (k : ℕ) → from ≤ k → ¬ P k
IsNext P from (Some next) = (from ≤ next) × ((k : ℕ) → from ≤ k → k < next → ¬ P k)

-- each triangle is near a corner that is not seen strictly to one side of it
abbrev pub AreAllNear : Triple → Part → (ℕ → ℕ → Type 0) → Type 0
AreAllNear d s near = (number : ℕ) (c : Corner) (f : Face s) → slice_get s.corners number ≡ Some c → ¬ IsApart d f.a f.b f.c c → near number f.number

-- The law of a finder's lists, along edges and over corners, and of the triangles that are near a corner.
pub record IsFinder (x : SightState) (p : Picked) (along over : ℕ → List ℕ) (near : ℕ → ℕ → Type 0) : Type 0 where
  -- each holds outlines, none twice
  pub outlines : (edge : ℕ) → edge < length x.halves → All (Contains p.outlines.items) (along edge)
  pub once : (edge : ℕ) → edge < length x.halves → AllPairs ◌≢◌ (along edge)
  pub outlines_over : (corner : ℕ) → corner < length x.part.corners → All (Contains p.outlines.items) (over corner)
  pub once_over : (corner : ℕ) → corner < length x.part.corners → AllPairs ◌≢◌ (over corner)
  -- that of a drawn edge has every outline that changes one of the counts along it
  pub changing : (i k : ℕ) (e o : Edge x.part) → Contains p.drawn.items i → Contains p.outlines.items k → IsNumbered x.halves i e → IsNumbered x.halves k o →
      Changes x.direction e o → Contains (along i) k
  -- that of a corner has every outline that is strictly nearer over it and does not have it
  pub passing : (number k : ℕ) (c : Corner) (o : Edge x.part) → slice_get x.part.corners number ≡ Some c → Contains p.outlines.items k → IsNumbered x.halves k o →
      IsNearerOver x.direction number c o → Contains (over number) k
  -- near a corner is each triangle that may cover it
  pub covering : AreAllNear x.direction x.part near
