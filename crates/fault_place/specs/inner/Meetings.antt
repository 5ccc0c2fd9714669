-- Where an edge is in a triangle first, by what is linear along the edge, and by weights of its two corners.
use Rattle.std.specs.Prelude.{◌≡◌, ◌≢◌, ◌⊎◌, ℕ, ◌*◌, ◌<◌, ◌≤◌, pos, ◌<ℤ◌, ◌≤ℤ◌, unsigned_abs}
use Rattle.lattice.specs.declared.points.Corner.{Corner}
use Rattle.lattice.specs.Triple.{Triple}
use Rattle.geometry.specs.Faces.{IsFlat, facing_of, edge_sum}
use Rattle.geometry.specs.Parts.{Part, Face}
use Rattle.meeting.specs.Touching.{Touch}
use Rattle.meeting.specs.inner.Heights.{height_of}
use Rattle.solid_mesh.specs.Meetings.{Side}
use Rattle.fault_place.specs.declared.weights.Along.{Along}
use Rattle.fault_place.specs.declared.weights.Weights.{Weights}
use Rattle.fault_place.specs.Places.{IsFirstCommon, IsFirstPlace}

-- how far the edge's two corners are above the plane of a, b and c
pub record AreHeights (a b c p q : Corner) (f : Along) : Type 0 where
  pub start : f.start ≡ height_of a b c p
  pub end : f.end ≡ height_of a b c q

-- how far they are to the left of the side from k to l, as they are seen along d
pub record AreOffsets (d : Triple) (k l p q : Corner) (f : Along) : Type 0 where
  pub start : f.start ≡ facing_of d k l p
  pub end : f.end ≡ facing_of d k l q

-- all weight is the first corner's
pub record IsStart (w : Weights) : Type 0 where
  pub first : w.first ≡ 1
  pub second : w.second ≡ 0

-- the weights with which the values at the two corners, of different signs, have the sum 0
pub record IsLevel (f : Along) (w : Weights) : Type 0 where
  pub first : w.first ≡ unsigned_abs f.end
  pub second : w.second ≡ unsigned_abs f.start

-- the first place at which it is 0, if there is one
pub record IsCrossing (f : Along) (w : Weights) : Type 0 where
  pub at_once : f.start ≡ pos 0 → IsStart w
  pub later : f.start ≢ pos 0 → IsLevel f w

-- the first place at which it isn't negative, if there is one
pub record IsEntry (f : Along) (w : Weights) : Type 0 where
  pub at_once : pos 0 ≤ℤ f.start → IsStart w
  pub later : f.start <ℤ pos 0 → IsLevel f w

-- the first place isn't behind the second, along an edge
abbrev pub IsNoLater : ℕ → ℕ → ℕ → ℕ → Type 0
IsNoLater i j k l = j * k ≤ l * i

abbrev pub AreSame : Weights → Weights → Type 0
AreSame v w = (v.first ≡ w.first) × (v.second ≡ w.second)

-- the later one of two places
pub record IsLater (v w later : Weights) : Type 0 where
  pub one : AreSame later v ⊎ AreSame later w
  pub first : IsNoLater v.first v.second later.first later.second
  pub second : IsNoLater w.first w.second later.first later.second

-- the place at which the first common point is, with weights that are all multiplied by one number
pub record IsFirstAt (p q a b c : Corner) (w : Weights) : Type 0 where
  pub times : ℕ
  pub some : 0 < times
  pub there : IsFirstCommon p q a b c (edge_sum p q (times * w.first) (times * w.second))

-- the side along this half and the triangle with this number, which isn't flat, have a common point
abbrev pub HaveCommonPoint : Part → ℕ → ℕ → Type 0
HaveCommonPoint s half t = (e : Side s half) (f : Face s) → f.number ≡ t → Touch f.a f.b f.c e.p e.q × ¬ IsFlat f.a f.b f.c

-- and first there
abbrev pub MeetFirstAt : Part → ℕ → ℕ → Corner → Type 0
MeetFirstAt s half t place = (e : Side s half) (f : Face s) → f.number ≡ t → IsFirstPlace e.p e.q f.a f.b f.c place
