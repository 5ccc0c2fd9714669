-- Intervals of hatch lines: between crossings, and along borders.
use Rattle.std.specs.Prelude.{◌≡◌, ◌⊎◌, ℕ, ℤ, pos, ◌*ℤ◌, List, [], ◌∷◌, ◌++◌, Contains, All, if◌then◌else◌}
use Rattle.std.specs.Ordering.{is_lt}
use Rattle.std.specs.declared.cmp.Ordering.TheVariants.{Less}
use Rattle.intervals.specs.declared.interval.Interval.{Interval}
use Rattle.lattice.specs.declared.points.Spot.{Spot}
use Rattle.lattice.specs.Triple.{Triple}
use Rattle.lattice.specs.Points.{of_spot, across_of}
use Rattle.cut_plane.specs.declared.segments.Segment.{Segment}
use Rattle.cut_plane.specs.Diagonals.{diagonal_of}
use Rattle.hatch_fill.specs.declared.places.HatchPlace.{HatchPlace}
use Rattle.hatch_fill.specs.inner.Places.{place_order, HasSpot}

-- the interval from the one to the other, if it has an inside
abbrev pub between : HatchPlace → HatchPlace → List (Interval HatchPlace)
between s t = if is_lt (place_order s t) then record { from = s; to = t } ∷ [] else []

-- from the first to the second, from the third to the fourth, and so on
abbrev pub pairs_of : List HatchPlace → List (Interval HatchPlace)
pairs_of [] = []
pairs_of (s ∷ []) = []
pairs_of (s ∷ t ∷ places) = between s t ++ pairs_of places

-- ---- along borders
-- U - V of the spot is this number
abbrev pub IsAtDiagonal : Triple → ℤ → Spot → Type 0
IsAtDiagonal d diagonal p = diagonal_of d (of_spot p) ≡ diagonal *ℤ p.w

-- the place of a spot
pub record IsPlaceOf (d : Triple) (diagonal : ℤ) (p : Spot) (t : HatchPlace) : Type 0 where
  pub on : IsAtDiagonal d diagonal p
  pub line : t.diagonal ≡ diagonal
  pub num : t.across.num ≡ across_of d (of_spot p)
  pub den : t.across.den ≡ p.w

-- U - V of the spot is this number, and a spot of a hatch line can be there
pub record IsSpotOn (d : Triple) (diagonal : ℤ) (p : Spot) : Type 0 where
  pub on : IsAtDiagonal d diagonal p
  pub spot : HasSpot diagonal (across_of d (of_spot p)) p.w

-- the segment runs along a hatch line, and its ends are at these places of it
pub record AreEndsAlong (d : Triple) (spacing : ℕ) (x : Segment) (a b : HatchPlace) : Type 0 where
  pub number : ℤ
  pub first : IsPlaceOf d (number *ℤ pos spacing) x.a a
  pub second : IsPlaceOf d (number *ℤ pos spacing) x.b b

-- from one end of the segment to the other
pub record IsStretchOf (d : Triple) (spacing : ℕ) (x : Segment) (i : Interval HatchPlace) : Type 0 where
  pub proper : place_order i.from i.to ≡ Less
  pub ends : AreEndsAlong d spacing x i.from i.to ⊎ AreEndsAlong d spacing x i.to i.from

-- the segment runs along a hatch line, and spots of that can be where it ends
pub record HasStretch (d : Triple) (spacing : ℕ) (x : Segment) : Type 0 where
  pub number : ℤ
  pub first : IsSpotOn d (number *ℤ pos spacing) x.a
  pub second : IsSpotOn d (number *ℤ pos spacing) x.b
  pub apart : across_of d (of_spot x.a) *ℤ x.b.w ≡ across_of d (of_spot x.b) *ℤ x.a.w → ⊥

-- what the segment covers of a hatch line, if it runs along one
pub record AreStretches (d : Triple) (spacing : ℕ) (x : Segment) (intervals : List (Interval HatchPlace)) : Type 0 where
  pub each : All (IsStretchOf d spacing x) intervals
  pub all : HasStretch d spacing x → (i : Interval HatchPlace) × Contains intervals i
