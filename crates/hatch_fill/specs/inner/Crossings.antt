-- Where segments cross hatch lines.
use Rattle.std.specs.Prelude.{◌≡◌, ◌≢◌, ℕ, ℤ, pos, ◌*ℤ◌, ◌<ℤ◌, ◌≤ℤ◌, List, ◌++◌, Contains, All, AllPairs}
use Rattle.lattice.specs.declared.lines.Line.{Line}
use Rattle.lattice.specs.Triple.{Triple}
use Rattle.lattice.specs.Points.{of_spot}
use Rattle.cut_plane.specs.declared.segments.Segment.{Segment}
use Rattle.cut_plane.specs.Diagonals.{diagonal_of}
use Rattle.hatch_fill.specs.declared.places.HatchPlace.{HatchPlace}
use Rattle.hatch_fill.specs.inner.Meetings.{IsMeeting, HasMeeting}
use Rattle.hatch_fill.specs.inner.Numbers.{IsFirstNumber}

-- the line crosses a hatch line there, one of those from one number on and before another
abbrev pub IsMeetingAmong : Line → ℕ → ℤ → ℤ → HatchPlace → Type 0
IsMeetingAmong line spacing from to t = (number : ℤ) × (from ≤ℤ number) × (number <ℤ to) × IsMeeting line (number *ℤ pos spacing) t

-- these are the places at which the line crosses those hatch lines, each once
pub record AreMeetings (line : Line) (spacing : ℕ) (from to : ℤ) (places : List HatchPlace) : Type 0 where
  pub each : All (IsMeetingAmong line spacing from to) places
  pub once : AllPairs (λ s t. s.diagonal ≢ t.diagonal) places
  pub all : (number : ℤ) → from ≤ℤ number → number <ℤ to → HasMeeting line (number *ℤ pos spacing)
      → (t : HatchPlace) × Contains places t × (t.diagonal ≡ number *ℤ pos spacing)

-- these are the places at which the segment crosses hatch lines: from its end a on to its end b, or from b on to a
pub record AreCrossings (d : Triple) (spacing : ℕ) (x : Segment) (places : List HatchPlace) : Type 0 where
  pub a : ℤ
  pub b : ℤ
  pub first : IsFirstNumber (diagonal_of d (of_spot x.a)) x.a.w spacing a
  pub second : IsFirstNumber (diagonal_of d (of_spot x.b)) x.b.w spacing b
  pub rising : List HatchPlace
  pub falling : List HatchPlace
  pub together : places ≡ rising ++ falling
  pub from_a : AreMeetings x.line spacing a b rising
  pub from_b : AreMeetings x.line spacing b a falling
