-- Steps along a line of sight into the box where spots are, one axis after another.
use Rattle.std.specs.Prelude.{◌≡◌, ◌⊎◌, ℤ, pos, ◌+ℤ◌, ◌-ℤ◌, ◌*ℤ◌, ◌<ℤ◌, ◌≤◌, ◌^◌, unsigned_abs}
use Rattle.lattice.specs.Triple.{Triple}
use Rattle.lattice.specs.Points.{Point}
use Rattle.detail_pieces.specs.declared.reaches.Reach.{Reach}
use Rattle.detail_pieces.specs.declared.reaches.Heading.{Heading}
use Rattle.detail_pieces.specs.inner.Places.{IsNear}

abbrev pub of_reach : Reach → Point
of_reach p = record { x = p.x; y = p.y; z = p.z; w = p.w }

abbrev pub of_heading : Heading → Triple
of_heading d = record { x = d.x; y = d.y; z = d.z }

-- the coordinates turned
abbrev pub turned : Triple → Triple
turned t = record { x = t.y; y = t.z; z = t.x }

abbrev pub turned_point : Point → Point
turned_point p = record { x = p.y; y = p.z; z = p.x; w = p.w }

-- all coordinates times s, and then by e along a direction with the component a: a coordinate gets less by this excess
pub record IsPushTo (a excess s e : ℤ) : Type 0 where
  pub scale : s ≡ pos (unsigned_abs a)
  pub step : e *ℤ a ≡ s *ℤ excess
  pub size : unsigned_abs e ≤ unsigned_abs excess

-- the point stays
pub record IsNoPush (x w s e : ℤ) : Type 0 where
  pub near : IsNear x w
  pub scale : s ≡ pos 1
  pub none : e ≡ pos 0

-- a coordinate that is outside of the box comes to its border
abbrev pub IsPush : ℤ → ℤ → ℤ → ℤ → ℤ → Type 0
IsPush a x w s e =
    IsNoPush x w s e
    ⊎ (((pos (2 ^ 21) *ℤ w) <ℤ x) × IsPushTo a (x -ℤ (pos (2 ^ 21) *ℤ w)) s e)
    ⊎ ((x <ℤ (pos 0 -ℤ (pos (2 ^ 21) *ℤ w))) × IsPushTo a (x +ℤ (pos (2 ^ 21) *ℤ w)) s e)

-- q is p after such a step along x, turned
pub record IsStep (d : Triple) (p q : Point) : Type 0 where
  pub s : ℤ
  pub e : ℤ
  pub push : IsPush d.x p.x p.w s e
  pub x : q.x ≡ (s *ℤ p.y) -ℤ (e *ℤ d.y)
  pub y : q.y ≡ (s *ℤ p.z) -ℤ (e *ℤ d.z)
  pub z : q.z ≡ (s *ℤ p.x) -ℤ (e *ℤ d.x)
  pub w : q.w ≡ s *ℤ p.w
