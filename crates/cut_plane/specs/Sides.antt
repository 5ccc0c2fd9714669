-- When a segment is to the right of a point.
use Rattle.std.specs.Prelude.{◌⊎◌, ◌+ℤ◌, ◌*ℤ◌, ◌<ℤ◌, ◌≤ℤ◌}
use Rattle.lattice.specs.Triple.{Triple}
use Rattle.lattice.specs.Points.{Point, of_spot, across_of, upward_of}
use Rattle.cut_plane.specs.declared.segments.Segment.{Segment}

-- V of the one point is at most that of the other, and less than it
abbrev pub IsNotAbove : Triple → Point → Point → Type 0
IsNotAbove d p q = (upward_of d p *ℤ q.w) ≤ℤ (upward_of d q *ℤ p.w)

abbrev pub IsLower : Triple → Point → Point → Type 0
IsLower d p q = (upward_of d p *ℤ q.w) <ℤ (upward_of d q *ℤ p.w)

-- from the one point upward to the other, without that
abbrev pub IsUpwardBetween : Triple → Point → Point → Point → Type 0
IsUpwardBetween d p q r = IsNotAbove d p r × IsLower d r q

-- V of the point is from that of the segment's lower end on and less than that of its upper end, and the point is left of its line
pub record IsRightOf (d : Triple) (x : Segment) (p : Point) : Type 0 where
  pub beside : IsUpwardBetween d (of_spot x.a) (of_spot x.b) p ⊎ IsUpwardBetween d (of_spot x.b) (of_spot x.a) p
  pub before : ((x.line.a *ℤ across_of d p) +ℤ (x.line.b *ℤ upward_of d p)) <ℤ (x.line.c *ℤ p.w)
