-- How an edge goes past a triangle, by determinants.
use Rattle.std.specs.Prelude.{◌≡◌}
use Rattle.lattice.specs.declared.points.Corner.{Corner}
use Rattle.lattice.specs.Triple.{Triple}
use Rattle.geometry.specs.Faces.{facing_of}
use Rattle.meeting.specs.inner.Heights.{height_of}
use Rattle.meeting.specs.declared.course.Heights.{Heights}
use Rattle.meeting.specs.declared.course.Offset.{Offset}
use Rattle.meeting.specs.declared.course.Course.{Course}

pub record AreHeightsOf (a b c p q : Corner) (x : Heights) : Type 0 where
  pub start : x.start ≡ height_of a b c p
  pub end : x.end ≡ height_of a b c q

-- positive where the end is seen to the left of the side from k to l, 0 where it is seen on the side's line
pub record IsOffsetOf (d : Triple) (k l p q : Corner) (x : Offset) : Type 0 where
  pub start : x.start ≡ facing_of d k l p
  pub end : x.end ≡ facing_of d k l q

-- the edge from p to q against the plane and the three sides of the triangle of a, b and c, as they are seen along d
pub record IsCourseOf (d : Triple) (a b c p q : Corner) (x : Course) : Type 0 where
  pub above : AreHeightsOf a b c p q x.above
  pub bc : IsOffsetOf d b c p q x.bc
  pub ca : IsOffsetOf d c a p q x.ca
  pub ab : IsOffsetOf d a b p q x.ab
