-- Places of a view, and whether a spot can be seen there.
use Rattle.std.specs.Prelude.{◌≡◌, ℤ, pos, ◌-ℤ◌, ◌+ℤ◌, ◌*ℤ◌, ◌≤ℤ◌, ◌^◌}
use Rattle.lattice.specs.declared.lines.Line.{Line}
use Rattle.lattice.specs.Triple.{Triple}
use Rattle.lattice.specs.Points.{Point, IsPoint, across_of, upward_of}
use Rattle.detail_pieces.specs.declared.places.ViewPlace.{ViewPlace}
use Rattle.detail_pieces.specs.declared.sides.ViewAxis.{ViewAxis}
use Rattle.detail_pieces.specs.declared.sides.ViewAxis.TheVariants.{Across, Upward}

-- the point is seen at this place
pub record IsSeenAt (d : Triple) (t : ViewPlace) (p : Point) : Type 0 where
  pub across : across_of d p *ℤ t.den ≡ t.across *ℤ p.w
  pub upward : upward_of d p *ℤ t.den ≡ t.upward *ℤ p.w

-- x / w is not farther out than a spot's coordinate
pub record IsNear (x w : ℤ) : Type 0 where
  pub low : pos 0 ≤ℤ (x +ℤ (pos (2 ^ 21) *ℤ w))
  pub high : pos 0 ≤ℤ ((pos (2 ^ 21) *ℤ w) -ℤ x)

-- where spots are
pub record IsInBox (p : Point) : Type 0 where
  pub x : IsNear p.x p.w
  pub y : IsNear p.y p.w
  pub z : IsNear p.z p.w

-- a point where spots are is seen at this place
pub record HasSpot (d : Triple) (t : ViewPlace) : Type 0 where
  pub at : Point
  pub is : IsPoint at
  pub in_box : IsInBox at
  pub seen : IsSeenAt d t at

-- what of the line isn't 0 where it crosses a border on which this axis has one number
abbrev pub crossing_of : ViewAxis → Line → ℤ
crossing_of Across l = l.b
crossing_of Upward l = l.a

-- U or V of a place
abbrev pub number_of : ViewAxis → ViewPlace → ℤ
number_of Across t = t.across
number_of Upward t = t.upward

-- the place on the line with this number as its U or its V
pub record IsCrossing (l : Line) (axis : ViewAxis) (at : ℤ) (t : ViewPlace) : Type 0 where
  pub on_line : (l.a *ℤ t.across) +ℤ (l.b *ℤ t.upward) ≡ l.c *ℤ t.den
  pub on_border : number_of axis t ≡ at *ℤ t.den
