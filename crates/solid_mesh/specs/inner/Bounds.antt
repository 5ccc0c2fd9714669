-- From where to where edges and triangles go along the axes, and so their differences.
use Rattle.std.specs.Prelude.{◌⊎◌, ℤ, pos, ◌-ℤ◌, ◌*ℤ◌, ◌≤ℤ◌, ◌<ℤ◌}
use Rattle.lattice.specs.declared.points.Corner.{Corner}
use Rattle.meeting.specs.declared.range.Range.{Range}
use Rattle.meeting.specs.Ranges.{IsInRange, RangesMeet, IsEdgeRange, IsTriangleRange}
use Rattle.solid_mesh.specs.declared.bounds.Bounds.{Bounds}

-- those of the edge from p to q
pub record AreEdgeBounds (p q : Corner) (r : Bounds) : Type 0 where
  pub x : IsEdgeRange p.x q.x r.x
  pub y : IsEdgeRange p.y q.y r.y
  pub z : IsEdgeRange p.z q.z r.z
  pub xy : IsEdgeRange (p.x -ℤ p.y) (q.x -ℤ q.y) r.xy
  pub yz : IsEdgeRange (p.y -ℤ p.z) (q.y -ℤ q.z) r.yz
  pub zx : IsEdgeRange (p.z -ℤ p.x) (q.z -ℤ q.x) r.zx

-- those of the triangle of a, b and c
pub record AreTriangleBounds (a b c : Corner) (r : Bounds) : Type 0 where
  pub x : IsTriangleRange a.x b.x c.x r.x
  pub y : IsTriangleRange a.y b.y c.y r.y
  pub z : IsTriangleRange a.z b.z c.z r.z
  pub xy : IsTriangleRange (a.x -ℤ a.y) (b.x -ℤ b.y) (c.x -ℤ c.y) r.xy
  pub yz : IsTriangleRange (a.y -ℤ a.z) (b.y -ℤ b.z) (c.y -ℤ c.z) r.yz
  pub zx : IsTriangleRange (a.z -ℤ a.x) (b.z -ℤ b.x) (c.z -ℤ c.x) r.zx

-- along each of the six some number is within both
pub record BoundsMeet (r s : Bounds) : Type 0 where
  pub x : RangesMeet r.x s.x
  pub y : RangesMeet r.y s.y
  pub z : RangesMeet r.z s.z
  pub xy : RangesMeet r.xy s.xy
  pub yz : RangesMeet r.yz s.yz
  pub zx : RangesMeet r.zx s.zx

-- the first range is more than one number, and no number of it but one of its ends is in the second
pub record RangesEnd (r s : Range) : Type 0 where
  pub more : r.from <ℤ r.to
  pub end : (r.to ≤ℤ s.from) ⊎ (s.to ≤ℤ r.from)

-- the same along one of the six
abbrev pub BoundsEnd : Bounds → Bounds → Type 0
BoundsEnd r s = RangesEnd r.x s.x ⊎ RangesEnd r.y s.y ⊎ RangesEnd r.z s.z ⊎ RangesEnd r.xy s.xy ⊎ RangesEnd r.yz s.yz ⊎ RangesEnd r.zx s.zx

-- the first range is within the second
pub record IsWithin (r s : Range) : Type 0 where
  pub from : s.from ≤ℤ r.from
  pub to : r.to ≤ℤ s.to

-- the same along each of the six
pub record AreWithin (r s : Bounds) : Type 0 where
  pub x : IsWithin r.x s.x
  pub y : IsWithin r.y s.y
  pub z : IsWithin r.z s.z
  pub xy : IsWithin r.xy s.xy
  pub yz : IsWithin r.yz s.yz
  pub zx : IsWithin r.zx s.zx

-- the corner is within the bounds, along the axes
pub record IsInBounds (k : Corner) (r : Bounds) : Type 0 where
  pub x : IsInRange r.x k.x
  pub y : IsInRange r.y k.y
  pub z : IsInRange r.z k.z

-- how far the place (u, v) is to the left of the line from one place to another, times the length from the one to the other
abbrev pub left_of_line : ℤ → ℤ → ℤ → ℤ → ℤ → ℤ → ℤ
left_of_line from_u to_u from_v to_v u v = ((to_u -ℤ from_u) *ℤ (v -ℤ from_v)) -ℤ ((to_v -ℤ from_v) *ℤ (u -ℤ from_u))

-- all places with both coordinates in these ranges are strictly to the left of it
abbrev pub AreLeft : ℤ → ℤ → ℤ → ℤ → Range → Range → Type 0
AreLeft from_u to_u from_v to_v over_u over_v = (u v : ℤ) → IsInRange over_u u → IsInRange over_v v → pos 0 <ℤ left_of_line from_u to_u from_v to_v u v

-- along one of the axes all places within the bounds are seen strictly to the left of the line from p to q, or strictly to the right
abbrev pub PassesBy : Corner → Corner → Bounds → Type 0
PassesBy p q r =
    AreLeft p.x q.x p.y q.y r.x r.y ⊎ AreLeft p.y q.y p.x q.x r.y r.x ⊎ AreLeft p.y q.y p.z q.z r.y r.z
    ⊎ AreLeft p.z q.z p.y q.y r.z r.y ⊎ AreLeft p.z q.z p.x q.x r.z r.x ⊎ AreLeft p.x q.x p.z q.z r.x r.z

-- all places with both coordinates in these ranges are strictly to the left of the line from h to p, and of that from h to q
abbrev pub AreLeftOfBoth : ℤ → ℤ → ℤ → ℤ → ℤ → ℤ → Range → Range → Type 0
AreLeftOfBoth h_u p_u q_u h_v p_v q_v over_u over_v = AreLeft h_u p_u h_v p_v over_u over_v × AreLeft h_u q_u h_v q_v over_u over_v

-- along one of the axes all places within the bounds are seen strictly to the left of the lines from h to p and to q, or strictly to
-- the right of both
abbrev pub PassesRound : Corner → Corner → Corner → Bounds → Type 0
PassesRound h p q r =
    AreLeftOfBoth h.x p.x q.x h.y p.y q.y r.x r.y ⊎ AreLeftOfBoth h.y p.y q.y h.x p.x q.x r.y r.x ⊎ AreLeftOfBoth h.y p.y q.y h.z p.z q.z r.y r.z
    ⊎ AreLeftOfBoth h.z p.z q.z h.y p.y q.y r.z r.y ⊎ AreLeftOfBoth h.z p.z q.z h.x p.x q.x r.z r.x ⊎ AreLeftOfBoth h.x p.x q.x h.z p.z q.z r.x r.z
