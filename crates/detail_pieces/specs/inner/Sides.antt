-- On which side of the border of a half plane a point is seen, and what is left of a strip in it.
use Rattle.std.specs.Prelude.{◌≡◌, ◌⊎◌, ◌↔◌, ℤ, pos, ◌-ℤ◌, ◌*ℤ◌, ◌≤ℤ◌, unsigned_abs}
use Rattle.lattice.specs.declared.pieces.Strip.{Strip}
use Rattle.lattice.specs.declared.points.Spot.{Spot}
use Rattle.lattice.specs.Triple.{Triple}
use Rattle.lattice.specs.Points.{Point, IsPoint, of_spot, across_of, upward_of, OnOneSight}
use Rattle.lattice.specs.Lines.{AreStripEnds, IsSameLine}
use Rattle.geometry.specs.Pieces.{spot_sum}
use Rattle.line_merge.specs.Merging.{LiesOnStrip}
use Rattle.detail_pieces.specs.declared.sides.Bound.{Bound}
use Rattle.detail_pieces.specs.declared.sides.Bound.TheVariants.{Least, Most}
use Rattle.detail_pieces.specs.declared.sides.Side.{Side}
use Rattle.detail_pieces.specs.declared.sides.ViewAxis.{ViewAxis}
use Rattle.detail_pieces.specs.declared.sides.ViewAxis.TheVariants.{Across, Upward}

-- U of a point or V, times w
abbrev pub seen_of : Triple → ViewAxis → Point → ℤ
seen_of d Across p = across_of d p
seen_of d Upward p = upward_of d p

-- how far the point is over the border, times w: positive inside, 0 on it
abbrev pub over_by : Bound → ℤ → ℤ → ℤ
over_by Least seen border = seen -ℤ border
over_by Most seen border = border -ℤ seen

abbrev pub over_of : Triple → Side → Point → ℤ
over_of d h p = over_by h.bound (seen_of d h.axis p) (h.at *ℤ p.w)

-- where the way from one spot to another meets the border
abbrev pub meeting_of : Triple → Side → Spot → Spot → Point
meeting_of d h a b = spot_sum a b (unsigned_abs (over_of d h (of_spot b))) (unsigned_abs (over_of d h (of_spot a)))

-- a spot of the strip's end, or one on the border
abbrev pub IsKeptOrCut : Triple → Side → Spot → Spot → Type 0
IsKeptOrCut d h s t = (of_spot t ≡ of_spot s) ⊎ (over_of d h (of_spot t) ≡ pos 0)

-- t is what of s is not outside
pub record IsLeftOf (d : Triple) (h : Side) (s t : Strip) : Type 0 where
  pub line : IsSameLine t.line s.line
  pub kind : t.kind ≡ s.kind
  pub proper : AreStripEnds d t.line t.a t.b
  pub lies : (p : Point) → IsPoint p → LiesOnStrip d t p ↔ (LiesOnStrip d s p × (pos 0 ≤ℤ over_of d h p))
  pub first : IsKeptOrCut d h s.a t.a
  pub second : IsKeptOrCut d h s.b t.b

-- all these points are seen at one place
abbrev pub AreOnePlace : Triple → (Point → Type 0) → Type 0
AreOnePlace d P = (p q : Point) → IsPoint p → IsPoint q → P p → P q → OnOneSight d p q

-- no point of s is inside, and on the border it has one place at most
pub record IsOut (d : Triple) (h : Side) (s : Strip) : Type 0 where
  pub none : (p : Point) → IsPoint p → LiesOnStrip d s p → over_of d h p ≤ℤ pos 0
  pub alone : AreOnePlace d (λ p. LiesOnStrip d s p × (pos 0 ≤ℤ over_of d h p))
