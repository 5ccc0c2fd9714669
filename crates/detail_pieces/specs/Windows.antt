-- Strips clipped to a window: what of them is seen in it, and nothing else.
use Rattle.std.specs.Prelude.{◌≡◌, ◌⊎◌, ◌↔◌, ◌*ℤ◌, ◌<ℤ◌, ◌≤ℤ◌, List, Contains}
use Rattle.lattice.specs.declared.lines.Line.{Line}
use Rattle.lattice.specs.declared.pieces.Strip.{Strip}
use Rattle.lattice.specs.declared.pieces.StripKind.{StripKind}
use Rattle.lattice.specs.declared.points.Spot.{Spot}
use Rattle.lattice.specs.Triple.{Triple}
use Rattle.lattice.specs.Points.{Point, IsPoint, of_spot, across_of, upward_of, OnOneSight}
use Rattle.lattice.specs.Lines.{IsSameLine}
use Rattle.line_merge.specs.Merging.{AreStrips, LiesOnStrip}
use Rattle.detail_pieces.specs.declared.windows.Window.{Window}

-- strictly inside the window, as it is seen from d
pub record IsInside (d : Triple) (o : Window) (p : Point) : Type 0 where
  pub left : (o.u1 *ℤ p.w) <ℤ across_of d p
  pub right : across_of d p <ℤ (o.u2 *ℤ p.w)
  pub below : (o.v1 *ℤ p.w) <ℤ upward_of d p
  pub above : upward_of d p <ℤ (o.v2 *ℤ p.w)

-- inside it or on one of its sides
pub record IsWithinWindow (d : Triple) (o : Window) (p : Point) : Type 0 where
  pub left : (o.u1 *ℤ p.w) ≤ℤ across_of d p
  pub right : across_of d p ≤ℤ (o.u2 *ℤ p.w)
  pub below : (o.v1 *ℤ p.w) ≤ℤ upward_of d p
  pub above : upward_of d p ≤ℤ (o.v2 *ℤ p.w)

-- on the line of one of its sides
abbrev pub IsOnSide : Triple → Window → Point → Type 0
IsOnSide d o p =
    (across_of d p ≡ o.u1 *ℤ p.w) ⊎ (across_of d p ≡ o.u2 *ℤ p.w) ⊎ (upward_of d p ≡ o.v1 *ℤ p.w) ⊎ (upward_of d p ≡ o.v2 *ℤ p.w)

-- where two of them meet
abbrev pub IsAtWindowCorner : Triple → Window → Point → Type 0
IsAtWindowCorner d o p =
    ((across_of d p ≡ o.u1 *ℤ p.w) ⊎ (across_of d p ≡ o.u2 *ℤ p.w)) × ((upward_of d p ≡ o.v1 *ℤ p.w) ⊎ (upward_of d p ≡ o.v2 *ℤ p.w))

-- p lies on a strip of this line and kind
abbrev pub LiesOnLineOf : Triple → List Strip → Line → StripKind → Point → Type 0
LiesOnLineOf d strips l kind p = (x : Strip) × Contains strips x × IsSameLine x.line l × (x.kind ≡ kind) × LiesOnStrip d x p

-- the very point of an end of a strip
abbrev pub IsEndOf : List Strip → Spot → Type 0
IsEndOf strips s = (x : Strip) × Contains strips x × ((of_spot s ≡ of_spot x.a) ⊎ (of_spot s ≡ of_spot x.b))

-- The strips clipped to the window. Inside it they show what the given ones show, outside it nothing; they end where a given
-- strip ends or on a side; and what of a strip runs along a side they show too.
pub record AreClipped (d : Triple) (o : Window) (strips clipped : List Strip) : Type 0 where
  pub proper : AreStrips d clipped
  pub inside : (p : Point) → IsPoint p → IsInside d o p → (l : Line) (kind : StripKind) → LiesOnLineOf d clipped l kind p ↔ LiesOnLineOf d strips l kind p
  pub within : (x : Strip) → Contains clipped x → (p : Point) → IsPoint p → LiesOnStrip d x p → IsWithinWindow d o p × LiesOnLineOf d strips x.line x.kind p
  -- of a strip with more than one place in the window all that is there is shown, on its sides too
  pub along : (x : Strip) → Contains strips x → (p q : Point) → IsPoint p → IsPoint q → ¬ OnOneSight d p q → LiesOnStrip d x p → LiesOnStrip d x q
      → IsWithinWindow d o p → IsWithinWindow d o q → LiesOnLineOf d clipped x.line x.kind p
  pub first_end : (x : Strip) → Contains clipped x → IsEndOf strips x.a ⊎ IsOnSide d o (of_spot x.a)
  pub second_end : (x : Strip) → Contains clipped x → IsEndOf strips x.b ⊎ IsOnSide d o (of_spot x.b)
