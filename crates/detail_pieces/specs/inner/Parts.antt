-- What of a strip is seen between two borders, and in a window.
use Rattle.std.specs.Prelude.{◌≡◌, ◌⊎◌, ◌↔◌, ℤ, ◌*ℤ◌, ◌<ℤ◌, ◌≤ℤ◌}
use Rattle.lattice.specs.declared.pieces.Strip.{Strip}
use Rattle.lattice.specs.declared.points.Spot.{Spot}
use Rattle.lattice.specs.Triple.{Triple}
use Rattle.lattice.specs.Points.{Point, IsPoint, of_spot}
use Rattle.lattice.specs.Lines.{AreStripEnds, IsSameLine}
use Rattle.line_merge.specs.Merging.{LiesOnStrip}
use Rattle.detail_pieces.specs.declared.sides.ViewAxis.{ViewAxis}
use Rattle.detail_pieces.specs.declared.windows.Window.{Window}
use Rattle.detail_pieces.specs.Windows.{IsInside, IsWithinWindow, IsOnSide}
use Rattle.detail_pieces.specs.inner.Sides.{seen_of, AreOnePlace}

-- U or V of the point is from the one number to the other
abbrev pub IsBetween : Triple → ViewAxis → ℤ → ℤ → Point → Type 0
IsBetween d axis least most p = ((least *ℤ p.w) ≤ℤ seen_of d axis p) × (seen_of d axis p ≤ℤ (most *ℤ p.w))

-- an end as it was, or on one of the two borders
abbrev pub IsKeptOrOn : Triple → ViewAxis → ℤ → ℤ → Spot → Spot → Type 0
IsKeptOrOn d axis least most s t =
    (of_spot t ≡ of_spot s) ⊎ (seen_of d axis (of_spot t) ≡ least *ℤ t.w) ⊎ (seen_of d axis (of_spot t) ≡ most *ℤ t.w)

pub record IsLeftBetween (d : Triple) (axis : ViewAxis) (least most : ℤ) (s t : Strip) : Type 0 where
  pub line : IsSameLine t.line s.line
  pub kind : t.kind ≡ s.kind
  pub proper : AreStripEnds d t.line t.a t.b
  pub lies : (p : Point) → IsPoint p → LiesOnStrip d t p ↔ (LiesOnStrip d s p × IsBetween d axis least most p)
  pub first : IsKeptOrOn d axis least most s.a t.a
  pub second : IsKeptOrOn d axis least most s.b t.b

-- no point of s is strictly between, and on the borders it has one place at most
pub record IsOutBetween (d : Triple) (axis : ViewAxis) (least most : ℤ) (s : Strip) : Type 0 where
  pub none : (p : Point) → IsPoint p → LiesOnStrip d s p → (least *ℤ p.w) <ℤ seen_of d axis p → ¬ (seen_of d axis p <ℤ (most *ℤ p.w))
  pub alone : AreOnePlace d (λ p. LiesOnStrip d s p × IsBetween d axis least most p)

-- t is what of s is seen in the window
pub record IsPartIn (d : Triple) (o : Window) (s t : Strip) : Type 0 where
  pub line : IsSameLine t.line s.line
  pub kind : t.kind ≡ s.kind
  pub proper : AreStripEnds d t.line t.a t.b
  pub lies : (p : Point) → IsPoint p → LiesOnStrip d t p ↔ (LiesOnStrip d s p × IsWithinWindow d o p)
  pub first : (of_spot t.a ≡ of_spot s.a) ⊎ IsOnSide d o (of_spot t.a)
  pub second : (of_spot t.b ≡ of_spot s.b) ⊎ IsOnSide d o (of_spot t.b)

-- no point of s is inside the window, and on its sides it has one place at most
pub record IsUnseen (d : Triple) (o : Window) (s : Strip) : Type 0 where
  pub none : (p : Point) → IsPoint p → LiesOnStrip d s p → ¬ IsInside d o p
  pub alone : AreOnePlace d (λ p. LiesOnStrip d s p × IsWithinWindow d o p)
