-- The ends of strokes, and at which of them a path goes on from one stroke to another.
use Rattle.std.specs.Prelude.{◌≡◌, ◌≢◌, ◌⊎◌, ◌<◌, ◌≤◌, ◌*◌, ℕ, ℤ, pos, ◌+ℤ◌, ◌-ℤ◌, ◌*ℤ◌, ◌≤ℤ◌, unsigned_abs, List, Some, slice_get}
use Rattle.sheet_plan.specs.declared.sheet.Mark.{Mark}
use Rattle.sheet_plan.specs.declared.sheet.Mark.TheVariants.{Hatch}
use Rattle.sheet_plan.specs.declared.sheet.Stroke.{Stroke}
use Rattle.stroke_paths.specs.declared.path.End.{End}
use Rattle.stroke_paths.specs.declared.path.Point.{Point}
use Rattle.stroke_paths.specs.declared.path.Tip.{Tip}
use Rattle.stroke_paths.specs.declared.path.Tip.TheVariants.{First, Second}
use Rattle.stroke_paths.specs.declared.turns.Turn.{Turn}

-- the other end of a stroke
abbrev pub other_tip : Tip → Tip
other_tip First = Second
other_tip Second = First

-- where the first or the second end of a stroke is
abbrev pub point_of : Tip → Stroke → Point
point_of First s = record { x = s.x1; y = s.y1 }
point_of Second s = record { x = s.x2; y = s.y2 }

-- both ends are one point of the sheet
abbrev pub IsDot : Stroke → Type 0
IsDot s = point_of First s ≡ point_of Second s

-- the stroke at this place is no dot; dots are left out
pub record IsKept (strokes : List Stroke) (i : ℕ) : Type 0 where
  pub stroke : Stroke
  pub listed : slice_get strokes i ≡ Some stroke
  pub no_dot : IsDot stroke → ⊥

-- an end of a stroke of this view and mark, which is no dot, is at this point
pub record EndsAt (strokes : List Stroke) (view : ℕ) (mark : Mark) (p : Point) (e : End) : Type 0 where
  pub stroke : Stroke
  pub listed : slice_get strokes e.stroke ≡ Some stroke
  pub no_dot : IsDot stroke → ⊥
  pub view_is : stroke.view ≡ view
  pub mark_is : stroke.mark ≡ mark
  pub at : point_of e.tip stroke ≡ p

-- how far a stroke goes to the right and down, as it comes to its first or to its second end
abbrev pub across : Tip → Stroke → ℤ
across First s = s.x1 -ℤ s.x2
across Second s = s.x2 -ℤ s.x1

abbrev pub down : Tip → Stroke → ℤ
down First s = s.y1 -ℤ s.y2
down Second s = s.y2 -ℤ s.y1

-- it is no longer than the widest sheet, each way
pub record FitsSheet (s : Stroke) : Type 0 where
  pub wide : unsigned_abs (s.x2 -ℤ s.x1) ≤ 118900
  pub high : unsigned_abs (s.y2 -ℤ s.y1) ≤ 118900

-- where one goes by (a, b) and then by (c, d) one turns by at most 45 degrees
abbrev pub TurnsLittle : ℤ → ℤ → ℤ → ℤ → Type 0
TurnsLittle a b c d = pos (unsigned_abs ((a *ℤ d) -ℤ (b *ℤ c))) ≤ℤ ((a *ℤ c) +ℤ (b *ℤ d))

-- the turn from (a, b) to (c, d): the sizes of the cross product and of the dot product
abbrev pub turn_along : ℤ → ℤ → ℤ → ℤ → Turn
turn_along a b c d = record { aside = unsigned_abs ((a *ℤ d) -ℤ (b *ℤ c)); ahead = unsigned_abs ((a *ℤ c) +ℤ (b *ℤ d)) }

-- the one turns less than the other, both by at most 45 degrees: there aside / ahead is the tangent of the angle
abbrev pub TurnsLess : Turn → Turn → Type 0
TurnsLess t u = t.aside * u.ahead < u.aside * t.ahead

-- one comes to the end e of a stroke s and goes on from the end f of a stroke t
abbrev pub GoesOn : Tip → Stroke → Tip → Stroke → Type 0
GoesOn e s f t = TurnsLittle (across e s) (down e s) (across (other_tip f) t) (down (other_tip f) t)

abbrev pub turn_of : Tip → Stroke → Tip → Stroke → Turn
turn_of e s f t = turn_along (across e s) (down e s) (across (other_tip f) t) (down (other_tip f) t)

-- ends of two strokes, neither longer than a sheet: from one to the other it turns by at most 45 degrees
pub record MayGoOn (strokes : List Stroke) (e f : End) : Type 0 where
  pub first : Stroke
  pub second : Stroke
  pub first_listed : slice_get strokes e.stroke ≡ Some first
  pub second_listed : slice_get strokes f.stroke ≡ Some second
  pub two : e.stroke ≢ f.stroke
  pub first_fits : FitsSheet first
  pub second_fits : FitsSheet second
  pub turns : GoesOn e.tip first f.tip second

abbrev pub turn_at : {strokes : List Stroke} {e f : End} → MayGoOn strokes e f → Turn
turn_at {e = e} {f = f} h = turn_of e.tip h.first f.tip h.second

-- the ends g and h are the ends e and f
abbrev pub AreSame : End → End → End → End → Type 0
AreSame e f g h = ((g ≡ e) × (h ≡ f)) ⊎ ((g ≡ f) × (h ≡ e))

-- a path goes on from one end to the other: they are ends of strokes of one view and mark, at one point, and it turns there by at most
-- 45 degrees, and less than between any two other such ends there. Hatch lines and strokes that are longer than a sheet stay alone.
pub record AreJoined (strokes : List Stroke) (e f : End) : Type 0 where
  pub view : ℕ
  pub mark : Mark
  pub point : Point
  pub first : EndsAt strokes view mark point e
  pub second : EndsAt strokes view mark point f
  pub no_hatch : mark ≢ Hatch
  pub goes_on : MayGoOn strokes e f
  pub least : (g h : End) → EndsAt strokes view mark point g → EndsAt strokes view mark point h → (other : MayGoOn strokes g h) → AreSame e f g h ⊎ TurnsLess (turn_at goes_on) (turn_at other)
