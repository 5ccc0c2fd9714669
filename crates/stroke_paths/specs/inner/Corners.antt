-- The ends at a place, as the table of corners has them.
use Rattle.std.specs.Prelude.{◌≡◌, ◌≢◌, ◌<◌, ◌&&◌, ◌++◌, [], ◌∷◌, ℕ, Bool, List, Some, Vec, cond, nat_eq, slice_get}
use Rattle.std.specs.Ordering.{int_eq}
use Rattle.std.specs.declared.alloc.Global.{Global}
use Rattle.std.specs.Option.{option_map_or}
use Rattle.indexmap.specs.IndexMap.{IndexMap, get}
use Rattle.sheet_plan.specs.LineKinds.{pen_of}
use Rattle.sheet_plan.specs.declared.sheet.Mark.{Mark}
use Rattle.sheet_plan.specs.declared.sheet.Mark.TheVariants.{Hatch}
use Rattle.sheet_plan.specs.declared.sheet.Stroke.{Stroke}
use Rattle.stroke_paths.specs.declared.corners.StrokePlace.{StrokePlace}
use Rattle.stroke_paths.specs.declared.path.End.{End}
use Rattle.stroke_paths.specs.declared.path.Point.{Point}
use Rattle.stroke_paths.specs.declared.path.Tip.{Tip}
use Rattle.stroke_paths.specs.Joints.{EndsAt, point_of}

-- a point, for the strokes of one view and mark, which goes by its pen
abbrev pub place_for : ℕ → Mark → Point → StrokePlace
place_for view mark p = record { view = view; mark = pen_of mark; point = p }

-- the place of an end of a stroke
abbrev pub place_of : Tip → Stroke → StrokePlace
place_of tip s = place_for s.view s.mark (point_of tip s)

-- two places are one
abbrev pub same_place : StrokePlace → StrokePlace → Bool
same_place p q = nat_eq p.view q.view && (nat_eq p.mark q.mark && (int_eq p.point.x q.point.x && int_eq p.point.y q.point.y))

-- the end stands in this list of ends
abbrev pub IsListed : List End → End → Type 0
IsListed ends e = (k : ℕ) × (slice_get ends k ≡ Some e)

-- just the ends that count are listed
pub record AreEnds (Counts : End → Type 0) (ends : List End) : Type 0 where
  pub each : (e : End) → IsListed ends e → Counts e
  pub all : (e : End) → Counts e → IsListed ends e

-- an end, at this point, of one of the strokes below i
pub record EndsBelow (strokes : List Stroke) (i : ℕ) (view : ℕ) (mark : Mark) (p : Point) (e : End) : Type 0 where
  pub below : e.stroke < i
  pub ends : EndsAt strokes view mark p e

-- the ends that a table has at a place
abbrev pub ends_in : {S : Type 0} → IndexMap StrokePlace (Vec End Global) S → StrokePlace → List End
ends_in corners q = option_map_or (λ ends. ends.items) (get same_place corners q) []

-- the table has the ends of the strokes below i, at each point
abbrev pub AreCorners : {S : Type 0} → List Stroke → ℕ → IndexMap StrokePlace (Vec End Global) S → Type 0
AreCorners strokes i corners =
    (view : ℕ) (mark : Mark) (p : Point) → mark ≢ Hatch → AreEnds (EndsBelow strokes i view mark p) (ends_in corners (place_for view mark p))

-- one more end is noted at a place
abbrev pub IsNoted : {S : Type 0} → IndexMap StrokePlace (Vec End Global) S → IndexMap StrokePlace (Vec End Global) S → StrokePlace → End → Type 0
IsNoted before after p e =
    (q : StrokePlace) → ends_in after q ≡ cond (same_place p q) (ends_in before p ++ e ∷ []) (ends_in before q)
