-- At which mark the letter of each trace stands.
use Rattle.std.specs.Prelude.{◌≡◌, ℕ, ◌++◌, ◌-ℤ◌, unsigned_abs, ◌==◌, ◌&&◌, ◌||◌, not, Bool, true, false, if◌then◌else◌, List, [], ◌∷◌, map, find, Option, None, Some}
use Rattle.std.specs.List.{list_any}
use Rattle.std.specs.Option.{is_some}
use Rattle.cut_marks.specs.Areas.{area_of, none_crossed, stand_well}
use Rattle.cut_marks.specs.declared.areas.Area.{Area}
use Rattle.cut_marks.specs.Figures.{marks_in}
use Rattle.cut_marks.specs.Traces.{is_upright, is_forward}
use Rattle.sheet_plan.specs.Boxes.{box_of}
use Rattle.sheet_plan.specs.declared.boxes.ViewBox.{ViewBox}
use Rattle.cut_marks.specs.declared.ways.Lane.{Lane}
use Rattle.cut_marks.specs.declared.ways.Lane.TheVariants.{Inner, Middle, Outer}
use Rattle.cut_marks.specs.declared.ways.Laned.{Laned}
use Rattle.cut_marks.specs.declared.ways.Trace.{Trace}

abbrev pub same : Bool → Bool → Bool
same a b = if a then b else not b

-- two traces are on one line, and their cuts' viewers look in one way
abbrev pub is_on_line : Trace → Trace → Bool
is_on_line s t = same (is_upright s.way) (is_upright t.way) && (same (is_forward s.way) (is_forward t.way) && (unsigned_abs (s.at -ℤ t.at) == 0))

-- the mark is on the trace's line, and no second letter stands there
abbrev pub is_open : Trace → Laned → Bool
is_open t e = is_on_line e.trace t && not (is_some e.beside)

-- the letter of the trace stands beside that of the mark, if it is open
abbrev pub lettered : Trace → Laned → Laned
lettered t e = if is_open t e then record { trace = e.trace; lane = e.lane; beside = Some t.letter } else e

-- the mark stands one lane farther out, if there is one
abbrev pub farther : Lane → Lane
farther Inner = Middle
farther Middle = Outer
farther Outer = Outer

abbrev pub pushed : Laned → Laned
pushed e = record { trace = e.trace; lane = farther e.lane; beside = e.beside }

-- the trace has a mark of its own in this lane
abbrev pub with_own : List Laned → Trace → Lane → List Laned
with_own before t lane = before ++ record { trace = t; lane = lane; beside = None } ∷ []

-- in these ways the trace may be told after the others by a mark of its own: in the inner lane, in the middle one, in the outer one, or in the
-- inner one with all others one lane farther out
abbrev pub own_ways : List Laned → Trace → List (List Laned)
own_ways before t = with_own before t Inner ∷ with_own before t Middle ∷ with_own before t Outer ∷ with_own (map pushed before) t Inner ∷ []

-- and before them by its letter at an open mark, if there is one
abbrev pub ways_of : List Laned → Trace → List (List Laned)
ways_of before t = if list_any (is_open t) before then map (lettered t) before ∷ own_ways before t else own_ways before t

-- the marks stand well in the view with this box and this room around it; and if so much is wanted, no chain line crosses a letter
abbrev pub stands : Bool → ViewBox → Area → List Laned → Bool
stands free b room laned = stand_well (area_of (box_of b)) room (marks_in b laned) && (not free || none_crossed (marks_in b laned))

abbrev pub first_of : Option (List Laned) → Option (List Laned) → Option (List Laned)
first_of None other = other
first_of (Some found) other = Some found

-- the first of these ways in which marks stand well and no chain line crosses a letter, or else the first in which they stand well
abbrev pub placed : ViewBox → Area → List Laned → Trace → Option (List Laned)
placed b room before t = first_of (find (stands true b room) (ways_of before t)) (find (stands false b room) (ways_of before t))

-- each trace is told after those before it; where it can't be, its letter is left out
pub data AreLaned (b : ViewBox) (room : Area) : List Trace → List Laned → List ℕ → Type 0 where
  none : AreLaned b room [] [] []
  told : (traces : List Trace) (laned : List Laned) (left_out : List ℕ) (t : Trace) (now : List Laned) → AreLaned b room traces laned left_out → placed b room laned t ≡ Some now
      → AreLaned b room (traces ++ t ∷ []) now left_out
  untold : (traces : List Trace) (laned : List Laned) (left_out : List ℕ) (t : Trace) → AreLaned b room traces laned left_out → placed b room laned t ≡ None
      → AreLaned b room (traces ++ t ∷ []) laned (left_out ++ t.letter ∷ [])
