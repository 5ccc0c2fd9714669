-- The figures of marks and headings, in hundredths of a millimetre: x goes right and y down.
use Rattle.std.specs.Prelude.{ℕ, ℤ, pos, ◌+ℤ◌, ◌-ℤ◌, not, Bool, true, false, if◌then◌else◌, List, map}
use Rattle.integers.specs.Floors.{floor_of}
use Rattle.lattice.specs.Cuts.{Plane}
use Rattle.cut_marks.specs.Traces.{is_upright, is_forward}
use Rattle.sheet_plan.specs.declared.boxes.ViewBox.{ViewBox}
use Rattle.cut_marks.specs.declared.figures.Heading.{Heading}
use Rattle.cut_marks.specs.declared.figures.CutMark.{CutMark}
use Rattle.cut_marks.specs.declared.figures.MarkEnd.{MarkEnd}
use Rattle.cut_marks.specs.declared.figures.SheetPoint.{SheetPoint}
use Rattle.cut_marks.specs.declared.ways.Lane.{Lane}
use Rattle.cut_marks.specs.declared.ways.Lane.TheVariants.{Inner, Middle, Outer}
use Rattle.cut_marks.specs.declared.ways.Laned.{Laned}

-- so far forward, or back
abbrev pub ahead : Bool → ℤ → ℤ → ℤ
ahead forward at by = if forward then at +ℤ by else at -ℤ by

abbrev pub place_at : ℤ → ℤ → SheetPoint
place_at x y = record { x = x; y = y }

-- the base line of a letter beneath an arrow that goes to the left or to the right at this height, or of one above it
abbrev pub base_at : Bool → ℤ → ℤ
base_at beneath y = if beneath then y +ℤ pos 450 else y -ℤ pos 90

-- At a trace that runs upright: the strong end begins and ends so far outside this side of the view's box, and the arrow of 6.6 mm goes to its
-- end in the viewing direction. The letter is beside the tail, toward the view, and another one on the arrow's other side.
abbrev pub upright_end : Bool → (at : ℤ) → Bool → (side begins ends : ℤ) → MarkEnd
upright_end forward at beyond side begins ends = record {
  start = place_at at (ahead beyond side begins);
  tip = place_at at (ahead beyond side ends);
  tail = place_at (ahead (not forward) at (pos 660)) (ahead beyond side ends);
  letter = place_at (ahead (not forward) at (pos 480)) (base_at (not beyond) (ahead beyond side ends));
  beside = place_at (ahead (not forward) at (pos 480)) (base_at beyond (ahead beyond side ends));
}

-- the base line of a letter beside the tail of an arrow that goes down, or up, to this height
abbrev pub base_beside : Bool → ℤ → ℤ
base_beside forward at = if forward then at -ℤ pos 300 else at +ℤ pos 660

-- the same at a trace that runs level
abbrev pub level_end : Bool → (at : ℤ) → Bool → (side begins ends : ℤ) → MarkEnd
level_end forward at beyond side begins ends = record {
  start = place_at (ahead beyond side begins) at;
  tip = place_at (ahead beyond side ends) at;
  tail = place_at (ahead beyond side ends) (ahead (not forward) at (pos 660));
  letter = place_at (ahead (not beyond) (ahead beyond side ends) (pos 290)) (base_beside forward at);
  beside = place_at (ahead beyond (ahead beyond side ends) (pos 290)) (base_beside forward at);
}

abbrev pub end_on : Bool → Bool → (at : ℤ) → Bool → (side begins ends : ℤ) → MarkEnd
end_on upright forward at beyond side begins ends =
    if upright then upright_end forward at beyond side begins ends else level_end forward at beyond side begins ends

-- strong ends are 8 mm long and begin 1 mm outside the view's box, in the next lanes 7.2 mm and 13.4 mm
abbrev pub begin_of : Lane → ℤ
begin_of Inner = pos 100
begin_of Middle = pos 720
begin_of Outer = pos 1340

abbrev pub out_of : Lane → ℤ
out_of Inner = pos 900
out_of Middle = pos 1520
out_of Outer = pos 2140

-- from where to where a trace crosses the box
abbrev pub near_side : Bool → ViewBox → ℤ
near_side upright b = if upright then b.top else b.left

abbrev pub far_side : Bool → ViewBox → ℤ
far_side upright b = if upright then b.bottom else b.right

-- an end of a trace's mark, outside one side of the box
abbrev pub end_of : Laned → Bool → ℤ → MarkEnd
end_of e beyond side = end_on (is_upright e.trace.way) (is_forward e.trace.way) e.trace.at beyond side (begin_of e.lane) (out_of e.lane)

-- the mark of a trace in the view with this box
abbrev pub mark_of : ViewBox → Laned → CutMark
mark_of b e =
    let upright = is_upright e.trace.way in
    record {
      letter = e.trace.letter;
      beside = e.beside;
      first = end_of e false (near_side upright b);
      second = end_of e true (far_side upright b);
    }

abbrev pub marks_in : ViewBox → List Laned → List CutMark
marks_in b laned = map (mark_of b) laned

-- above the middle of the box of a cut's view
abbrev pub heading_over : ViewBox → (room letter : ℕ) → Plane → Bool → Heading
heading_over b room letter c has_section = record {
  letter = letter;
  axis = c.axis;
  at = c.at;
  x = floor_of (b.left +ℤ b.right) (pos 2);
  y = b.top -ℤ pos 200;
  room = room;
  has_section = has_section;
}
