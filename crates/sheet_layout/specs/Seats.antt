-- How much room each view takes at a scale: its box, and what it needs on the sides of that.
use Rattle.std.specs.Prelude.{ℕ, ◌+◌, ◌-◌, ◌/◌, max, nat_lt, Bool, true, false, if◌then◌else◌, ◌-ℤ◌, unsigned_abs, List, [], ◌∷◌}
use Rattle.lattice.specs.Points.{of_dir}
use Rattle.lattice.specs.ShownCuts.{cuts_of}
use Rattle.std.specs.Prelude.{length}
use Rattle.job_file.specs.declared.view.JobView.{JobView}
use Rattle.sheet_plan.specs.Layout.{across_at, upward_at}
use Rattle.sheet_plan.specs.Numbers.{Measure}
use Rattle.sheet_plan.specs.declared.bounds.Extent.{Extent}
use Rattle.sheet_layout.specs.Anchors.{cell_of}
use Rattle.sheet_layout.specs.declared.cells.Cell.{Cell}
use Rattle.sheet_layout.specs.declared.seats.Seat.{Seat}
use Rattle.sheet_layout.specs.declared.sides.Sides.{Sides}

-- half of what is between two boxes
abbrev pub least_side : ℕ
least_side = 750

-- the size of a view's box
abbrev pub width_at : Measure → Extent → ℕ
width_at m e = unsigned_abs (across_at m (of_dir e.d) e.u_max -ℤ across_at m (of_dir e.d) e.u_min)

abbrev pub height_at : Measure → Extent → ℕ
height_at m e = unsigned_abs (upward_at m (of_dir e.d) e.v_max -ℤ upward_at m (of_dir e.d) e.v_min)

-- a side that is asked for, or the least one if sides are shrunk
abbrev pub side_or_least : Bool → ℕ → ℕ
side_or_least true asked = least_side
side_or_least false asked = max least_side asked

-- half of what a box of this width lacks of another width, rounded up
abbrev pub half_lacking : ℕ → ℕ → ℕ
half_lacking asked width = ((asked - width) + 1) / 2

-- a side to the left or to the right: the box and both sides are to be as wide as is asked
abbrev pub level_side : Bool → (asked whole width : ℕ) → ℕ
level_side shrunk asked whole width = side_or_least shrunk (max asked (half_lacking whole width))

abbrev pub seat_of : Bool → Measure → Cell → Sides → Extent → Seat
seat_of shrunk m cell s e = record {
  cell = cell;
  d = e.d;
  from_left = across_at m (of_dir e.d) e.u_min;
  above = upward_at m (of_dir e.d) e.v_max;
  width = width_at m e;
  height = height_at m e;
  left = level_side shrunk s.left s.width (width_at m e);
  right = level_side shrunk s.right s.width (width_at m e);
  top = side_or_least shrunk s.top;
  bottom = side_or_least shrunk s.bottom;
}

-- Seats of views in their order; the first of these has this number, and so many cuts are shown before it. The first `kept` cuts may stand
-- beside other views, if they go through the part.
abbrev pub seats_from : Bool → Bool → Measure → List JobView → ℕ → ℕ → ℕ → List JobView → List Bool → List Sides → List Extent → List Seat
seats_from third shrunk m all kept number cuts [] through sides extents = []
seats_from third shrunk m all kept number cuts (v ∷ vs) [] sides extents = []
seats_from third shrunk m all kept number cuts (v ∷ vs) (t ∷ ts) [] extents = []
seats_from third shrunk m all kept number cuts (v ∷ vs) (t ∷ ts) (s ∷ ss) [] = []
seats_from third shrunk m all kept number cuts (v ∷ vs) (t ∷ ts) (s ∷ ss) (e ∷ es) =
    seat_of shrunk m (cell_of third all (if t then nat_lt cuts kept else false) number v.named v.spec) s e
    ∷ seats_from third shrunk m all kept (number + 1) (cuts + length (cuts_of v.spec)) vs ts ss es
