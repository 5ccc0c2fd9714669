-- The traces of cuts in a view, on the sheet.
use Rattle.std.specs.Prelude.{◌≡◌, ◌≢◌, ℕ, ◌++◌, ℤ, pos, int_lt, Bool, true, false, if◌then◌else◌, List, [], ◌∷◌, Contains, length}
use Rattle.lattice.specs.declared.cuts.Cut.{Cut}
use Rattle.lattice.specs.declared.points.Axis.{Axis}
use Rattle.lattice.specs.declared.points.Axis.TheVariants.{X, Y, Z}
use Rattle.lattice.specs.declared.points.Corner.{Corner}
use Rattle.lattice.specs.Cuts.{Plane, plane_of, toward_of}
use Rattle.lattice.specs.Points.{Point, of_dir, point_of}
use Rattle.lattice.specs.Triple.{Triple, dot, right_axis, up_axis}
use Rattle.geometry.specs.Parts.{Part}
use Rattle.lattice.specs.Axes.{coordinate_of}
use Rattle.geometry.specs.Traces.{HasTrace}
use Rattle.sheet_plan.specs.Numbers.{measure_of, sheet_x, sheet_y}
use Rattle.sheet_plan.specs.declared.sheet.Sheet.{Sheet}
use Rattle.sheet_plan.specs.declared.sheet.Spread.{Spread}
use Rattle.sheet_plan.specs.Sheets.{IsPlaceOf}
use Rattle.cut_marks.specs.Letters.{IsLetterOf}
use Rattle.cut_marks.specs.declared.ways.Trace.{Trace}
use Rattle.cut_marks.specs.declared.ways.Way.{Way}
use Rattle.cut_marks.specs.declared.ways.Way.TheVariants.{Right, Left, Down, Up}

-- not all corners are at one place of the axis
abbrev pub IsSpread : Axis → List Corner → Type 0
IsSpread axis corners = (k : Corner) × (l : Corner) × Contains corners k × Contains corners l × (coordinate_of axis (point_of k) ≢ coordinate_of axis (point_of l))

-- the view along d has the trace of the plane
abbrev pub IsSeen : Triple → Part → Plane → Type 0
IsSeen d s c = (sight : Axis) × HasTrace d s c sight

-- the way in which one looks against a direction that goes so far across and upward
abbrev pub way_of : ℤ → ℤ → Way
way_of across upward =
    if int_lt across (pos 0) then Right else if int_lt (pos 0) across then Left else if int_lt (pos 0) upward then Down else Up

-- the way in which a cut's viewer looks, as the view along d shows it; where the view has a trace, one of the two isn't 0
abbrev pub looks : Triple → Plane → Way
looks d c = way_of (dot (right_axis d) (toward_of c)) (dot (up_axis d) (toward_of c))

-- the trace runs across that way
abbrev pub is_upright : Way → Bool
is_upright Right = true
is_upright Left = true
is_upright Down = false
is_upright Up = false

-- toward greater x, or greater y
abbrev pub is_forward : Way → Bool
is_forward Right = true
is_forward Left = false
is_forward Down = true
is_forward Up = false

-- the point of the axis at the plane's place
abbrev pub axis_point : Axis → ℤ → Point
axis_point X at = record { x = at; y = pos 0; z = pos 0; w = pos 1 }
axis_point Y at = record { x = pos 0; y = at; z = pos 0; w = pos 1 }
axis_point Z at = record { x = pos 0; y = pos 0; z = at; w = pos 1 }

abbrev pub foot_of : Plane → Point
foot_of c = axis_point c.axis c.at

-- x and y at which a view in this place shows a point
abbrev pub x_on : Sheet → Spread → Point → ℤ
x_on sheet place p = sheet_x (measure_of sheet.scale sheet.decimals) (of_dir place.d) place.x0 p

abbrev pub y_on : Sheet → Spread → Point → ℤ
y_on sheet place p = sheet_y (measure_of sheet.scale sheet.decimals) (of_dir place.d) place.y0 p

-- where a view in this place shows the plane: its x where its trace runs upright, else its y
abbrev pub trace_at : Sheet → Spread → Plane → ℤ
trace_at sheet place c = if is_upright (looks (of_dir place.d) c) then x_on sheet place (foot_of c) else y_on sheet place (foot_of c)

-- the trace of a plane with this letter
pub record IsTraceOn (sheet : Sheet) (place : Spread) (c : Plane) (letter : ℕ) (t : Trace) : Type 0 where
  pub letter_is : t.letter ≡ letter
  pub way : t.way ≡ looks (of_dir place.d) c
  pub at : t.at ≡ trace_at sheet place c

-- that of the cut with this number
pub record IsNumberedTrace (sheet : Sheet) (s : Part) (view number : ℕ) (c : Cut) (t : Trace) : Type 0 where
  pub place : Spread
  pub stands : IsPlaceOf sheet view place
  pub seen : IsSeen (of_dir place.d) s (plane_of c)
  pub lettered : IsLetterOf number t.letter
  pub on : IsTraceOn sheet place (plane_of c) t.letter t

pub record IsUnseen (sheet : Sheet) (s : Part) (view : ℕ) (c : Cut) : Type 0 where
  pub place : Spread
  pub stands : IsPlaceOf sheet view place
  pub unseen : ¬ IsSeen (of_dir place.d) s (plane_of c)

-- the traces that the view with this number has of the cuts, in their order
pub data AreTraces (sheet : Sheet) (s : Part) (view : ℕ) : List Cut → List Trace → Type 0 where
  none : AreTraces sheet s view [] []
  seen : (cuts : List Cut) (c : Cut) (traces : List Trace) (t : Trace) → AreTraces sheet s view cuts traces → IsNumberedTrace sheet s view (length cuts) c t
      → AreTraces sheet s view (cuts ++ c ∷ []) (traces ++ t ∷ [])
  unseen : (cuts : List Cut) (c : Cut) (traces : List Trace) → AreTraces sheet s view cuts traces → IsUnseen sheet s view c → AreTraces sheet s view (cuts ++ c ∷ []) traces
