-- Thin regions: those whose hatch lines are all short on paper.
use Rattle.std.specs.Prelude.{ℕ, ℤ, pos, ◌+ℤ◌, ◌-ℤ◌, ◌*ℤ◌, ◌≤ℤ◌, Bool, List, All, MatchBool}
use Rattle.lattice.specs.declared.pieces.HatchLine.{HatchLine}
use Rattle.lattice.specs.Cuts.{Plane}
use Rattle.lattice.specs.Points.{Point, of_dir, of_spot}
use Rattle.hatch_fill.specs.Chords.{AreChords}
use Rattle.sheet_plan.specs.Numbers.{measure_of, sheet_x, sheet_y}
use Rattle.sheet_plan.specs.declared.sheet.Sheet.{Sheet}
use Rattle.sheet_plan.specs.declared.sheet.Spread.{Spread}
use Rattle.section_look.specs.declared.regions.Region.{Region}
use Rattle.section_look.specs.Regions.{segments_in}

-- where a view at this place shows the point on the sheet, in hundredths of a millimetre
abbrev pub x_on : Sheet → Spread → Point → ℤ
x_on sheet place p = sheet_x (measure_of sheet.scale sheet.decimals) (of_dir place.d) place.x0 p

abbrev pub y_on : Sheet → Spread → Point → ℤ
y_on sheet place p = sheet_y (measure_of sheet.scale sheet.decimals) (of_dir place.d) place.y0 p

abbrev pub squared : ℤ → ℤ
squared n = n *ℤ n

-- from the first point to the second it is at most 2.15 mm on the sheet: across a wall of 1.5 mm at 45 degrees
abbrev pub AreNear : Sheet → Spread → Point → Point → Type 0
AreNear sheet place p q = (squared (x_on sheet place q -ℤ x_on sheet place p) +ℤ squared (y_on sheet place q -ℤ y_on sheet place p)) ≤ℤ squared (pos 215)

abbrev pub IsShort : Sheet → Spread → HatchLine → Type 0
IsShort sheet place line = AreNear sheet place (of_spot line.a) (of_spot line.b)

-- each chord of the region is short, or it has none
pub record IsThin (sheet : Sheet) (place : Spread) (c : Plane) (spacing : ℕ) (region : Region) : Type 0 where
  pub lines : List HatchLine
  pub chords : AreChords c spacing (segments_in region) lines
  pub short : All (IsShort sheet place) lines

-- a chord of the region is not short
pub record IsThick (sheet : Sheet) (place : Spread) (c : Plane) (spacing : ℕ) (region : Region) : Type 0 where
  pub lines : List HatchLine
  pub chords : AreChords c spacing (segments_in region) lines
  pub long : ¬ All (IsShort sheet place) lines

-- the mark says whether the region is thin
abbrev pub IsMarked : Sheet → Spread → Plane → ℕ → Region → Bool → Type 0
IsMarked sheet place c spacing region thin = MatchBool thin (IsThin sheet place c spacing region) (IsThick sheet place c spacing region)
