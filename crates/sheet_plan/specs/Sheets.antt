-- Where points stand on a sheet, and the strokes of pieces and of hatch lines.
use Rattle.std.specs.Prelude.{◌≡◌, ℕ, ◌*◌, ◌/◌, ◌^◌, max, ℤ, ◌*ℤ◌, Some, slice_get}
use Rattle.exact_frac.specs.declared.Frac.{Frac}
use Rattle.lattice.specs.declared.pieces.HatchLine.{HatchLine}
use Rattle.lattice.specs.declared.pieces.Piece.{Piece}
use Rattle.lattice.specs.declared.pieces.Style.{Style}
use Rattle.lattice.specs.declared.pieces.Style.TheVariants.{Solid, Dashed, Chain}
use Rattle.lattice.specs.declared.points.Spot.{Spot}
use Rattle.lattice.specs.Points.{Point, of_dir, of_spot, across_of, upward_of}
use Rattle.sheet_plan.specs.declared.sheet.Mark.{Mark}
use Rattle.sheet_plan.specs.declared.sheet.Mark.TheVariants as mark
use Rattle.sheet_plan.specs.declared.sheet.Sheet.{Sheet}
use Rattle.sheet_plan.specs.declared.sheet.Spread.{Spread}
use Rattle.sheet_plan.specs.declared.sheet.Stroke.{Stroke}
use Rattle.sheet_plan.specs.Numbers.{measure_of, sheet_x, sheet_y}

-- this view stands at this place
abbrev pub IsPlaceOf : Sheet → ℕ → Spread → Type 0
IsPlaceOf sheet view place = slice_get sheet.places.items view ≡ Some place

-- a view at this place shows the point at x and y
pub record IsShownAt (sheet : Sheet) (place : Spread) (p : Point) (x y : ℤ) : Type 0 where
  pub right : x ≡ sheet_x (measure_of sheet.scale sheet.decimals) (of_dir place.d) place.x0 p
  pub down : y ≡ sheet_y (measure_of sheet.scale sheet.decimals) (of_dir place.d) place.y0 p

-- a visible line is solid, a hidden one dashed, and a trace a chain line
abbrev pub mark_of : Style → Mark
mark_of Solid = mark.Solid
mark_of Dashed = mark.Dashed
mark_of Chain = mark.Chain

-- the fraction's value is n / w
abbrev pub HasValue : Frac → ℤ → ℤ → Type 0
HasValue f n w = f.num *ℤ w ≡ n *ℤ f.den

-- the stroke from one spot to the other in this view, which stands at this place: U and V of its ends, and where they are shown
pub record IsStrokeBetween (sheet : Sheet) (view : ℕ) (place : Spread) (mark : Mark) (a b : Spot) (s : Stroke) : Type 0 where
  pub view_is : s.view ≡ view
  pub mark_is : s.mark ≡ mark
  pub u1 : HasValue s.u1 (across_of (of_dir place.d) (of_spot a)) a.w
  pub v1 : HasValue s.v1 (upward_of (of_dir place.d) (of_spot a)) a.w
  pub u2 : HasValue s.u2 (across_of (of_dir place.d) (of_spot b)) b.w
  pub v2 : HasValue s.v2 (upward_of (of_dir place.d) (of_spot b)) b.w
  pub first : IsShownAt sheet place (of_spot a) s.x1 s.y1
  pub second : IsShownAt sheet place (of_spot b) s.x2 s.y2

-- that of a piece
abbrev pub IsStrokeAt : Sheet → ℕ → Spread → Piece → Stroke → Type 0
IsStrokeAt sheet view place piece s = IsStrokeBetween sheet view place (mark_of piece.style) piece.a piece.b s

-- that of a hatch line
abbrev pub IsHatchStrokeAt : Sheet → ℕ → Spread → HatchLine → Stroke → Type 0
IsHatchStrokeAt sheet view place line s = IsStrokeBetween sheet view place mark.Hatch line.a line.b s

-- 3 mm on a sheet with the scale num : den in whole units of 10^-decimals mm, cut off, and at least one
abbrev pub spacing_of : ℕ → ℕ → ℕ → ℕ
spacing_of num den decimals = max (3 * 10 ^ decimals * den / num) 1
