-- The page of a detail.
use Rattle.std.specs.Prelude.{◌≡◌, ℕ, ℤ, pos, ◌+ℤ◌, ◌-ℤ◌, ◌<ℤ◌, ◌≤ℤ◌, List, [], ◌∷◌}
use Rattle.std.specs.List.{AllZip}
use Rattle.job_file.specs.declared.job.Scale.{Scale}
use Rattle.lattice.specs.declared.pieces.Piece.{Piece}
use Rattle.lattice.specs.declared.points.Dir.{Dir}
use Rattle.lattice.specs.Points.{of_dir}
use Rattle.lattice.specs.Triple.{right_axis, up_axis}
use Rattle.sheet_plan.specs.declared.sheet.Sheet.{Sheet}
use Rattle.sheet_plan.specs.declared.sheet.Spread.{Spread}
use Rattle.sheet_plan.specs.declared.sheet.Stroke.{Stroke}
use Rattle.sheet_plan.specs.Numbers.{Measure, measure_of, square_of, sheet_length}
use Rattle.sheet_plan.specs.Sheets.{IsStrokeAt}
use Rattle.svg_page.specs.Svg.{svg_of}
use Rattle.detail_pieces.specs.declared.windows.Window.{Window}

-- a whole number of U, and of V, on the sheet
abbrev pub across_on : Measure → Dir → ℤ → ℤ
across_on m d u = sheet_length m (square_of (right_axis (of_dir d))) u (pos 1)

abbrev pub upward_on : Measure → Dir → ℤ → ℤ
upward_on m d v = sheet_length m (square_of (up_axis (of_dir d))) v (pos 1)

-- m is the first whole millimetre that isn't below n (a sheet has whole millimetres alone)
pub record IsRaised (n m : ℤ) : Type 0 where
  pub least : n ≤ℤ m
  pub below_next : m <ℤ (n +ℤ pos 100)

-- The sheet of a window of the view from d, with units of 10^-decimals mm: the view stands 20 mm from the left and from above, and as
-- much room is left to the right and below.
pub record IsDetailSheet (decimals : ℕ) (scale : Scale) (d : Dir) (o : Window) (sheet : Sheet) : Type 0 where
  pub decimals_is : sheet.decimals ≡ decimals
  pub num : sheet.scale.num ≡ scale.num
  pub den : sheet.scale.den ≡ scale.den
  pub place : Spread
  pub one : sheet.places.items ≡ place ∷ []
  pub seen : of_dir place.d ≡ of_dir d
  pub x0 : place.x0 ≡ pos 2000 -ℤ across_on (measure_of scale decimals) d o.u1
  pub y0 : place.y0 ≡ pos 2000 +ℤ upward_on (measure_of scale decimals) d o.v2
  pub width : IsRaised ((across_on (measure_of scale decimals) d o.u2 -ℤ across_on (measure_of scale decimals) d o.u1) +ℤ pos 4000) sheet.width
  pub height : IsRaised ((upward_on (measure_of scale decimals) d o.v2 -ℤ upward_on (measure_of scale decimals) d o.v1) +ℤ pos 4000) sheet.height

-- The text of the page of these pieces: the SVG of that sheet without a title, with a stroke for each piece, in order.
pub record IsDetailText (decimals : ℕ) (scale : Scale) (d : Dir) (o : Window) (pieces : List Piece) (text : List ℕ) : Type 0 where
  pub sheet : Sheet
  pub is_sheet : IsDetailSheet decimals scale d o sheet
  pub strokes : List Stroke
  pub of_pieces : AllZip (IsStrokeAt sheet 0 is_sheet.place) pieces strokes
  pub is_text : text ≡ svg_of sheet [] strokes
