-- Greater numbers are not shorter on the sheet, and a room that is raised to whole millimetres.
use Rattle.std.proofs.Common.{◌≡◌, ℕ, ◌+◌, ◌*◌, ◌^◌, ◌<◌, ◌≤◌, List, [], ◌∷◌, All, length, get_or, slice_get, refl, ap, ◌∙◌, Vec, Global, arith}
use Rattle.std.specs.List.{AllZip}
use Rattle.std.proofs.lemmas.List.Elements.{Contains-get_or}
use Rattle.std.specs.Prelude.{Result, Ok, Err, IfOk, ℤ, pos, ◌+ℤ◌, ◌-ℤ◌, ◌*ℤ◌, ◌≤ℤ◌, ◌<ℤ◌}
use Rattle.std.proofs.lemmas.Int.{ints}
use Rattle.integers.proofs.Absolutes.{natural_positive}
use Rattle.integers.proofs.Comparisons.{twice_positive, gap_of_at_most, at_most_by}
use Rattle.integers.proofs.Floors.{floor_of-ordered}
use Rattle.integers.proofs.Ring.{var, con, ◌⊕◌, ◌⊖◌, ◌⊗◌, ring}
use Rattle.integers.proofs.Signs.{mul_nonneg}
use Rattle.exact_frac.specs.declared.OutOfMemory.{OutOfMemory}
use Rattle.job_file.specs.declared.job.Scale.{Scale}
use Rattle.lattice.specs.declared.pieces.Piece.{Piece}
use Rattle.lattice.specs.declared.points.Dir.{Dir}
use Rattle.line_merge.proofs.Zips.{zip_right}
use Rattle.sheet_plan.proofs.Rounding.{power_bounds, divisor_bounds}
use Rattle.sheet_plan.proofs.Scales.{scale_bounds}
use Rattle.sheet_plan.specs.declared.sheet.Stroke.{Stroke}
use Rattle.sheet_plan.specs.declared.sheet.Sheet.{Sheet}
use Rattle.sheet_plan.specs.declared.sheet.Spread.{Spread}
use Rattle.sheet_plan.specs.Sheets.{IsPlaceOf, IsStrokeAt}
use Rattle.svg_page.specs.Svg.{svg_of}
use Rattle.detail_pieces.specs.declared.windows.Window.{Window}
use Rattle.detail_pieces.specs.Pages.{IsDetailSheet, IsDetailText}
use Rattle.sheet_plan.specs.Numbers.{Measure, nearest, sheet_length, shortening_of}

-- of two numbers over one divisor
nearest_ordered : (f n m d : ℤ) → pos 0 ≤ℤ f → pos 0 <ℤ d → n ≤ℤ m → nearest (f *ℤ n) d ≤ℤ nearest (f *ℤ m) d
nearest_ordered f n m d hf hd less =
    floor_of-ordered (pos 2 *ℤ (f *ℤ n) +ℤ d) (pos 2 *ℤ d) (pos 2 *ℤ (f *ℤ m) +ℤ d) (pos 2 *ℤ d) (twice_positive d hd) (twice_positive d hd)
    (at_most_by ((pos 2 *ℤ (f *ℤ n) +ℤ d) *ℤ (pos 2 *ℤ d)) ((pos 2 *ℤ (f *ℤ m) +ℤ d) *ℤ (pos 2 *ℤ d)) ((pos 4 *ℤ d) *ℤ (f *ℤ (m -ℤ n)))
    (ring (f ∷ n ∷ m ∷ d ∷ [])
    ((((con (pos 2) ⊗ (var 0 ⊗ var 2)) ⊕ var 3) ⊗ (con (pos 2) ⊗ var 3)) ⊖ (((con (pos 2) ⊗ (var 0 ⊗ var 1)) ⊕ var 3) ⊗ (con (pos 2) ⊗ var 3)))
    ((con (pos 4) ⊗ var 3) ⊗ (var 0 ⊗ (var 2 ⊖ var 1))) refl)
    (mul_nonneg (pos 4 *ℤ d) (f *ℤ (m -ℤ n)) (four d hd) (mul_nonneg f (m -ℤ n) hf (gap_of_at_most n m less))))
  where
    four : (d : ℤ) → pos 0 <ℤ d → pos 0 ≤ℤ (pos 4 *ℤ d)
    four d h = omega (arith, ints)

pub length_ordered : (m : Measure) (q : ℕ) (u v : ℤ) → 0 < m.den * 10 ^ (9 + m.decimals) → u ≤ℤ v → sheet_length m q u (pos 1) ≤ℤ sheet_length m q v (pos 1)
length_ordered m q u v some less =
    nearest_ordered (pos (100 * m.num * shortening_of q)) u v (pos (m.den * 10 ^ (9 + m.decimals)) *ℤ pos 1) (natural (100 * m.num * shortening_of q))
    (times (pos (m.den * 10 ^ (9 + m.decimals))) (natural_positive (m.den * 10 ^ (9 + m.decimals)) some)) less
  where
    natural : (n : ℕ) → pos 0 ≤ℤ pos n
    natural n = omega (arith, ints)

    times : (d : ℤ) → pos 0 <ℤ d → pos 0 <ℤ (d *ℤ pos 1)
    times d h = omega (arith, ints)

-- the only place of a sheet is its first
pub at_first : (sheet : Sheet) (place : Spread) → sheet.places.items ≡ place ∷ [] → IsPlaceOf sheet 0 place
at_first sheet place one = ap (λ (ps : List Spread). slice_get ps 0) one

-- a scale's divisor
pub divisor_positive : (s : Scale) (k : ℕ) → k ≤ 6 → 0 < s.den * 10 ^ (9 + k)
divisor_positive s k few =
    let b = scale_bounds s.num s.den s.listed in
    let d = divisor_bounds s.den (10 ^ (9 + k)) b.den_least b.den_greatest (power_bounds k few) in
    omega (arith, d.least)

pub at_most_through : (a b p q : ℤ) → a ≡ p → b ≡ q → p ≤ℤ q → a ≤ℤ b
at_most_through a b p q e f h = omega (arith, ints)

-- strokes of one view
pub of_first : (sheet : Sheet) (place : Spread) (pieces : List Piece) (strokes : List Stroke) → sheet.places.items ≡ place ∷ [] → AllZip (IsStrokeAt sheet 0 place) pieces strokes
    → All (λ (s : Stroke). s.view < length sheet.places.items) strokes
of_first sheet place pieces strokes one each k s within =
    let (l, listed, at) = zip_right (IsStrokeAt sheet 0 place) pieces strokes each (get_or strokes k s) (Contains-get_or strokes k s within) in
    some (get_or strokes k s).view (length sheet.places.items) at.view_is (ap length one)
  where
    some : (v n : ℕ) → v ≡ 0 → n ≡ 1 → v < n
    some v n e f = omega (arith, e, f)

-- the text that is written is that of the page
pub text_of : (decimals : ℕ) (scale : Scale) (d : Dir) (o : Window) (pieces : List Piece) (sheet : Sheet) (is : IsDetailSheet decimals scale d o sheet) (title : List ℕ) → title ≡ []
    → (given strokes : List Stroke) → given ≡ strokes → AllZip (IsStrokeAt sheet 0 is.place) pieces strokes
    → (r : Result (Vec ℕ Global) OutOfMemory) → IfOk r (λ text. text.items ≡ svg_of sheet title given) → IfOk r (λ text. IsDetailText decimals scale d o pieces text.items)
text_of decimals scale d o pieces sheet is title none given strokes same each (Err e) h = h
text_of decimals scale d o pieces sheet is title none given strokes same each (Ok text) h =
    record { sheet = sheet; is_sheet = is; strokes = strokes; of_pieces = each; is_text = h ∙ (λ i. svg_of sheet (none i) (same i)) }
