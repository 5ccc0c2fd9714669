-- Where a view's cell is, what it takes of its row and its column, and that no two names have one cell.
use Rattle.std.proofs.Common.{◌≡◌, ℕ, zero, suc, ◌<◌, ◌≤◌, Bool, true, false, refl, sym, ap, ◌∙◌, subst, arith, Option, None, Some, List}
use Rattle.std.specs.Prelude.{ℤ, pos, ◌+ℤ◌, ◌≤ℤ◌, if◌then◌else◌}
use Rattle.std.proofs.lemmas.Bool.{eq-eqb}
use Rattle.std.proofs.lemmas.Int.{ints}
use Rattle.job_file.specs.Views.{AreNamedApart}
use Rattle.job_file.specs.declared.view.Principal.{Principal}
use Rattle.job_file.specs.declared.view.Principal.TheVariants.{Front, Back, Left, Right, Above, Below}
use Rattle.sheet_plan.specs.declared.cells.Band.TheVariants.{Row, Column}
use Rattle.sheet_plan.specs.declared.cells.Cell.{Cell}
use Rattle.sheet_plan.specs.declared.cells.Cell.TheVariants.{Grid, Lower}
use Rattle.sheet_plan.specs.declared.cells.Shape.{Shape}
use Rattle.sheet_plan.specs.Layout.{gap, margin, cell_of, is_in_row, is_in_column, is_lower, part_of, lower_part_of, sum_below, row_stride, cell_y}
use Rattle.sheet_plan.specs.inner.Sizes.{IsInGrid}

-- ---- a cell tells the name of its view
name_at : Bool → ℕ → ℕ → Principal
name_at third zero column = if third then Above else Below
name_at third (suc zero) zero = if third then Left else Right
name_at third (suc zero) (suc zero) = Front
name_at third (suc zero) (suc (suc zero)) = if third then Right else Left
name_at third (suc zero) (suc (suc (suc column))) = Back
name_at third (suc (suc row)) column = if third then Below else Above

name_in : Bool → Cell → Option Principal
name_in third (Grid row column) = Some (name_at third row column)
name_in third Lower = None

name_in-cell_of : (third : Bool) (named : Option Principal) → name_in third (cell_of third named) ≡ named
unfolding name_in name_at
name_in-cell_of third None = refl
name_in-cell_of third (Some Front) = refl
name_in-cell_of third (Some Back) = refl
name_in-cell_of true (Some Left) = refl
name_in-cell_of false (Some Left) = refl
name_in-cell_of true (Some Right) = refl
name_in-cell_of false (Some Right) = refl
name_in-cell_of true (Some Above) = refl
name_in-cell_of false (Some Above) = refl
name_in-cell_of true (Some Below) = refl
name_in-cell_of false (Some Below) = refl

pub one_cell : (third : Bool) (m n : Option Principal) (row column : ℕ) → AreNamedApart m n → cell_of third m ≡ Grid row column → cell_of third n ≡ Grid row column → ⊥
one_cell third None n row column apart e f = absurd (cc)
one_cell third (Some p) n row column apart e f =
    apart p refl (sym (name_in-cell_of third n) ∙ ap (name_in third) (f ∙ sym e) ∙ name_in-cell_of third (Some p))

-- ---- there are three rows and four columns
pub in_grid : (third : Bool) (named : Option Principal) → IsInGrid (cell_of third named)
in_grid third None = tt
in_grid third (Some Front) = (omega arith, omega arith)
in_grid third (Some Back) = (omega arith, omega arith)
in_grid true (Some Left) = (omega arith, omega arith)
in_grid false (Some Left) = (omega arith, omega arith)
in_grid true (Some Right) = (omega arith, omega arith)
in_grid false (Some Right) = (omega arith, omega arith)
in_grid true (Some Above) = (omega arith, omega arith)
in_grid false (Some Above) = (omega arith, omega arith)
in_grid true (Some Below) = (omega arith, omega arith)
in_grid false (Some Below) = (omega arith, omega arith)

-- ---- rows, with the lower one as row 3
abbrev pub row_of : Cell → ℕ
row_of (Grid row column) = row
row_of Lower = 3

pub cell_y-is : (shapes : List Shape) (cell : Cell) → cell_y shapes cell ≡ margin +ℤ sum_below (row_stride shapes) (row_of cell)
cell_y-is shapes (Grid row column) = refl
cell_y-is shapes Lower = refl

pub row_least : (cell : Cell) → IsInGrid cell → row_of cell ≤ 3
row_least (Grid row column) h = omega arith
row_least Lower h = omega arith

-- each row of the grid is above the lower one
pub lower_than : (s t : Shape) (row column : ℕ) → s.cell ≡ Grid row column → t.cell ≡ Lower → IsInGrid s.cell → row_of s.cell < row_of t.cell
lower_than s t row column e f inside =
    let own : row_of s.cell ≡ row = ap row_of e in
    let other : row_of t.cell ≡ 3 = ap row_of f in
    let small = subst IsInGrid e inside in
    omega (arith, small.0)

pub few_columns : (s : Shape) (row column : ℕ) → s.cell ≡ Grid row column → IsInGrid s.cell → column < 4
few_columns s row column e inside = let small = subst IsInGrid e inside in omega (arith, small.1)

-- ---- what a view takes
in_own_row : (cell : Cell) → is_in_row (row_of cell) cell ≡ true
in_own_row (Grid row column) = eq-eqb row row refl
in_own_row Lower = refl

pub row_part : (s : Shape) → part_of (Row (row_of s.cell)) s ≡ s.height +ℤ gap
row_part s = ap (λ (b : Bool). if b then s.height +ℤ gap else pos 0) (in_own_row s.cell)

pub column_part : (s : Shape) (row column : ℕ) → s.cell ≡ Grid row column → part_of (Column column) s ≡ s.width +ℤ gap
column_part s row column e = ap (λ (b : Bool). if b then s.width +ℤ gap else pos 0) (ap (is_in_column column) e ∙ eq-eqb column column refl)

pub lower_part : (s : Shape) → s.cell ≡ Lower → lower_part_of s ≡ s.width +ℤ gap
lower_part s e = ap (λ (b : Bool). if b then s.width +ℤ gap else pos 0) (ap is_lower e)

chosen : (b : Bool) (w : ℤ) → pos 0 ≤ℤ w → pos 0 ≤ℤ (if b then w +ℤ gap else pos 0)
chosen true w h = omega (arith, ints)
chosen false w h = omega (arith, ints)

pub lower_part_least : (s : Shape) → pos 0 ≤ℤ s.width → pos 0 ≤ℤ lower_part_of s
lower_part_least s h = chosen (is_lower s.cell) s.width h
