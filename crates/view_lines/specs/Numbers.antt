-- The numbers of a view, and their sums.
use Rattle.std.specs.Prelude.{◌≡◌, ◌≤◌, ◌<◌, ◌+◌, ◌*◌, ℕ, length, min, max}
use Rattle.cut_count.specs.Bounds.{IsCutBound}
use Rattle.cut_plane.specs.Loops.{AreBorders}
use Rattle.cut_plane.specs.declared.loops.Section as sections
use Rattle.edge_pick.specs.Picked.{IsPicked}
use Rattle.edge_pick.specs.declared.Picked.{Picked}
use Rattle.geometry.specs.Parts.{Part}
use Rattle.lattice.specs.Creases.{fraction_of}
use Rattle.lattice.specs.Cuts.{Plane, plane_of, toward_of}
use Rattle.lattice.specs.Points.{of_dir}
use Rattle.lattice.specs.Triple.{Triple}
use Rattle.lattice.specs.declared.pieces.Crease.{Crease}
use Rattle.lattice.specs.declared.pieces.ViewSpec.{ViewSpec}
use Rattle.lattice.specs.declared.pieces.ViewSpec.TheVariants.{Plain, Section}
use Rattle.out_grid.specs.Bounds.{IsCellBound}
use Rattle.solid_mesh.specs.Solids.{solid_part, edge_halves}
use Rattle.solid_mesh.specs.declared.solid.Solid.{Solid}
use Rattle.span_count.specs.Bounds.{IsRunCount, IsBound}
use Rattle.view_lines.specs.declared.numbers.ViewNumbers.{ViewNumbers}

abbrev pub no_numbers : ViewNumbers
no_numbers = record { edges = 0; runs = 0; bound = 0; tests = 0; cut_bound = 0; cut_tests = 0; cell_bound = 0; cells = 0 }

abbrev pub plus : ViewNumbers → ViewNumbers → ViewNumbers
plus m n = record {
  edges = m.edges + n.edges;
  runs = m.runs + n.runs;
  bound = m.bound + n.bound;
  tests = m.tests + n.tests;
  cut_bound = m.cut_bound + n.cut_bound;
  cut_tests = m.cut_tests + n.cut_tests;
  cell_bound = m.cell_bound + n.cell_bound;
  cells = m.cells + n.cells;
}

-- a grid for so many outlines has as many columns as the whole square root of their number, but at least 1 and at most 256
pub record IsGridSize (outlines columns : ℕ) : Type 0 where
  pub root : ℕ
  pub square_at_most : root * root ≤ outlines
  pub next_square_above : outlines < (root + 1) * (root + 1)
  pub columns_are : columns ≡ max 1 (min root 256)

-- the bound of the cells of a grid as large as the outlines ask
abbrev pub IsGridBound : Triple → Solid → Picked → ℕ → Type 0
IsGridBound d solid picked bound =
    (columns : ℕ) × IsGridSize (length picked.outlines.items) columns × IsCellBound d (solid_part solid) (edge_halves solid) picked columns bound

-- of a plain view: how many edges are drawn, how many runs they are, the bound of the tests, and that of the cells; nothing is cut
pub record CountsPicked (d : Triple) (solid : Solid) (picked : Picked) (n : ViewNumbers) : Type 0 where
  pub edges : n.edges ≡ length picked.drawn.items
  pub runs : IsRunCount picked.runs.items n.runs
  pub bound : IsBound (solid_part solid) (edge_halves solid) picked n.bound
  pub cut_bound : n.cut_bound ≡ 0
  pub cell_bound : IsGridBound d solid picked n.cell_bound

-- of the view of a cut: the bound of the tests, with that of the section, and that of the cells; what is said of plain views is 0
pub record CountsCut (c : Plane) (solid : Solid) (section : sections.Section) (picked : Picked) (n : ViewNumbers) : Type 0 where
  pub edges : n.edges ≡ 0
  pub runs : n.runs ≡ 0
  pub bound : n.bound ≡ 0
  pub cut_bound : IsCutBound (solid_part solid) section picked n.cut_bound
  pub cell_bound : IsGridBound (toward_of c) solid picked n.cell_bound

-- the section has the borders that the plane cuts of the part
abbrev pub IsSectionOf : Plane → Part → sections.Section → Type 0
IsSectionOf c s section = (plane_of section.cut ≡ c) × AreBorders c s section.segments.items section.loops.items

-- the numbers of what a view shows, with what is picked for it, and the section of a cut
abbrev pub CountsView : Solid → Crease → ViewSpec → ViewNumbers → Type 0
CountsView solid crease (Plain d) n =
    (picked : Picked) × IsPicked (of_dir d) (fraction_of crease) (solid_part solid) (edge_halves solid) picked × CountsPicked (of_dir d) solid picked n
CountsView solid crease (Section c) n =
    (section : sections.Section) × IsSectionOf (plane_of c) (solid_part solid) section
    × (picked : Picked) × IsPicked (toward_of (plane_of c)) (fraction_of crease) (solid_part solid) (edge_halves solid) picked × CountsCut (plane_of c) solid section picked n

-- each of them is below a limit
pub record AreBelow (limit : ℕ) (n : ViewNumbers) : Type 0 where
  pub edges : n.edges < limit
  pub runs : n.runs < limit
  pub bound : n.bound < limit
  pub tests : n.tests < limit
  pub cut_bound : n.cut_bound < limit
  pub cut_tests : n.cut_tests < limit
  pub cell_bound : n.cell_bound < limit
  pub cells : n.cells < limit
