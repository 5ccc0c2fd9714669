-- What a view shows of a solid.
use Rattle.std.specs.Prelude.{◌≡◌, ℕ, List}
use Rattle.lattice.specs.Creases.{fraction_of}
use Rattle.lattice.specs.Cuts.{Plane, plane_of}
use Rattle.lattice.specs.Points.{of_dir}
use Rattle.lattice.specs.declared.pieces.Crease.{Crease}
use Rattle.lattice.specs.declared.pieces.ViewSpec.{ViewSpec}
use Rattle.lattice.specs.declared.pieces.ViewSpec.TheVariants.{Plain, Section}
use Rattle.solid_mesh.specs.declared.solid.Solid.{Solid}
use Rattle.solid_mesh.specs.Solids.{solid_part}
use Rattle.span_count.specs.declared.span.EdgeSpans.{EdgeSpans}
use Rattle.drawing_laws.specs.Views.{IsRightView, IsOrderedView, IsHatchedView}
use Rattle.view_lines.specs.Counts.{AreCountsAlong, AreCountsBeyond}
use Rattle.view_lines.specs.declared.view.ViewDrawing.{ViewDrawing}

-- the counts of what the view shows: those along the drawn edges of the whole part, or of what a cut leaves of it
abbrev pub IsCountedView : ViewSpec → ℕ → Solid → List EdgeSpans → Type 0
IsCountedView (Plain d) fraction solid entries = AreCountsAlong (of_dir d) fraction solid entries
IsCountedView (Section c) fraction solid entries = AreCountsBeyond (plane_of c) fraction solid entries

-- the view shows of the solid what was asked for: its pieces are right for it and the crease, and in order, its hatch lines
-- are so many units apart, and its counts are right
pub record ShowsView (solid : Solid) (crease : Crease) (cuts : List Plane) (spacing : ℕ) (asked : ViewSpec) (view : ViewDrawing) : Type 0 where
  pub spec : view.spec ≡ asked
  pub right : IsRightView asked (fraction_of crease) (solid_part solid) cuts view.pieces.items
  pub order : IsOrderedView asked view.pieces.items
  pub hatched : IsHatchedView asked spacing (solid_part solid) view.hatches.items
  pub counted : IsCountedView asked (fraction_of crease) solid view.counts.items
