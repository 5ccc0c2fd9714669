-- Which lines a sheet draws.
use Rattle.std.specs.Prelude.{◌≡◌, Bool, List}
use Rattle.covered_paths.specs.Drawn.{AreBeneath, AreDrawn}
use Rattle.sheet_plan.specs.declared.sheet.Stroke.{Stroke}
use Rattle.stroke_paths.specs.declared.path.Path.{Path}
use Rattle.sheet_lines.specs.Kept.{as_many, kept, without}
use Rattle.sheet_lines.specs.Shown.{shown_in}
use Rattle.sheet_lines.specs.Ways.{drawn_strokes}
use Rattle.sheet_lines.specs.declared.lines.SheetLines.{SheetLines}

-- These are the lines of a sheet whose picture has these paths, if hidden lines are drawn in the views of which `hidden` says so: the paths
-- that are asked for and not covered; the strokes that are asked for, but for hidden ones that a covered path passes; and how many
-- paths are covered. Each point of a covered path is within 0.35 mm of one visible path of its view that is
-- drawn, or within 0.25 mm of a hidden one.
pub record AreLines (hidden : List Bool) (strokes : List Stroke) (paths : List Path) (lines : SheetLines) : Type 0 where
  pub drawn : List Bool
  pub are_drawn : AreDrawn paths (shown_in hidden paths) drawn
  pub are_beneath : AreBeneath paths (shown_in hidden paths) drawn
  pub paths_are : lines.paths.items ≡ kept drawn paths
  pub strokes_are : lines.strokes.items ≡ drawn_strokes hidden (kept (without (shown_in hidden paths) drawn) paths) strokes
  pub covered_is : lines.covered ≡ as_many (without (shown_in hidden paths) drawn)
