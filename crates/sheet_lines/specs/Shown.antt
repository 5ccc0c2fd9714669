-- Which paths are asked for, if hidden lines are drawn in some views.
use Rattle.std.specs.Prelude.{ℕ, Bool, true, not, ◌||◌, List, map, slice_get, unwrap_or}
use Rattle.sheet_plan.specs.LineKinds.{is_same_mark}
use Rattle.sheet_plan.specs.declared.sheet.Mark.{Mark}
use Rattle.sheet_plan.specs.declared.sheet.Mark.TheVariants.{Dashed}
use Rattle.stroke_paths.specs.declared.path.Path.{Path}

-- a line of a mark is asked for in the view with this number: each is, but for hidden lines where the view doesn't draw them
abbrev pub is_shown : List Bool → ℕ → Mark → Bool
is_shown hidden view mark = not (is_same_mark mark Dashed) || unwrap_or (slice_get hidden view) true

-- which of some paths are asked for
abbrev pub shown_in : List Bool → List Path → List Bool
shown_in hidden paths = map (λ p. is_shown hidden p.view p.mark) paths
