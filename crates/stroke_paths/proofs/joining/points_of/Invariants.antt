use Rattle.std.proofs.Common.{◌≡◌, Some, map, take}
use Rattle.stroke_paths.specs.Paths.{point_at}
use Rattle.stroke_paths.specs.Routes.{first_end}
use Rattle.stroke_paths.proofs.joining.points_of.Given as goal

-- the points at which the steps so far begin
abbrev pub invariant-loop-step : goal.invariant-loop-step
invariant-loop-step l = map Some l.points.items ≡ map (λ s. point_at l.strokes (first_end s)) (take l.step-index l.passed.steps.items)
