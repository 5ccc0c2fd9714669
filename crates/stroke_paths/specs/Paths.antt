-- The paths of strokes: their routes, as points.
use Rattle.std.specs.Prelude.{◌≡◌, ℕ, Bool, true, false, List, [], ◌∷◌, map, All, Option, Some, IsSomeAnd, option_map, slice_get}
use Rattle.std.specs.List.{AllZip}
use Rattle.sheet_plan.specs.declared.sheet.Mark.{Mark}
use Rattle.sheet_plan.specs.declared.sheet.Stroke.{Stroke}
use Rattle.stroke_paths.specs.Joints.{point_of}
use Rattle.stroke_paths.specs.Routes.{Route, AreRoutes, first_end, last_end, steps_of}
use Rattle.stroke_paths.specs.declared.path.End.{End}
use Rattle.stroke_paths.specs.declared.path.Path.{Path}
use Rattle.stroke_paths.specs.declared.path.Point.{Point}
use Rattle.stroke_paths.specs.declared.path.Step.{Step}

-- the ends at which steps begin, and where the route isn't closed, the end at which the last one ends
abbrev pub ends_from : Bool → Step → List Step → List End
ends_from true s [] = first_end s ∷ []
ends_from false s [] = first_end s ∷ last_end s ∷ []
ends_from closed s (t ∷ rest) = first_end s ∷ ends_from closed t rest

abbrev pub point_at : List Stroke → End → Option Point
point_at strokes e = option_map (point_of e.tip) (slice_get strokes e.stroke)

-- the stroke at this place is of this view and mark
abbrev pub IsOf : List Stroke → ℕ → Mark → ℕ → Type 0
IsOf strokes view mark i = IsSomeAnd (slice_get strokes i) (λ s. (s.view ≡ view) × (s.mark ≡ mark))

-- the path of a route
pub record IsPathOf (strokes : List Stroke) (r : Route) (path : Path) : Type 0 where
  pub marked : All (λ s. IsOf strokes path.view path.mark s.stroke) (steps_of r)
  pub closed : path.closed ≡ r.closed
  pub points : map Some path.points.items ≡ map (point_at strokes) (ends_from r.closed r.first r.rest)

-- the paths of strokes, in their order
abbrev pub ArePaths : List Stroke → List Path → Type 0
ArePaths strokes paths = (routes : List Route) × AreRoutes strokes routes × AllZip (IsPathOf strokes) routes paths

-- what is seen of a path
pub record PathSeen : Type 0 where
  pub view : ℕ
  pub mark : Mark
  pub closed : Bool
  pub points : List Point

abbrev pub path_seen : Path → PathSeen
path_seen path = record { view = path.view; mark = path.mark; closed = path.closed; points = path.points.items }
