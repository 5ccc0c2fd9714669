-- Paths along steps, and the paths so far.
use Rattle.std.specs.Prelude.{◌≡◌, ◌<◌, ℕ, Bool, List, ◌∷◌, All, AllPairs, Some, length, map}
use Rattle.std.specs.List.{AllZip}
use Rattle.sheet_plan.specs.declared.sheet.Stroke.{Stroke}
use Rattle.stroke_paths.specs.declared.joint.Joint.{Joint}
use Rattle.stroke_paths.specs.declared.path.Path.{Path}
use Rattle.stroke_paths.specs.declared.path.Point.{Point}
use Rattle.stroke_paths.specs.declared.path.Step.{Step}
use Rattle.stroke_paths.specs.inner.Walks.{AreApart, AreWhole, IsAmong, IsVisited}
use Rattle.stroke_paths.specs.Joints.{IsKept}
use Rattle.stroke_paths.specs.Paths.{IsOf, IsPathOf, ends_from, point_at}
use Rattle.stroke_paths.specs.Routes.{IsRoute, Route, least_of, strokes_in}

-- the points along some steps
abbrev pub ArePointsAlong : List Stroke → List Step → Bool → List Point → Type 0
ArePointsAlong strokes steps closed points =
    (first : Step) (rest : List Step) → steps ≡ first ∷ rest → map Some points ≡ map (point_at strokes) (ends_from closed first rest)

-- the path along some steps, with the view and the mark of the first stroke
pub record IsPathAlong (strokes : List Stroke) (steps : List Step) (closed : Bool) (path : Path) : Type 0 where
  pub marked : (first : Step) (rest : List Step) → steps ≡ first ∷ rest → IsOf strokes path.view path.mark first.stroke
  pub same : path.closed ≡ closed
  pub points : ArePointsAlong strokes steps closed path.points.items

-- the paths through the strokes below i
pub record ArePathsBelow (strokes : List Stroke) (joints : List Joint) (i : ℕ) (visited : List Bool) (paths : List Path) : Type 0 where
  pub routes : List Route
  pub each : All (IsRoute strokes) routes
  pub once : AreApart (strokes_in routes)
  pub in_order : AllPairs (λ r q. least_of r < least_of q) routes
  pub below : All (λ r. least_of r < i) routes
  pub all : (j : ℕ) → j < i → IsKept strokes j → IsVisited visited j
  pub passed : (j : ℕ) → IsVisited visited j → IsAmong (strokes_in routes) j
  pub visits : (j : ℕ) → IsAmong (strokes_in routes) j → IsVisited visited j
  pub whole : AreWhole joints visited
  pub as_many : length visited ≡ length strokes
  pub drawn : AllZip (IsPathOf strokes) routes paths
