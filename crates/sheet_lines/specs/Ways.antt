-- The ways that paths take from point to point, and the strokes that take one of them.
use Rattle.std.specs.Prelude.{ℕ, Bool, true, false, not, ◌&&◌, ◌||◌, List, [], ◌∷◌, map, nat_eq}
use Rattle.std.specs.List.{flat_map, list_any}
use Rattle.std.specs.Ordering.{int_eq}
use Rattle.sheet_plan.specs.LineKinds.{is_same_mark}
use Rattle.sheet_plan.specs.declared.sheet.Mark.TheVariants.{Dashed}
use Rattle.sheet_plan.specs.declared.sheet.Stroke.{Stroke}
use Rattle.stroke_paths.specs.declared.path.Path.{Path}
use Rattle.stroke_paths.specs.declared.path.Point.{Point}
use Rattle.sheet_lines.specs.Shown.{is_shown}
use Rattle.sheet_lines.specs.declared.ways.Way.{Way}

-- ---- the ways of paths
-- the way from one point to another
abbrev pub way_between : ℕ → Point → Point → Way
way_between view p q = record { view = view; x1 = p.x; y1 = p.y; x2 = q.x; y2 = q.y }

-- those from a point through others
abbrev pub through : ℕ → Point → List Point → List Way
through view p [] = []
through view p (q ∷ rest) = way_between view p q ∷ through view q rest

-- the last of a point and others
abbrev pub last_of : Point → List Point → Point
last_of p [] = p
last_of p (q ∷ rest) = last_of q rest

-- those of a path; a closed one has a way from its last point to its first
abbrev pub along : ℕ → Bool → List Point → List Way
along view closed [] = []
along view false (p ∷ rest) = through view p rest
along view true (p ∷ rest) = through view (last_of p rest) (p ∷ rest)

-- those of some paths
abbrev pub ways_of : List Path → List Way
ways_of paths = flat_map (λ p. along p.view p.closed p.points.items) paths

-- ---- strokes
-- the way of a stroke from its first end to its second, and back
abbrev pub way_of : Stroke → Way
way_of s = record { view = s.view; x1 = s.x1; y1 = s.y1; x2 = s.x2; y2 = s.y2 }

abbrev pub way_back : Stroke → Way
way_back s = record { view = s.view; x1 = s.x2; y1 = s.y2; x2 = s.x1; y2 = s.y1 }

-- two ways are one
abbrev pub same_way : Way → Way → Bool
same_way v w = nat_eq v.view w.view && (int_eq v.x1 w.x1 && (int_eq v.y1 w.y1 && (int_eq v.x2 w.x2 && int_eq v.y2 w.y2)))

-- one of these ways is that of the stroke, there or back
abbrev pub is_passed : List Way → Stroke → Bool
is_passed ways s = list_any (λ w. same_way w (way_of s)) ways || list_any (λ w. same_way w (way_back s)) ways

-- a stroke is drawn if it is asked for, and is no hidden one that takes one of these ways
abbrev pub is_drawn : List Bool → List Way → Stroke → Bool
is_drawn hidden ways s = not (is_same_mark s.mark Dashed && is_passed ways s) && is_shown hidden s.view s.mark

-- which strokes are drawn, if these paths are left out
abbrev pub drawn_strokes : List Bool → List Path → List Stroke → List Bool
drawn_strokes hidden out strokes = map (is_drawn hidden (ways_of out)) strokes
