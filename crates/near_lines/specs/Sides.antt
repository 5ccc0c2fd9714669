-- The sides of visible paths.
use Rattle.std.specs.Prelude.{◌≡◌, ℕ, ◌≤◌, ◌&&◌, ◌==◌, if◌then◌else◌, min, ℤ, pos, negsuc, Bool, true, false, List, [], ◌∷◌}
use Rattle.near_lines.specs.declared.sides.Side.{Side}
use Rattle.sheet_plan.specs.declared.sheet.Mark.{Mark}
use Rattle.sheet_plan.specs.declared.sheet.Mark.TheVariants.{Solid, Dashed, Chain, Hatch}
use Rattle.stroke_paths.specs.declared.path.Path.{Path}
use Rattle.stroke_paths.specs.declared.path.Point.{Point}

-- a place on the largest sheet; one beyond it counts as at its edge
abbrev pub on_sheet : ℤ → ℕ
on_sheet (pos n) = min n 118900
on_sheet (negsuc n) = 0

-- the side from one point to another, of the path with this number
abbrev pub side_between : ℕ → Point → Point → Side
side_between path p q = record { path = path; x1 = on_sheet p.x; y1 = on_sheet p.y; x2 = on_sheet q.x; y2 = on_sheet q.y }

-- those from a point through others
abbrev pub through : ℕ → Point → List Point → List Side
through path p [] = []
through path p (q ∷ rest) = side_between path p q ∷ through path q rest

-- the last of a point and others
abbrev pub last_of : Point → List Point → Point
last_of p [] = p
last_of p (q ∷ rest) = last_of q rest

-- those of a path; a closed one has a side from its last point to its first
abbrev pub along : ℕ → Bool → List Point → List Side
along path closed [] = []
along path false (p ∷ rest) = through path p rest
along path true (p ∷ rest) = through path (last_of p rest) (p ∷ rest)

abbrev pub is_visible : Mark → Bool
is_visible Solid = true
is_visible Dashed = false
is_visible Chain = false
is_visible Hatch = false

-- those of a visible path of this view; of any other there are none
abbrev pub sides_in : ℕ → ℕ → Path → List Side
sides_in view number path = if (path.view == view) && is_visible path.mark then along number path.closed path.points.items else []

-- it is on the largest sheet
pub record IsSmall (s : Side) : Type 0 where
  pub x1 : s.x1 ≤ 118900
  pub y1 : s.y1 ≤ 118900
  pub x2 : s.x2 ≤ 118900
  pub y2 : s.y2 ≤ 118900
