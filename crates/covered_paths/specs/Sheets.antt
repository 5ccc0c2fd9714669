-- The lines of a sheet: its paths that may be left out, or may cover others.
use Rattle.std.specs.Prelude.{ℕ, ◌+◌, Bool, true, false, ◌&&◌, cond, ℤ, pos, List, [], ◌∷◌, ◌++◌, map}
use Rattle.std.specs.List.{list_all}
use Rattle.sheet_plan.specs.declared.sheet.Mark.{Mark}
use Rattle.sheet_plan.specs.declared.sheet.Mark.TheVariants.{Solid, Dashed, Chain, Hatch}
use Rattle.stroke_paths.specs.declared.path.Path.{Path}
use Rattle.stroke_paths.specs.declared.path.Point.{Point}
use Rattle.covered_paths.specs.Covering.{is_one}
use Rattle.covered_paths.specs.Numbers.{at_most}
use Rattle.covered_paths.specs.declared.legs.Leg.{Leg}
use Rattle.covered_paths.specs.declared.line.Line.{Line}

-- ---- which paths are lines
-- a point is on the largest sheet
unfoldable pub is_in_range : ℤ → Bool
is_in_range z = at_most (pos 0) z && at_most z (pos 131072)

unfoldable pub is_on_sheet : Point → Bool
is_on_sheet p = is_in_range p.x && is_in_range p.y

-- visible and hidden paths are lines
abbrev pub is_outline : Mark → Bool
is_outline Solid = true
is_outline Dashed = true
is_outline Chain = false
is_outline Hatch = false

abbrev pub is_hidden : Mark → Bool
is_hidden Solid = false
is_hidden Dashed = true
is_hidden Chain = false
is_hidden Hatch = false

-- if they are shown, and each of their points is on the largest sheet
unfoldable pub is_line : Path → Bool → Bool
is_line p shown = shown && (is_outline p.mark && list_all is_on_sheet p.points.items)

-- ---- the ends of their legs
pub record Ends : Type 0 where
  pub x1 : ℤ
  pub y1 : ℤ
  pub x2 : ℤ
  pub y2 : ℤ

abbrev pub ends_of : Leg → Ends
ends_of s = record { x1 = s.x1; y1 = s.y1; x2 = s.x2; y2 = s.y2 }

-- from one point to another, if they aren't one
abbrev pub ends_between : Point → Point → List Ends
ends_between p q = cond (is_one p.x p.y q.x q.y) [] (record { x1 = p.x; y1 = p.y; x2 = q.x; y2 = q.y } ∷ [])

-- from a point through others, and then, if the path is closed, to its first point
abbrev pub ends_through : Bool → Point → Point → List Point → List Ends
ends_through closed first from [] = cond closed (ends_between from first) []
ends_through closed first from (to ∷ rest) = ends_between from to ++ ends_through closed first to rest

-- those of a path, from each point to the next
abbrev pub ends_along : Bool → List Point → List Ends
ends_along closed [] = []
ends_along closed (p ∷ rest) = ends_through closed p p rest

-- ---- the lines
-- what makes a line
pub record Sketch : Type 0 where
  pub number : ℕ
  pub view : ℕ
  pub hidden : Bool
  pub ends : List Ends

abbrev pub sketch_of : Line → Sketch
sketch_of l = record { number = l.number; view = l.view; hidden = l.hidden; ends = map ends_of l.legs.items }

-- a path's line has the path's number
abbrev pub sketch_path : ℕ → Path → Sketch
sketch_path n p = record { number = n; view = p.view; hidden = is_hidden p.mark; ends = ends_along p.closed p.points.items }

-- the lines of paths, of which these are shown; n is the number of the first
abbrev pub sketches : ℕ → List Path → List Bool → List Sketch
sketches n [] shown = []
sketches n (p ∷ ps) [] = []
sketches n (p ∷ ps) (b ∷ bs) = cond (is_line p b) (sketch_path n p ∷ []) [] ++ sketches (n + 1) ps bs
