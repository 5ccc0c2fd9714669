-- Which lines of a sheet are drawn: of those that are hidden, the ones that lie within no other that is drawn.
use Rattle.std.specs.Prelude.{◌≡◌, ◌⊎◌, ℕ, ◌-◌, ◌==◌, nat_lt, Bool, true, false, ◌&&◌, ◌||◌, not, cond, ℤ, pos, List, [], ◌∷◌, ◌++◌, length, map, Some, slice_get}
use Rattle.std.specs.List.{list_any}
use Rattle.std.specs.List.Sorted.{IsNonDecreasingBy, IsPermutation}
use Rattle.sheet_plan.specs.declared.sheet.Mark.TheVariants.{Dashed}
use Rattle.stroke_paths.specs.declared.path.Path.{Path}
use Rattle.covered_paths.specs.Covering.{covers}
use Rattle.covered_paths.specs.Points.{EachLeg, EachPointNear}
use Rattle.covered_paths.specs.Places.{place_of}
use Rattle.covered_paths.specs.Sheets.{ends_along, ends_of, is_hidden, is_line, is_outline, sketch_of, sketches}
use Rattle.covered_paths.specs.Within.{is_within}
use Rattle.covered_paths.specs.declared.line.Line.{Line}
use Rattle.covered_paths.specs.declared.legs.Leg.{Leg}

-- ---- what covers a line
-- a line lies within 0.35 mm of a visible line, and within 0.25 mm of a hidden one
abbrev pub far_of : Line → ℤ
far_of m = cond m.hidden (pos 25) (pos 35)

-- the first point of some legs is within the distance of others
unfoldable pub starts_near : ℤ → List Leg → List Leg → Bool
starts_near far others [] = false
starts_near far others (s ∷ ss) = list_any (is_within far s (record { part = pos 0; whole = pos 1 })) others

-- a line of the same view comes near the first point of a line
unfoldable pub comes_near : Line → Line → Bool
comes_near l m = (m.view == l.view) && starts_near (far_of m) m.legs.items l.legs.items

-- one of the first so many that come near it covers the line
unfoldable pub is_covered_among : ℕ → Line → List Line → Bool
is_covered_among n l [] = false
is_covered_among n l (m ∷ ms) = cond (n == 0) false (cond (comes_near l m) (covers (far_of m) m.legs.items l.legs.items || is_covered_among (n - 1) l ms) (is_covered_among n l ms))

-- a hidden line of at most 1000 legs is left out if one of the first eight of those that are drawn does so, and these are at most 20,000
unfoldable pub is_left_out : List Line → Line → Bool
is_left_out drawn l = l.hidden && (not (nat_lt 1000 (length l.legs.items)) && (not (nat_lt 20000 (length drawn)) && is_covered_among 8 l drawn))

-- ---- which are drawn
-- after those that are drawn so far, the next ones that aren't left out
abbrev pub drawn_after : List Line → List Line → List Line
drawn_after drawn [] = drawn
drawn_after drawn (l ∷ ls) = drawn_after (cond (is_left_out drawn l) drawn (drawn ++ l ∷ [])) ls

-- the lines of paths of which some are shown, in the order of their places
pub record AreLines (paths : List Path) (shown : List Bool) (lines : List Line) : Type 0 where
  pub same : IsPermutation (sketches 0 paths shown) (map sketch_of lines)
  pub order : IsNonDecreasingBy (λ (l : Line). place_of l.number l.hidden l.legs.items) lines

-- a path with this number is drawn if it is shown and no line, or if its line is one of these
abbrev pub is_drawn : List Line → ℕ → Path → Bool → Bool
is_drawn drawn n p shown = cond (is_line p shown) (list_any (λ (l : Line). l.number == n) drawn) shown

pub record AreDrawn (paths : List Path) (shown drawn : List Bool) : Type 0 where
  pub lines : List Line
  pub are : AreLines paths shown lines
  pub as_many : length drawn ≡ length paths
  pub each : (n : ℕ) (p : Path) (b : Bool) → slice_get paths n ≡ Some p → slice_get shown n ≡ Some b → slice_get drawn n ≡ Some (is_drawn (drawn_after [] lines) n p b)

-- ---- what that says of lines
-- one of some lines, and each of them
abbrev pub SomeLine : (Line → Type 0) → List Line → Type 0
SomeLine P [] = ⊥
SomeLine P (m ∷ ms) = P m ⊎ SomeLine P ms

abbrev pub EachLine : (Line → Type 0) → List Line → Type 0
EachLine P [] = Unit {0}
EachLine P (l ∷ ls) = P l × EachLine P ls

-- each point of a hidden line is within the distance of a point of another line of its view
pub record LiesWithin (l m : Line) : Type 0 where
  pub hidden : l.hidden ≡ true
  pub view : m.view ≡ l.view
  pub near : EachLeg (EachPointNear (far_of m) m.legs.items) l.legs.items

-- a line is drawn, or lies within one that is drawn
abbrev pub IsSeen : List Line → Line → Type 0
IsSeen drawn l = SomeLine (λ m. m ≡ l) drawn ⊎ SomeLine (LiesWithin l) drawn

-- ---- what it says of paths
-- these are the legs of a path
abbrev pub AreLegs : Path → List Leg → Type 0
AreLegs p legs = map ends_of legs ≡ ends_along p.closed p.points.items

-- each point of a hidden path is within 0.35 mm of a visible path of its view, or within 0.25 mm of a hidden one, which is shown and drawn
pub record IsBeneath (paths : List Path) (shown drawn : List Bool) (p : Path) : Type 0 where
  pub hidden : p.mark ≡ Dashed
  pub number : ℕ
  pub other : Path
  pub listed : slice_get paths number ≡ Some other
  pub other_shown : slice_get shown number ≡ Some true
  pub other_drawn : slice_get drawn number ≡ Some true
  pub view : other.view ≡ p.view
  pub outline : is_outline other.mark ≡ true
  pub legs : List Leg
  pub others : List Leg
  pub are_legs : AreLegs p legs
  pub are_others : AreLegs other others
  pub near : EachLeg (EachPointNear (cond (is_hidden other.mark) (pos 25) (pos 35)) others) legs

-- each path that is shown, and not drawn, lies so
abbrev pub AreBeneath : List Path → List Bool → List Bool → Type 0
AreBeneath paths shown drawn = (n : ℕ) (p : Path) → slice_get paths n ≡ Some p → slice_get shown n ≡ Some true → slice_get drawn n ≡ Some false → IsBeneath paths shown drawn p
