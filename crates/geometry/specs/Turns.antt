-- Turns about a corner in the view, from one edge at it to another, and what an outline changes of a count there.
use Rattle.std.specs.Prelude.{◌≢◌, ◌⊎◌, ℕ, ℤ, pos, ◌+ℤ◌, ◌-ℤ◌, ◌*ℤ◌, ◌<ℤ◌, Bool, true, false}
use Rattle.lattice.specs.declared.points.Corner.{Corner}
use Rattle.lattice.specs.Triple.{Triple}
use Rattle.lattice.specs.Points.{Point, point_of, across_of, upward_of, OnOneSight, IsNearer}
use Rattle.geometry.specs.Faces.{IsPointOfEdge}
use Rattle.geometry.specs.Parts.{Part, Edge}
use Rattle.geometry.specs.Views.{face_sign}
use Rattle.geometry.specs.Counts.{Side, to_left, to_right}
use Rattle.geometry.specs.Covers.{IsOneWhere}

-- ---- ways
-- a direction of the view
pub record Way : Type 0 where
  pub u : ℤ
  pub v : ℤ

-- positive where y is to the left of x
abbrev pub turn_from : Way → Way → ℤ
turn_from x y = (x.u *ℤ y.v) -ℤ (x.v *ℤ y.u)

abbrev pub product_of : Way → Way → ℤ
product_of x y = (x.u *ℤ y.u) +ℤ (x.v *ℤ y.v)

-- turning counterclockwise from x to y, less than once around, one passes w: at least two of the three turns are to the left
abbrev pub Passes : Way → Way → Way → Type 0
Passes x w y =
    ((pos 0 <ℤ turn_from x w) × (pos 0 <ℤ turn_from w y)) ⊎ ((pos 0 <ℤ turn_from w y) × (pos 0 <ℤ turn_from y x)) ⊎ ((pos 0 <ℤ turn_from y x) × (pos 0 <ℤ turn_from x w))

-- the way x, perturbed to that side by 1 / h of its length
abbrev pub perturbed : Side → ℤ → Way → Way
perturbed to_left h x = record { u = (h *ℤ x.u) -ℤ x.v; v = (h *ℤ x.v) +ℤ x.u }
perturbed to_right h x = record { u = (h *ℤ x.u) +ℤ x.v; v = (h *ℤ x.v) -ℤ x.u }

-- the turn from x, perturbed to the side k, to y, perturbed to the side l, passes w for every perturbation that is small enough
abbrev pub TurnPasses : Side → Way → Side → Way → Way → Type 0
TurnPasses k x l y w = (least : ℤ) × ((h : ℤ) → least <ℤ h → Passes (perturbed k h x) w (perturbed l h y))

-- ---- ends of edges
-- the way in the view from a corner to another
abbrev pub way_to : Triple → Corner → Corner → Way
way_to d p q = record { u = across_of d (point_of q) -ℤ across_of d (point_of p); v = upward_of d (point_of q) -ℤ upward_of d (point_of p) }

-- the corner at an end of an edge, its number, and the way along the edge from there
abbrev pub corner_at : {s : Part} → Edge s → Bool → Corner
corner_at e false = e.a
corner_at e true = e.b

abbrev pub number_at : {s : Part} → Edge s → Bool → ℕ
number_at e false = e.m
number_at e true = e.n

abbrev pub way_from : Triple → {s : Part} → Edge s → Bool → Way
way_from d e false = way_to d e.a e.b
way_from d e true = way_to d e.b e.a

-- left and right are those along an edge from its first end; seen from its second end they are exchanged
abbrev pub other_side : Side → Side
other_side to_left = to_right
other_side to_right = to_left

abbrev pub side_from : Bool → Side → Side
side_from false k = k
side_from true k = other_side k

-- ---- the share of an outline
-- the outline does not have the corner c with this number, and some point of it is strictly nearer on c's line of sight
pub record IsNearerOver (d : Triple) (number : ℕ) (c : Corner) {s : Part} (o : Edge s) : Type 0 where
  pub not_first : o.m ≢ number
  pub not_second : o.n ≢ number
  pub point : Point
  pub on_outline : IsPointOfEdge o.a o.b point
  pub same_sight : OnOneSight d point (point_of c)
  pub nearer : IsNearer d point (point_of c)

-- the turn about c passes the way to p, which is not on c's line of sight
abbrev pub PassesEnd : Triple → Corner → Side → Way → Side → Way → Corner → Type 0
PassesEnd d c k x l y p = (¬ OnOneSight d (point_of c) (point_of p)) × TurnPasses k x l y (way_to d c p)

-- what the outline changes of a count by the turn about c, from x, perturbed to the side k, to y, perturbed to the side l
pub data HasTurned (d : Triple) (number : ℕ) (c : Corner) (k : Side) (x : Way) (l : Side) (y : Way) {s : Part} (o : Edge s) : ℤ → Type 0 where
  over : IsNearerOver d number c o → (first second : ℕ) → IsOneWhere (PassesEnd d c k x l y o.a) first → IsOneWhere (PassesEnd d c k x l y o.b) second
      → HasTurned d number c k x l y o ((face_sign d o.left -ℤ face_sign d o.right) *ℤ (pos second -ℤ pos first))
  not_over : ¬ IsNearerOver d number c o → HasTurned d number c k x l y o (pos 0)

-- what the outline changes of a count about the corner of e, from the end of e there to the end of e', which is at that corner where this is asked
abbrev pub HasTurnedAt : Side → Triple → {s : Part} → Edge s → Bool → Edge s → Bool → Edge s → ℤ → Type 0
HasTurnedAt k d e at_b e' at_b' o z = HasTurned d (number_at e at_b) (corner_at e at_b) (side_from at_b k) (way_from d e at_b) (side_from at_b' k) (way_from d e' at_b') o z
