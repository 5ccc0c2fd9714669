-- What the plane leaves of a triangle next to an end of an edge, in the code's terms.
use Rattle.std.specs.Prelude.{◌⊎◌, ℤ, pos, ◌+ℤ◌, ◌*ℤ◌, ◌<ℤ◌, unsigned_abs, cond, Bool, true, false}
use Rattle.std.specs.Int.Signed.{lt_z}
use Rattle.lattice.specs.declared.points.Corner.{Corner}
use Rattle.lattice.specs.Cuts.{Plane, toward_of}
use Rattle.lattice.specs.Points.{point_of}
use Rattle.geometry.specs.Faces.{facing_of}
use Rattle.hiding_laws.specs.CutValues.{under_of}
use Rattle.geometry.specs.Counts.{Side, to_left, to_right}
use Rattle.cross_find.specs.Ends.{IsNotBelow}
use Rattle.cut_count.specs.declared.placed.Placed.{Placed}

-- The point of the plane of a, b and c over the edge from o to q is next to o beyond the plane of the cut or on it: by the corners as they
-- are seen counterclockwise
abbrev pub IsRestNext : Plane → Corner → Corner → Corner → Corner → Corner → Type 0
IsRestNext x a b c o q =
    ((pos 0 <ℤ facing_of (toward_of x) a b c) × IsNotBelow (under_of x a b c (point_of o)) (under_of x a b c (point_of q)))
    ⊎ ((¬ (pos 0 <ℤ facing_of (toward_of x) a b c)) × IsNotBelow (under_of x a c b (point_of o)) (under_of x a c b (point_of q)))

-- from the first corner p on, or from the second corner q on
abbrev pub IsRestNextAt : Bool → Plane → Corner → Corner → Corner → Corner → Corner → Type 0
IsRestNextAt false x a b c p q = IsRestNext x a b c p q
IsRestNextAt true x a b c p q = IsRestNext x a b c q p

-- where the end of what is left of the way from k to l on the side of k is seen, times a positive number
abbrev pub end_turn : Placed → Placed → ℤ
end_turn k l = cond (lt_z k.over (pos 0)) k.turn ((pos (unsigned_abs l.over) *ℤ k.turn) +ℤ (pos (unsigned_abs k.over) *ℤ l.turn))

-- strictly to that side
abbrev pub IsTo : Side → ℤ → Type 0
IsTo to_left z = pos 0 <ℤ z
IsTo to_right z = z <ℤ pos 0

-- something is left of the side from x to y, and one of the two ends of that is seen strictly on that side
pub record SideReaches (k : Side) (x y : Placed) : Type 0 where
  pub left : (x.over <ℤ pos 0) ⊎ (y.over <ℤ pos 0)
  pub reaches : IsTo k (end_turn x y) ⊎ IsTo k (end_turn y x)
