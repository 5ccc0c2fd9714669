-- The corners and triangles that are left of a raw part once equal corners are one.
use Rattle.std.specs.Prelude.{◌≡◌, ◌≢◌, ℕ, ◌<◌, pos, Bool, not, ◌&&◌, List, [], ◌∷◌, length, map, filter, take, get_or, slice_get, Some, Contains, All, AllPairs}
use Rattle.std.specs.List.{flat_map}
use Rattle.std.specs.Ordering.{int_eq}
use Rattle.lattice.specs.declared.points.Corner.{Corner}
use Rattle.lattice.specs.declared.soup.Tri.{Tri}
use Rattle.lattice.specs.Points.{of_corner}
use Rattle.lattice.specs.Triangles.{IsBelow}
use Rattle.lattice.specs.Triple.{Triple}
use Rattle.weld.specs.Raw.{Raw}

-- ---- triangles by the places of their corners
-- the vertex with a number that is in range
abbrev pub vertex_at : List Triple → ℕ → Triple
vertex_at vertices i = get_or vertices i (record { x = pos 0; y = pos 0; z = pos 0 })

abbrev pub placed : List Triple → Tri → Triple × Triple × Triple
placed vertices t = (vertex_at vertices t.a, vertex_at vertices t.b, vertex_at vertices t.c)

abbrev pub is_one_place : Triple → Triple → Bool
is_one_place p q = int_eq p.x q.x && int_eq p.y q.y && int_eq p.z q.z

abbrev pub are_different : Triple × Triple × Triple → Bool
are_different t = not (is_one_place t.0 t.1) && not (is_one_place t.1 t.2) && not (is_one_place t.2 t.0)

-- the triangles with three different places, in order
abbrev pub proper_of : Raw → List (Triple × Triple × Triple)
proper_of raw = filter are_different (map (placed raw.vertices) raw.triangles)

-- ---- what is left
-- the corner numbers of triangles, one after the other
abbrev pub numbers_of : List Tri → List ℕ
numbers_of triangles = flat_map (λ t. t.a ∷ t.b ∷ t.c ∷ []) triangles

pub record IsWeldOf (raw : Raw) (corners : List Corner) (triangles : List Tri) : Type 0 where
  -- each number is that of a corner
  pub in_range : All (IsBelow (length corners)) triangles
  -- the triangles with three different places, in order
  pub proper : map (placed (map of_corner corners)) triangles ≡ proper_of raw
  -- no two corners are at one place
  pub distinct : AllPairs (λ c d. of_corner c ≢ of_corner d) corners
  -- each corner is used, and only once all corners before it were: they stand in the order of their first use
  pub used : (i : ℕ) → i < length corners → Contains (numbers_of triangles) i
  pub in_order : (place j i : ℕ) → slice_get (numbers_of triangles) place ≡ Some j → i < j → Contains (take place (numbers_of triangles)) i
