-- The cubes of a sample, and their corners and triangles in order.
use Rattle.std.specs.Prelude.{ℕ, ◌+◌, ◌*◌, ◌<◌, ◌⊎◌, pos, List, [], ◌∷◌, ◌++◌, map, flat_map}
use Rattle.std.specs.List.{range_with_len}
use Rattle.lattice.specs.declared.soup.Tri.{Tri}
use Rattle.lattice.specs.Triple.{Triple}

-- a number of cubes along each axis for which there is no sample
abbrev pub IsOutOfRange : ℕ → Type 0
IsOutOfRange n = (n < 1) ⊎ (8 < n)

-- how many cubes stand before a cube, along each axis
pub record CubePlace : Type 0 where
  pub i : ℕ
  pub j : ℕ
  pub h : ℕ

-- 0, 1, .., n - 1
abbrev pub below : ℕ → List ℕ
below n = range_with_len 0 n

-- n cubes along each axis: h grows first, then j, then i
abbrev pub cubes : ℕ → List CubePlace
cubes n = flat_map (λ i. flat_map (λ j. map (λ h. record { i = i; j = j; h = h }) (below n)) (below n)) (below n)

-- cubes are 20,000 units apart, and 10,000 units long
abbrev pub corner_of : CubePlace → ℕ → ℕ → ℕ → Triple
corner_of p x y z = record {
  x = pos (20000 * p.i + 10000 * x);
  y = pos (20000 * p.j + 10000 * y);
  z = pos (20000 * p.h + 10000 * z);
}

-- in the order in which a cube's triangles use its corners first
abbrev pub cube_corners : CubePlace → List Triple
cube_corners p =
    corner_of p 0 0 0 ∷ corner_of p 0 1 0 ∷ corner_of p 1 1 0 ∷ corner_of p 1 0 0
    ∷ corner_of p 0 0 1 ∷ corner_of p 1 0 1 ∷ corner_of p 1 1 1 ∷ corner_of p 0 1 1 ∷ []

-- the two triangles of a face, from its first corner
abbrev pub face : ℕ → ℕ → ℕ → ℕ → List Tri
face a b c d = record { a = a; b = b; c = c } ∷ record { a = a; b = c; c = d } ∷ []

-- the six faces of a cube whose first corner has the number n
abbrev pub faces_from : ℕ → List Tri
faces_from n =
    face (n + 0) (n + 1) (n + 2) (n + 3)
    ++ face (n + 4) (n + 5) (n + 6) (n + 7)
    ++ face (n + 0) (n + 3) (n + 5) (n + 4)
    ++ face (n + 3) (n + 2) (n + 6) (n + 5)
    ++ face (n + 2) (n + 1) (n + 7) (n + 6)
    ++ face (n + 1) (n + 0) (n + 4) (n + 7)

-- the triangles of the cube of this number: each cube before it has eight corners
abbrev pub cube_triangles : ℕ → List Tri
cube_triangles number = faces_from (8 * number)

-- all corners and all triangles, cube after cube
abbrev pub corners_of : ℕ → List Triple
corners_of n = flat_map cube_corners (cubes n)

abbrev pub triangles_of : ℕ → List Tri
triangles_of n = flat_map cube_triangles (below (n * n * n))
