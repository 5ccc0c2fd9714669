-- A face of more than three corners as a fan of triangles, from the least corner that sees it whole.
use Rattle.std.specs.Prelude.{◌≡◌, ◌⊎◌, ℕ, ◌<◌, pos, ◌+ℤ◌, ◌-ℤ◌, ◌<ℤ◌, List, [], ◌∷◌, ◌++◌, length, take, drop, map, fold, Option, Some, None, All}
use Rattle.std.specs.List.{zip, Any}
use Rattle.lattice.specs.declared.soup.Tri.{Tri}
use Rattle.lattice.specs.Triple.{Triple, dot, cross}
use Rattle.weld.specs.Welds.{vertex_at}

-- ---- going around
-- the list from place j on, and then what stands before it
abbrev pub turned : {X : Type 0} → ℕ → List X → List X
turned j xs = drop j xs ++ take j xs

-- each element with the next
abbrev pub neighbours : {X : Type 0} → List X → List (X × X)
neighbours xs = zip xs (drop 1 xs)

-- and the last with the first
abbrev pub around : {X : Type 0} → List X → List (X × X)
around xs = zip xs (turned 1 xs)

-- ---- the area
abbrev pub plus : Triple → Triple → Triple
plus s t = record { x = s.x +ℤ t.x; y = s.y +ℤ t.y; z = s.z +ℤ t.z }

abbrev pub zero_triple : Triple
zero_triple = record { x = pos 0; y = pos 0; z = pos 0 }

-- the corners with these numbers
abbrev pub corners_at : List Triple → List ℕ → List Triple
corners_at vertices numbers = map (vertex_at vertices) numbers

-- twice the vector area: the sum of the cross products of the corners around
abbrev pub vector_area : List Triple → Triple
vector_area corners = fold plus zero_triple (map (λ e. cross e.0 e.1) (around corners))

-- ---- fans
-- from the first element to each two neighbours of the others
abbrev pub fan_of : {X Y : Type 0} → (X → X → X → Y) → List X → List Y
fan_of triangle [] = []
fan_of triangle (first ∷ others) = map (λ e. triangle first e.0 e.1) (neighbours others)

abbrev pub minus : Triple → Triple → Triple
minus s t = record { x = s.x -ℤ t.x; y = s.y -ℤ t.y; z = s.z -ℤ t.z }

abbrev pub HasTwoEqual : Triple → Triple → Triple → Type 0
HasTwoEqual a b c = (a ≡ b) ⊎ (b ≡ c) ⊎ (c ≡ a)

-- turned as the face is
abbrev pub IsTurnedAs : Triple → Triple → Triple → Triple → Type 0
IsTurnedAs area a b c = pos 0 <ℤ dot area (cross (minus b a) (minus c a))

-- the triangles of the fan from place j, by their corners
abbrev pub fan_from : List Triple → ℕ → List (Triple × Triple × Triple)
fan_from corners j = fan_of (λ a b c. (a, b, c)) (turned j corners)

-- the corner at place j sees the face whole: each triangle of its fan has two equal corners or is turned as the face is, and at least one is
pub record SeesWhole (corners : List Triple) (j : ℕ) : Type 0 where
  pub all : All (λ t. HasTwoEqual t.0 t.1 t.2 ⊎ IsTurnedAs (vector_area corners) t.0 t.1 t.2) (fan_from corners j)
  pub some : Any (λ t. IsTurnedAs (vector_area corners) t.0 t.1 t.2) (fan_from corners j)

-- the fan from the least such place, or none where there is no such place
abbrev pub IsFan : List ℕ → List Triple → Option (List Tri) → Type 0
IsFan numbers corners (Some triangles) =
    (j : ℕ) × (j < length corners) × SeesWhole corners j × ((i : ℕ) → i < j → ¬ SeesWhole corners i)
    × (triangles ≡ fan_of (λ a b c. record { a = a; b = b; c = c }) (turned j numbers))
IsFan numbers corners None = (j : ℕ) → j < length corners → ¬ SeesWhole corners j
