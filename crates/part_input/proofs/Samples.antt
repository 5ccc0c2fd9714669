-- How many corners and triangles a sample has.
use Rattle.std.proofs.Common.{◌≡◌, ◌≤◌, ℕ, ◌*◌, List, [], ◌∷◌, length, map, flat_map, Some, refl, sym, ap, ◌∙◌, arith}
use Rattle.std.proofs.lemmas.List.{length-append, length-map}
use Rattle.std.proofs.lemmas.List.FromFn.{length-range_with_len}
use Rattle.lattice.specs.declared.points.Corner.{Corner}
use Rattle.lattice.specs.declared.soup.Tri.{Tri}
use Rattle.lattice.specs.Points.{of_corner}
use Rattle.sample_part.specs.Boxes.{CubePlace, below, cubes, cube_corners, cube_triangles, corners_of, triangles_of}
use Rattle.part_input.specs.Parts.{cubes_along}

-- each element gives m
length_each : {X A : Type 0} (f : X → List A) (m : ℕ) → ((x : X) → length (f x) ≡ m) → (xs : List X) → length (flat_map f xs) ≡ m * length xs
length_each f m each [] = omega arith
length_each f m each (x ∷ xs) =
    let first = each x in
    let rest = length_each f m each xs in
    length-append (f x) (flat_map f xs) ∙ omega (arith, first, rest)

length_below : (n : ℕ) → length (below n) ≡ n
length_below n = length-range_with_len 0 n

length_cubes : (n : ℕ) → length (cubes n) ≡ n * n * n
length_cubes n =
    let row : ℕ → ℕ → List CubePlace = λ i j. map (λ h. record { i = i; j = j; h = h }) (below n) in
    let in_row : (i j : ℕ) → length (row i j) ≡ n = λ i j. length-map (below n) (λ h. record { i = i; j = j; h = h }) ∙ length_below n in
    let in_layer : (i : ℕ) → length (flat_map (row i) (below n)) ≡ n * n = λ i. length_each (row i) n (in_row i) (below n) ∙ ap (λ (k : ℕ). n * k) (length_below n) in
    length_each (λ i. flat_map (row i) (below n)) (n * n) in_layer (below n) ∙ ap (λ (k : ℕ). n * n * k) (length_below n)

few_cubes : (n : ℕ) → n ≤ 8 → n * n * n ≤ 512
few_cubes n few = grind arith

-- a size asks for at most 8 cubes along each axis
at_most_8 : (size : List ℕ) (n : ℕ) → Some n ≡ cubes_along size → n ≤ 8
at_most_8 [] n is = absurd (cc)
at_most_8 (digit ∷ []) n is = grind arith
at_most_8 (digit ∷ more ∷ rest) n is = absurd (cc)

pub few_corners : (size : List ℕ) (n : ℕ) (corners : List Corner) → Some n ≡ cubes_along size → map of_corner corners ≡ corners_of n → length corners ≤ 60000
few_corners size n corners asked are =
    let long : length corners ≡ 8 * length (cubes n) = sym (length-map corners of_corner) ∙ ap length are ∙ length_each cube_corners 8 (λ p. refl) (cubes n) in
    omega (arith, long, length_cubes n, few_cubes n (at_most_8 size n asked))

pub few_triangles : (size : List ℕ) (n : ℕ) (triangles : List Tri) → Some n ≡ cubes_along size → triangles ≡ triangles_of n → length triangles ≤ 20000
few_triangles size n triangles asked are =
    let long : length triangles ≡ 12 * length (below (n * n * n)) = ap length are ∙ length_each cube_triangles 12 (λ p. refl) (below (n * n * n)) in
    omega (arith, long, length_below (n * n * n), few_cubes n (at_most_8 size n asked))
