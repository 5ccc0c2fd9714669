-- The cubes by their numbers, and what the first of them give.
use Rattle.std.proofs.Common.{◌≡◌, refl, sym, ◌∙◌, ap, ℕ, zero, suc, ◌+◌, ◌*◌, ◌<◌, ◌≤◌, List, [], ◌∷◌, ◌++◌, map, flat_map, length, subst, arith, rules}
use Rattle.std.proofs.Math.Numerals.{add-one}
use Rattle.std.specs.List.{All}
use Rattle.std.proofs.lemmas.List.{map-id, append-nil, length-append, length-map}
use Rattle.std.proofs.lemmas.List.Elements.{All-from_recursion, All-nil, All-append, All-same}
use Rattle.std.proofs.lemmas.Grind.{flat_map-append}
use Rattle.std.proofs.lemmas.List.Folds.{flat_map-map}
use Rattle.std.proofs.lemmas.List.FromFn.{map-range_with_len_more}
use Rattle.lattice.specs.declared.points.Corner.{Corner}
use Rattle.lattice.specs.Points.{of_corner}
use Rattle.lattice.specs.Triple.{Triple}
use Rattle.lattice.specs.Triangles.{IsBelow}
use Rattle.lattice.specs.declared.soup.Tri.{Tri}
use Rattle.sample_part.specs.Boxes.{below, cubes, cube_corners, cube_triangles, corners_of, triangles_of}
use Rattle.sample_part.specs.inner.Cubes.{cube_at}

pub cubes_by_number : (n : ℕ) → 0 < n → n ≤ 8 → cubes n ≡ map (cube_at n) (below (n * n * n))
cubes_by_number zero h k = absurd (omega (arith, h))
cubes_by_number (suc zero) h k = refl
cubes_by_number (suc (suc zero)) h k = refl
cubes_by_number (suc (suc (suc zero))) h k = refl
cubes_by_number (suc (suc (suc (suc zero)))) h k = refl
cubes_by_number (suc (suc (suc (suc (suc zero))))) h k = refl
cubes_by_number (suc (suc (suc (suc (suc (suc zero)))))) h k = refl
cubes_by_number (suc (suc (suc (suc (suc (suc (suc zero))))))) h k = refl
cubes_by_number (suc (suc (suc (suc (suc (suc (suc (suc zero)))))))) h k = refl
cubes_by_number (suc (suc (suc (suc (suc (suc (suc (suc (suc n))))))))) h k = absurd (omega (arith, k))

pub corners_by_number : (n : ℕ) → 0 < n → n ≤ 8 → corners_of n ≡ flat_map (λ c. cube_corners (cube_at n c)) (below (n * n * n))
corners_by_number n h k = ap (flat_map cube_corners) (cubes_by_number n h k) ∙ flat_map-map cube_corners (cube_at n) (below (n * n * n))

pub below_more : (c : ℕ) → below (c + 1) ≡ below c ++ (c ∷ [])
below_more c = sym (map-id (below (c + 1))) ∙ map-range_with_len_more (λ (x : ℕ). x) 0 c c (omega arith) ∙ ap (λ xs. xs ++ (c ∷ [])) (map-id (below c))

-- what f gives for the first c numbers, and for the next
pub listed_more : {A : Type 0} (f : ℕ → List A) (c : ℕ) → flat_map f (below (c + 1)) ≡ flat_map f (below c) ++ f c
listed_more f c = ap (flat_map f) (below_more c) ∙ flat_map-append f (below c) (c ∷ []) ∙ ap (λ ys. flat_map f (below c) ++ ys) (append-nil (f c))

-- so many corners are there
pub length_corners : (n c : ℕ) → length (flat_map (λ k. cube_corners (cube_at n k)) (below c)) ≡ 8 * c
length_corners n zero = refl
length_corners n (suc c) =
    let f : ℕ → List Triple = λ k. cube_corners (cube_at n k) in
    let at : length (flat_map f (below (c + 1))) ≡ 8 * (c + 1) =
    ap length (listed_more f c) ∙ length-append (flat_map f (below c)) (f c) ∙ ap (λ (m : ℕ). m + 8) (length_corners n c) ∙ omega arith
    in
    subst (λ (m : ℕ). length (flat_map f (below m)) ≡ 8 * m) (add-one c) at

-- the numbers of a cube's triangles are in range
pub cube_in_range : (number m : ℕ) → 8 * number + 8 ≤ m → All (IsBelow m) (cube_triangles number)
cube_in_range number m h =
    All-from_recursion (IsBelow m) (cube_triangles number) (search rules)

-- those of the first cubes' triangles too
pub all_in_range : (c m : ℕ) → 8 * c ≤ m → All (IsBelow m) (flat_map cube_triangles (below c))
all_in_range zero m h = All-nil (IsBelow m)
all_in_range (suc c) m h =
    let P : List Tri → Type 0 = All (IsBelow m) in
    let small : 8 * c + 8 ≤ m = omega (arith, h) in
    let at : P (flat_map cube_triangles (below (c + 1))) =
    subst P (sym (listed_more cube_triangles c))
    (All-append (IsBelow m) (flat_map cube_triangles (below c)) (cube_triangles c) (all_in_range c m (omega (arith, small))) (cube_in_range c m small))
    in
    subst (λ (k : ℕ). P (flat_map cube_triangles (below k))) (add-one c) at

-- the numbers of all triangles are in range
pub sample_in_range : (n : ℕ) (corners : List Corner) (triangles : List Tri) → 0 < n → n ≤ 8 → map of_corner corners ≡ corners_of n → triangles ≡ triangles_of n → All (IsBelow (length corners)) triangles
sample_in_range n corners triangles h k is_corners is_triangles =
    let f : ℕ → List Triple = λ c. cube_corners (cube_at n c) in
    let long : length corners ≡ 8 * (n * n * n) =
    sym (length-map corners of_corner) ∙ ap length (is_corners ∙ corners_by_number n h k) ∙ length_corners n (n * n * n)
    in
    All-same (IsBelow (length corners)) triangles _ is_triangles (all_in_range (n * n * n) (length corners) (omega (arith, long)))
