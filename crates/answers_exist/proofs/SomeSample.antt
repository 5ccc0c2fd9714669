-- A sample of 1 to 8 cubes along each axis is a part, whose corner numbers are in range.
use Rattle.std.proofs.Common.{◌≡◌, ℕ, zero, suc, ◌+◌, ◌*◌, ◌/◌, ◌%◌, ◌<◌, ◌≤◌, List, All, length, map, flat_map, refl, sym, ap, subst, ◌∙◌, arith, rules}
use Rattle.std.specs.List.{range_with_len}
use Rattle.std.proofs.lemmas.List.{length-map, length-append}
use Rattle.std.proofs.lemmas.List.Elements.{All-nil, All-append, All-from_recursion}
use Rattle.std.proofs.lemmas.Nat.{mod_below, div_below}
use Rattle.lattice.specs.declared.points.Corner.{Corner}
use Rattle.lattice.specs.Points.{of_corner}
use Rattle.lattice.specs.Triangles.{IsBelow}
use Rattle.geometry.specs.Parts.{Part}
use Rattle.sample_part.specs.Boxes.{CubePlace, below, corner_of, cube_corners, cube_triangles, corners_of, triangles_of}
use Rattle.sample_part.specs.inner.Cubes.{cube_at}
use Rattle.sample_part.proofs.Numbered.{corners_by_number}
use Rattle.answers_exist.proofs.SomeWeld.{IsCornerPlace, corners_at}

-- ---- what holds of all that the first numbers give
module _ {Y : Type 0} (P : Y → Type 0) (f : ℕ → List Y) (m : ℕ) (each : (k : ℕ) → k < m → All P (f k)) where
  all_given : (start n : ℕ) → start + n ≤ m → All P (flat_map f (range_with_len start n))
  all_given start zero h = All-nil P
  all_given start (suc n) h = All-append P (f start) (flat_map f (range_with_len (start + 1) n)) (each start (omega (arith, h))) (all_given (start + 1) n (omega (arith, h)))

pub many_given : {Y : Type 0} (f : ℕ → List Y) (b : ℕ) → ((k : ℕ) → length (f k) ≡ b) → (start n : ℕ) → length (flat_map f (range_with_len start n)) ≡ n * b
many_given f b each start zero = omega arith
many_given f b each start (suc n) = length-append (f start) (flat_map f (range_with_len (start + 1) n)) ∙ (λ i. each start i + many_given f b each (start + 1) n i) ∙ more n b
  where
    more : (n b : ℕ) → b + n * b ≡ suc n * b
    more n b = omega arith

-- ---- cubes by their numbers
-- fewer than 8 cubes stand before it along each axis
record IsNear (p : CubePlace) : Type 0 where
  i : p.i < 8
  j : p.j < 8
  h : p.h < 8

corner_place : (p : CubePlace) → IsNear p → (x y z : ℕ) → x ≤ 1 → y ≤ 1 → z ≤ 1 → IsCornerPlace (corner_of p x y z)
corner_place p near x y z a b c = record { x = omega (arith, near.i, a); y = omega (arith, near.j, b); z = omega (arith, near.h, c) }

cube_places : (p : CubePlace) → IsNear p → All IsCornerPlace (cube_corners p)
cube_places p near =
    let at = corner_place p near in
    let no : 0 ≤ 1 = omega arith in
    let one : 1 ≤ 1 = omega arith in
    All-from_recursion IsCornerPlace (cube_corners p)
    (at 0 0 0 no no no, (at 0 1 0 no one no, (at 1 1 0 one one no, (at 1 0 0 one no no, (at 0 0 1 no no one, (at 1 0 1 one no one, (at 1 1 1 one one one, (at 0 1 1 no one one, tt))))))))

cube_in_range : (m number : ℕ) → 8 * number + 8 ≤ m → All (IsBelow m) (cube_triangles number)
cube_in_range m number h = All-from_recursion (IsBelow m) (cube_triangles number) (search rules)

square_positive : (n : ℕ) → 0 < n → 0 < n * n
square_positive zero h = absurd (omega (arith, h))
square_positive (suc n) h = omega arith

cube_positive : (n : ℕ) → 0 < n → 0 < n * n * n
cube_positive zero h = absurd (omega (arith, h))
cube_positive (suc n) h = omega arith

some_cube : (c : ℕ) → 0 < c → 0 < length (flat_map cube_triangles (below c))
some_cube zero h = absurd (omega (arith, h))
some_cube (suc c) h = omega arith

module _ (n : ℕ) (least : 0 < n) (most : n ≤ 8) where
  near_at : (number : ℕ) → number < n * n * n → IsNear (cube_at n number)
  near_at number less =
      let across : number / (n * n) < n = div_below number (n * n) n (square_positive n least) (subst (λ k. number < k) (turned n) less) in
      let inward : number / n % n < n = mod_below (number / n) n least in
      let upward : number % n < n = mod_below number n least in
      record { i = omega (arith, across, most); j = omega (arith, inward, most); h = omega (arith, upward, most) }
    where
      turned : (n : ℕ) → n * n * n ≡ n * (n * n)
      turned n = omega arith

  places : All IsCornerPlace (corners_of n)
  places = subst (All IsCornerPlace) (sym (corners_by_number n least most)) (all_given IsCornerPlace (λ c. cube_corners (cube_at n c)) (n * n * n) (λ c less. cube_places (cube_at n c) (near_at c less)) 0 (n * n * n) (omega arith))

  many : length (corners_of n) ≡ n * n * n * 8
  many = ap length (corners_by_number n least most) ∙ many_given (λ c. cube_corners (cube_at n c)) 8 (λ c. refl) 0 (n * n * n)

  numbers_in_range : All (IsBelow (n * n * n * 8)) (triangles_of n)
  numbers_in_range = all_given (IsBelow (n * n * n * 8)) cube_triangles (n * n * n) (λ c less. cube_in_range (n * n * n * 8) c (omega (arith, less))) 0 (n * n * n) (omega arith)

  pub sample_in_range : (corners : List Corner) → map of_corner corners ≡ corners_of n → All (IsBelow (length corners)) (triangles_of n)
  sample_in_range corners there =
      let long : length corners ≡ n * n * n * 8 = sym (length-map corners of_corner) ∙ ap length there ∙ many in
      subst (λ (m : ℕ). All (IsBelow m) (triangles_of n)) (sym long) numbers_in_range

  pub sample_some : 0 < length (triangles_of n)
  sample_some = some_cube (n * n * n) (cube_positive n least)

  -- the part of a sample
  pub record IsSampleOf (part : Part) : Type 0 where
    pub corners : map of_corner part.corners ≡ corners_of n
    pub triangles : part.triangles ≡ triangles_of n
    pub in_range : All (IsBelow (length part.corners)) part.triangles
    pub some : 0 < length part.triangles

  pub some_sample : (part : Part) × IsSampleOf part
  some_sample =
      let (corners, there) = corners_at (corners_of n) places in (
        record { corners = corners; triangles = triangles_of n },
        record { corners = there; triangles = refl; in_range = sample_in_range corners there; some = sample_some },
      )
