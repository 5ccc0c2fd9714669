-- The corners and triangles of a sample by their cubes.
use Rattle.std.proofs.Common.{◌≡◌, ◌⊎◌, inl, inr, ℕ, zero, suc, ◌+◌, ◌-◌, ◌*◌, ◌/◌, ◌%◌, ◌<◌, ◌≤◌, List, [], ◌++◌, length, map, flat_map, slice_get, Some, option_map, refl, sym, ap, subst, ◌∙◌, arith}
use Rattle.std.specs.Prelude.{pos, ◌+ℤ◌}
use Rattle.std.specs.List.{range_with_len}
use Rattle.std.proofs.lemmas.Bool.{cases_lt}
use Rattle.std.proofs.lemmas.List.{length-append}
use Rattle.std.proofs.lemmas.Option.{none-some, same_Some, slice_get-get_or, slice_get-map, slice_get_within, get_or_from_slice_get}
use Rattle.std.proofs.Math.ListN.{get_or-append}
use Rattle.std.proofs.Math.Seq.{get_or-append_right}
use Rattle.integers.proofs.Lists.{some_element}
use Rattle.lattice.specs.declared.points.Corner.{Corner}
use Rattle.lattice.specs.declared.soup.Tri.{Tri}
use Rattle.lattice.specs.Points.{of_corner}
use Rattle.lattice.specs.Triple.{Triple}
use Rattle.geometry.specs.Parts.{Part, IsCornerOf, start_of, end_of}
use Rattle.sample_part.specs.Boxes.{cube_corners, cube_triangles, corners_of, triangles_of}
use Rattle.sample_part.specs.inner.Cubes.{cube_at}
use Rattle.answers_exist.proofs.CubeChecks.{own_corners, own_triangles, tri_at, own_corner, own_numbers}
use Rattle.answers_exist.proofs.Decided.{by_option}
use Rattle.sample_part.proofs.Numbered.{corners_by_number}
use Rattle.answers_exist.proofs.SomeSample.{many_given}

-- ---- blocks of b things each
record IsInBlock {Y : Type 0} (f : ℕ → List Y) (b start n i : ℕ) (x : Y) : Type 0 where
  block : ℕ
  place : ℕ
  number : ℕ
  within : block < n
  short : place < b
  is : i ≡ b * block + place
  numbered : number ≡ start + block
  at : slice_get (f number) place ≡ Some x

front_part : {Y : Type 0} (xs ys : List Y) (i : ℕ) (x : Y) → i < length xs → slice_get (xs ++ ys) i ≡ Some x → slice_get xs i ≡ Some x
front_part xs ys i x less at = slice_get-get_or xs i x less ∙ ap Some (sym (get_or-append xs ys x i less) ∙ get_or_from_slice_get (xs ++ ys) i x x at)

back_part : {Y : Type 0} (xs ys : List Y) (i : ℕ) (x : Y) → length xs ≤ i → slice_get (xs ++ ys) i ≡ Some x → slice_get ys (i - length xs) ≡ Some x
back_part xs ys i x more at =
    let within = slice_get_within (xs ++ ys) i x at in
    slice_get-get_or ys (i - length xs) x (omega (arith, within, more, length-append xs ys)) ∙ ap Some (sym (get_or-append_right xs ys i x more) ∙ get_or_from_slice_get (xs ++ ys) i x x at)

next_place : (b c l i : ℕ) → b ≤ i → i - b ≡ b * c + l → i ≡ b * suc c + l
next_place b c l i more e = omega (arith, more, e)

in_block : {Y : Type 0} (f : ℕ → List Y) (b : ℕ) → ((k : ℕ) → length (f k) ≡ b) → (start n i : ℕ) (x : Y) → slice_get (flat_map f (range_with_len start n)) i ≡ Some x → IsInBlock f b start n i x
in_block {Y} f b each start zero i x at = absurd (omega (arith, slice_get_within {A = Y} [] i x at))
in_block f b each start (suc n) i x at = by (cases_lt i b) (λ j later. in_block f b each (start + 1) n j x later)
  where
    by : (i < b) ⊎ (b ≤ i) → ((j : ℕ) → slice_get (flat_map f (range_with_len (start + 1) n)) j ≡ Some x → IsInBlock f b (start + 1) n j x) → IsInBlock f b start (suc n) i x
    by (inl less) later = record {
      block = 0;
      place = i;
      number = start;
      within = omega arith;
      short = less;
      is = omega arith;
      numbered = omega arith;
      at = front_part (f start) (flat_map f (range_with_len (start + 1) n)) i x (omega (arith, less, each start)) at;
    }
    by (inr more) later =
        let there : slice_get (flat_map f (range_with_len (start + 1) n)) (i - b) ≡ Some x =
        subst (λ (k : ℕ). slice_get (flat_map f (range_with_len (start + 1) n)) (i - k) ≡ Some x) (each start) (back_part (f start) (flat_map f (range_with_len (start + 1) n)) i x (omega (arith, more, each start)) at) in
        let h = later (i - b) there in
        record {
          block = suc h.block;
          place = h.place;
          number = h.number;
          within = omega (arith, h.within);
          short = h.short;
          is = next_place b h.block h.place i more h.is;
          numbered = omega (arith, h.numbered);
          at = h.at;
        }

from_map : {A B : Type 0} (v : A → B) (xs : List A) (k : ℕ) (y : B) → slice_get (map v xs) k ≡ Some y → (x : A) × (slice_get xs k ≡ Some x) × (v x ≡ y)
from_map v xs k y at =
    let mapped : option_map v (slice_get xs k) ≡ Some y = sym (slice_get-map v xs k) ∙ at in
    by_option (slice_get xs k) (λ none. absurd (none-some y (ap (option_map v) (sym none) ∙ mapped)))
    (λ x is. (x, is, same_Some (v x) y (ap (option_map v) (sym is) ∙ mapped)))

-- ---- cubes moved from the origin
abbrev pub moved : Triple → Triple → Triple
moved o t = record { x = o.x +ℤ t.x; y = o.y +ℤ t.y; z = o.z +ℤ t.z }

abbrev pub offset : ℕ → ℕ → Triple
offset n c = record { x = pos (20000 * (c / (n * n))); y = pos (20000 * (c / n % n)); z = pos (20000 * (c % n)) }

abbrev pub shifted : ℕ → Tri → Tri
shifted c t = record { a = 8 * c + t.a; b = 8 * c + t.b; c = 8 * c + t.c }

corners_moved : (n c : ℕ) → cube_corners (cube_at n c) ≡ map (moved (offset n c)) own_corners
corners_moved n c = refl

triangles_shifted : (c : ℕ) → cube_triangles c ≡ map (shifted c) own_triangles
triangles_shifted c = refl

pub start_shifted : (c : ℕ) (t : Tri) (k : ℕ) → start_of (shifted c t) k ≡ 8 * c + start_of t k
start_shifted c t zero = refl
start_shifted c t (suc zero) = refl
start_shifted c t (suc (suc k)) = refl

pub end_shifted : (c : ℕ) (t : Tri) (k : ℕ) → end_of (shifted c t) k ≡ 8 * c + end_of t k
end_shifted c t zero = refl
end_shifted c t (suc zero) = refl
end_shifted c t (suc (suc k)) = refl

pub start_small : (l k : ℕ) → l < 12 → start_of (tri_at l) k < 8
start_small l zero h = (own_numbers l h).0
start_small l (suc zero) h = (own_numbers l h).1
start_small l (suc (suc k)) h = (own_numbers l h).2

pub end_small : (l k : ℕ) → l < 12 → end_of (tri_at l) k < 8
end_small l zero h = (own_numbers l h).1
end_small l (suc zero) h = (own_numbers l h).2
end_small l (suc (suc k)) h = (own_numbers l h).0

pub corner_made : (c : ℕ) (t : Tri) (m : ℕ) → IsCornerOf t m → IsCornerOf (shifted c t) (8 * c + m)
corner_made c t m (inl e) = inl (ap (λ (k : ℕ). 8 * c + k) e)
corner_made c t m (inr (inl e)) = inr (inl (ap (λ (k : ℕ). 8 * c + k) e))
corner_made c t m (inr (inr e)) = inr (inr (ap (λ (k : ℕ). 8 * c + k) e))

pub corner_read : (c d l m : ℕ) → l < 12 → m < 8 → IsCornerOf (shifted d (tri_at l)) (8 * c + m) → (d ≡ c) × IsCornerOf (tri_at l) m
corner_read c d l m few small (inl e) = let own = (own_numbers l few).0 in (omega (arith, own, small, e), inl (omega (arith, own, small, e)))
corner_read c d l m few small (inr (inl e)) = let own = (own_numbers l few).1 in (omega (arith, own, small, e), inr (inl (omega (arith, own, small, e))))
corner_read c d l m few small (inr (inr e)) = let own = (own_numbers l few).2 in (omega (arith, own, small, e), inr (inr (omega (arith, own, small, e))))

same_triangle : (c d l : ℕ) (u t : Tri) → shifted c u ≡ t → c ≡ d → tri_at l ≡ u → t ≡ shifted d (tri_at l)
same_triangle c d l u t same number there = sym same ∙ (λ k. shifted (number k) (sym there k))

same_corner : (n c d l : ℕ) (t p : Triple) → moved (offset n c) t ≡ p → c ≡ d → own_corner l ≡ t → p ≡ moved (offset n d) (own_corner l)
same_corner n c d l t p same number there = sym same ∙ (λ k. moved (offset n (number k)) (sym there k))

-- ---- a sample's corners and triangles
module _ (n : ℕ) (least : 0 < n) (most : n ≤ 8) (s : Part) (corners : map of_corner s.corners ≡ corners_of n) (triangles : s.triangles ≡ triangles_of n) where
  -- the triangle has this place in this cube
  pub record IsTri (i : ℕ) (t : Tri) : Type 0 where
    pub cube : ℕ
    pub place : ℕ
    pub within : cube < n * n * n
    pub short : place < 12
    pub is : i ≡ 12 * cube + place
    pub tri : t ≡ shifted cube (tri_at place)

  pub tri_of : (i : ℕ) (t : Tri) → slice_get s.triangles i ≡ Some t → IsTri i t
  tri_of i t at =
      let b = in_block cube_triangles 12 (λ c. refl) 0 (n * n * n) i t (subst (λ (ts : List Tri). slice_get ts i ≡ Some t) triangles at) in
      let number : b.number ≡ b.block = omega (arith, b.numbered) in
      let (u, own, same) = from_map (shifted b.number) own_triangles b.place t (subst (λ (ts : List Tri). slice_get ts b.place ≡ Some t) (triangles_shifted b.number) b.at) in
      let there : tri_at b.place ≡ u = get_or_from_slice_get own_triangles b.place u _ own in
      record { cube = b.block; place = b.place; within = b.within; short = b.short; is = b.is; tri = same_triangle b.number b.block b.place u t same number there }

  -- the corner has this place in this cube
  record IsCornerIn (k : ℕ) (p : Corner) : Type 0 where
    cube : ℕ
    place : ℕ
    short : place < 8
    is : k ≡ 8 * cube + place
    at : of_corner p ≡ moved (offset n cube) (own_corner place)

  corner_in : (k : ℕ) (p : Corner) → slice_get s.corners k ≡ Some p → IsCornerIn k p
  corner_in k p at =
      let listed : slice_get (corners_of n) k ≡ Some (of_corner p) = ap (λ (ts : List Triple). slice_get ts k) (sym corners) ∙ slice_get-map of_corner s.corners k ∙ ap (option_map of_corner) at in
      let b = in_block (λ c. cube_corners (cube_at n c)) 8 (λ c. refl) 0 (n * n * n) k (of_corner p) (subst (λ (ts : List Triple). slice_get ts k ≡ Some (of_corner p)) (corners_by_number n least most) listed) in
      let number : b.number ≡ b.block = omega (arith, b.numbered) in
      let (t, own, same) = from_map (moved (offset n b.number)) own_corners b.place (of_corner p) (subst (λ (ts : List Triple). slice_get ts b.place ≡ Some (of_corner p)) (corners_moved n b.number) b.at) in
      let there : own_corner b.place ≡ t = get_or_from_slice_get own_corners b.place t _ own in
      record { cube = b.block; place = b.place; short = b.short; is = b.is; at = same_corner n b.number b.block b.place t (of_corner p) same number there }

  -- where a corner with a number is
  pub corner_here : (c m k : ℕ) (p : Corner) → k ≡ 8 * c + m → m < 8 → slice_get s.corners k ≡ Some p → of_corner p ≡ moved (offset n c) (own_corner m)
  corner_here c m k p e small at =
      let h = corner_in k p at in
      let cube : h.cube ≡ c = omega (arith, h.is, h.short, e, small) in
      let place : h.place ≡ m = omega (arith, h.is, h.short, e, small) in
      h.at ∙ (λ i. moved (offset n (cube i)) (own_corner (place i)))

  many_triangles : length s.triangles ≡ n * n * n * 12
  many_triangles = ap length triangles ∙ many_given cube_triangles 12 (λ c. refl) 0 (n * n * n)

  pub tri_there : (c l : ℕ) → c < n * n * n → l < 12 → slice_get s.triangles (12 * c + l) ≡ Some (shifted c (tri_at l))
  tri_there c l within short =
      let (t, at) = some_element s.triangles (12 * c + l) (omega (arith, within, short, many_triangles)) in
      let h = tri_of (12 * c + l) t at in
      let cube : h.cube ≡ c = omega (arith, h.is, h.short, short) in
      let place : h.place ≡ l = omega (arith, h.is, h.short, short) in
      at ∙ ap Some (h.tri ∙ (λ i. shifted (cube i) (tri_at (place i))))
