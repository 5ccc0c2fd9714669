-- A raw part has one weld.
use Rattle.std.proofs.Common.{◌≡◌, ◌≢◌, ℕ, zero, suc, ◌+◌, ◌<◌, ◌≤◌, ◌⊎◌, inl, inr, pos, List, [], ◌∷◌, Contains, All, AllPairs, length, map, take, drop, get_or, slice_get, Some, None, refl, sym, ap, subst, ◌∙◌, arith}
use Rattle.std.proofs.lemmas.Bool.{cases_order}
use Rattle.std.proofs.lemmas.List.{length-map, get_or-map, length-take-le, get_or-take, get_or_default, take_more_same, take_all, ext_get_or}
use Rattle.std.proofs.lemmas.Option.{slice_get-get_or, slice_get_cases}
use Rattle.lattice.specs.declared.points.Corner.{Corner}
use Rattle.lattice.specs.declared.soup.Tri.{Tri}
use Rattle.lattice.specs.Points.{of_corner}
use Rattle.lattice.specs.Triangles.{IsBelow}
use Rattle.lattice.specs.Triple.{Triple}
use Rattle.weld.specs.Raw.{Raw}
use Rattle.weld.specs.Welds.{vertex_at, placed, proper_of, numbers_of, IsWeldOf}
use Rattle.answers_unique.proofs.OneCorner.{same_corners}

-- the places have these numbers, in the order of their first use, in a list of all that are used
record AreNumbered (places corners : List Triple) (numbers : List ℕ) : Type 0 where
  within : (k : ℕ) → k < length numbers → get_or numbers k 0 < length corners
  here : (k : ℕ) → k < length numbers → vertex_at corners (get_or numbers k 0) ≡ vertex_at places k
  many : length numbers ≡ length places
  distinct : (i j : ℕ) → i < length corners → j < length corners → vertex_at corners i ≡ vertex_at corners j → i ≡ j
  used : (i : ℕ) → i < length corners → Contains numbers i
  in_order : (place j i : ℕ) → slice_get numbers place ≡ Some j → i < j → Contains (take place numbers) i

-- ---- two such lists of numbers
module _ (places corners others : List Triple) (numbers given : List ℕ) (a : AreNumbered places corners numbers) (b : AreNumbered places others given) where
  as_many : length numbers ≡ length given
  as_many = a.many ∙ sym b.many

  -- of two numbers that one place has, where all before are the same, the first is not the lower one
  not_lower : (k : ℕ) → k < length numbers → take k numbers ≡ take k given → get_or numbers k 0 < get_or given k 0 → ⊥
  not_lower k less same lower = from (b.in_order k (get_or given k 0) (get_or numbers k 0) (slice_get-get_or given k 0 (omega (arith, as_many))) lower)
    where
      there : k < length given
      there = omega (arith, as_many)

      read : (xs : List ℕ) (p : ℕ) → k < length xs → p < k → get_or (take k xs) p (get_or numbers k 0) ≡ get_or xs p 0
      read xs p long before = get_or-take k xs p (get_or numbers k 0) before ∙ get_or_default xs p (get_or numbers k 0) 0 (omega (arith, long, before))

      at : (p : ℕ) → p < k → get_or (take k given) p (get_or numbers k 0) ≡ get_or numbers k 0 → ⊥
      at p before e =
          let in_given : get_or given p 0 ≡ get_or numbers k 0 = sym (read given p there before) ∙ e in
          let in_numbers : get_or numbers p 0 ≡ get_or numbers k 0 = sym (read numbers p less before) ∙ ap (λ (xs : List ℕ). get_or xs p (get_or numbers k 0)) same ∙ e in
          let one_place : vertex_at places p ≡ vertex_at places k = sym (a.here p (omega (arith, less, before))) ∙ ap (vertex_at corners) in_numbers ∙ a.here k less in
          let met : vertex_at others (get_or given p 0) ≡ vertex_at others (get_or given k 0) = b.here p (omega (arith, there, before)) ∙ one_place ∙ sym (b.here k there) in
          let equal : get_or given p 0 ≡ get_or given k 0 = b.distinct (get_or given p 0) (get_or given k 0) (b.within p (omega (arith, there, before))) (b.within k there) met in
          absurd (omega (arith, lower, equal, in_given))

      from : Contains (take k given) (get_or numbers k 0) → ⊥
      from (p, short, e) = at p (omega (arith, short, length-take-le k given (omega (arith, there)))) e

module _ (places corners others : List Triple) (numbers given : List ℕ) (a : AreNumbered places corners numbers) (b : AreNumbered places others given) where
  many_here : length numbers ≡ length given
  many_here = a.many ∙ sym b.many

  -- all before are the same
  same_before : (k : ℕ) → k ≤ length numbers → take k numbers ≡ take k given
  same_before zero h = refl
  same_before (suc k) h =
      let before : take k numbers ≡ take k given = same_before k (omega (arith, h)) in
      let less : k < length numbers = omega (arith, h) in
      let next_is : k + 1 ≡ suc k = omega arith in
      subst (λ (n : ℕ). take n numbers ≡ take n given) next_is
      (take_more_same numbers given k 0 less (omega (arith, less, many_here)) before (next before less (cases_order (get_or numbers k 0) (get_or given k 0))))
    where
      next : take k numbers ≡ take k given → k < length numbers → (get_or numbers k 0 ≡ get_or given k 0) ⊎ ((get_or numbers k 0 < get_or given k 0) ⊎ (get_or given k 0 < get_or numbers k 0)) → get_or numbers k 0 ≡ get_or given k 0
      next before less (inl e) = e
      next before less (inr (inl lower)) = absurd (not_lower places corners others numbers given a b k less before lower)
      next before less (inr (inr lower)) = absurd (not_lower places others corners given numbers b a k (omega (arith, less, many_here)) (sym before) lower)

  same_numbers : numbers ≡ given
  same_numbers =
      sym (take_all (length numbers) numbers (omega arith)) ∙ same_before (length numbers) (omega arith) ∙ take_all (length numbers) given (omega (arith, many_here))

  -- a number that is used in one list is used in the other, and stands for the same place
  same_at : (i : ℕ) → i < length corners → (i < length others) × (vertex_at corners i ≡ vertex_at others i)
  same_at i h = from (a.used i h)
    where
      at : (k : ℕ) → k < length numbers → get_or numbers k 0 ≡ i → (i < length others) × (vertex_at corners i ≡ vertex_at others i)
      at k less e =
          let there : k < length given = omega (arith, less, many_here) in
          let equal : get_or given k 0 ≡ i = ap (λ (xs : List ℕ). get_or xs k 0) (sym same_numbers) ∙ e in (
            subst (λ (n : ℕ). n < length others) equal (b.within k there),
            ap (vertex_at corners) (sym e) ∙ a.here k less ∙ sym (b.here k there) ∙ ap (vertex_at others) equal,
          )

      from : Contains numbers i → (i < length others) × (vertex_at corners i ≡ vertex_at others i)
      from (k, less, e) = at k less (get_or_default numbers k 0 i less ∙ e)

module _ (places corners others : List Triple) (numbers given : List ℕ) (a : AreNumbered places corners numbers) (b : AreNumbered places others given) where
  same_long : length corners ≡ length others
  same_long = by (cases_order (length corners) (length others))
    where
      by : (length corners ≡ length others) ⊎ ((length corners < length others) ⊎ (length others < length corners)) → length corners ≡ length others
      by (inl e) = e
      by (inr (inl less)) = let h = (same_at places others corners given numbers b a (length corners) less).0 in absurd (omega (arith, h))
      by (inr (inr less)) = let h = (same_at places corners others numbers given a b (length others) less).0 in absurd (omega (arith, h))

  same_places : corners ≡ others
  same_places = ext_get_or (record { x = pos 0; y = pos 0; z = pos 0 }) corners others same_long (λ i h. (same_at places corners others numbers given a b i h).1)

-- ---- welds
-- the places of triangles, one after the other
abbrev places_of : List (Triple × Triple × Triple) → List Triple
places_of [] = []
places_of (t ∷ ts) = t.0 ∷ t.1 ∷ t.2 ∷ places_of ts

places_read : (corners : List Triple) (triangles : List Tri) → map (vertex_at corners) (numbers_of triangles) ≡ places_of (map (placed corners) triangles)
places_read corners [] = refl
places_read corners (t ∷ ts) = ap (λ (l : List Triple). vertex_at corners t.a ∷ vertex_at corners t.b ∷ vertex_at corners t.c ∷ l) (places_read corners ts)

numbers_below : (n : ℕ) (triangles : List Tri) → All (IsBelow n) triangles → (k : ℕ) → k < length (numbers_of triangles) → get_or (numbers_of triangles) k 0 < n
numbers_below n [] each k h = absurd (omega (arith, h))
numbers_below n (t ∷ ts) each zero h = (each 0 t (omega arith)).a
numbers_below n (t ∷ ts) each (suc zero) h = (each 0 t (omega arith)).b
numbers_below n (t ∷ ts) each (suc (suc zero)) h = (each 0 t (omega arith)).c
numbers_below n (t ∷ ts) each (suc (suc (suc k))) h = numbers_below n ts (λ i d less. each (suc i) d (omega (arith, less))) k (omega (arith, h))

same_triangles : (ts us : List Tri) → numbers_of ts ≡ numbers_of us → ts ≡ us
same_triangles [] [] e = refl
same_triangles [] (u ∷ us) e = let no : [] ≡ u.a ∷ u.b ∷ u.c ∷ numbers_of us = e in cc
same_triangles (t ∷ ts) [] e = let no : t.a ∷ t.b ∷ t.c ∷ numbers_of ts ≡ [] = e in cc
same_triangles (t ∷ ts) (u ∷ us) e =
    let others : ts ≡ us = same_triangles ts us (ap (drop 3) e) in
    let a : t.a ≡ u.a = ap (λ (l : List ℕ). get_or l 0 0) e in
    let b : t.b ≡ u.b = ap (λ (l : List ℕ). get_or l 1 0) e in
    let c : t.c ≡ u.c = ap (λ (l : List ℕ). get_or l 2 0) e in
    λ i. record { a = a i; b = b i; c = c i } ∷ others i

module _ (corners : List Corner) (apart : AllPairs (λ c d. of_corner c ≢ of_corner d) corners) where
  corner_here : (i : ℕ) (d : Corner) → i < length corners → vertex_at (map of_corner corners) i ≡ of_corner (get_or corners i d)
  corner_here i d h = get_or-map of_corner corners i d (record { x = pos 0; y = pos 0; z = pos 0 }) h

  not_before : (i j : ℕ) (d : Corner) → i < j → j < length corners → vertex_at (map of_corner corners) i ≡ vertex_at (map of_corner corners) j → ⊥
  not_before i j d less h e = apart i j d less h (sym (corner_here i d (omega (arith, less, h))) ∙ e ∙ corner_here j d h)

  all_apart : (i j : ℕ) → i < length corners → j < length corners → vertex_at (map of_corner corners) i ≡ vertex_at (map of_corner corners) j → i ≡ j
  all_apart i j h k e = by (cases_order i j) (slice_get_cases corners i).1
    where
      by : (i ≡ j) ⊎ ((i < j) ⊎ (j < i)) → ((d : Corner) × (i < length corners) × (slice_get corners i ≡ Some d) × (get_or corners i d ≡ d)) ⊎ ((length corners ≤ i) × (slice_get corners i ≡ None)) → i ≡ j
      by (inl same) there = same
      by (inr (inl less)) (inl (d, within, at, read)) = absurd (not_before i j d less k e)
      by (inr (inr less)) (inl (d, within, at, read)) = absurd (not_before j i d less h (sym e))
      by (inr less) (inr (past, none)) = absurd (omega (arith, past, h))

numbered_of : (raw : Raw) (corners : List Corner) (triangles : List Tri) → IsWeldOf raw corners triangles → AreNumbered (places_of (proper_of raw)) (map of_corner corners) (numbers_of triangles)
numbered_of raw corners triangles w = record {
  within = λ k h. let less = numbers_below (length corners) triangles w.in_range k h in omega (arith, less, length-map corners of_corner);
  here = λ k h. sym (get_or-map (vertex_at (map of_corner corners)) (numbers_of triangles) k 0 (record { x = pos 0; y = pos 0; z = pos 0 }) h) ∙ ap (λ (l : List Triple). vertex_at l k) read;
  many = sym (length-map (numbers_of triangles) (vertex_at (map of_corner corners))) ∙ ap length read;
  distinct = λ i j h k e. all_apart corners w.distinct i j (omega (arith, h, length-map corners of_corner)) (omega (arith, k, length-map corners of_corner)) e;
  used = λ i h. w.used i (omega (arith, h, length-map corners of_corner));
  in_order = w.in_order;
}
  where
    read : map (vertex_at (map of_corner corners)) (numbers_of triangles) ≡ places_of (proper_of raw)
    read = places_read (map of_corner corners) triangles ∙ ap places_of w.proper

module _ (raw : Raw) (corners others : List Corner) (triangles given : List Tri) (w : IsWeldOf raw corners triangles) (v : IsWeldOf raw others given) where
  pub one_corners : corners ≡ others
  one_corners = same_corners corners others (same_places (places_of (proper_of raw)) (map of_corner corners) (map of_corner others) (numbers_of triangles) (numbers_of given) (numbered_of raw corners triangles w) (numbered_of raw others given v))

  pub one_triangles : triangles ≡ given
  one_triangles = same_triangles triangles given (same_numbers (places_of (proper_of raw)) (map of_corner corners) (map of_corner others) (numbers_of triangles) (numbers_of given) (numbered_of raw corners triangles w) (numbered_of raw others given v))

-- a weld with a triangle has proper triangles
pub some_proper : (raw : Raw) (corners : List Corner) (triangles : List Tri) → IsWeldOf raw corners triangles → 0 < length triangles → proper_of raw ≡ [] → ⊥
some_proper raw corners [] w h none = absurd (omega (arith, h))
some_proper raw corners (t ∷ ts) w h none = let no : placed (map of_corner corners) t ∷ map (placed (map of_corner corners)) ts ≡ [] = w.proper ∙ none in cc
