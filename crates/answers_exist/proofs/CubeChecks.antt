-- The triangles of one cube, which are checked one by one: each side goes once each way, no two have the same corners, none is flat, and
-- beside each triangle a plane keeps apart from it each side that it doesn't have.
use Rattle.std.proofs.Common.{◌≡◌, ◌⊎◌, inl, inr, ℕ, zero, suc, ◌+◌, ◌<◌, ◌≤◌, Bool, true, false, not, ◌&&◌, ◌||◌, ◌==◌, ltb, List, [], ◌∷◌, get_or, refl, sym, ap, ◌∙◌, arith, true≢false}
use Rattle.std.specs.Prelude.{ℤ, pos, negsuc, ◌+ℤ◌, ◌-ℤ◌, ◌≤ℤ◌, ◌<ℤ◌}
use Rattle.std.specs.List.{list_all, list_any, range_with_len}
use Rattle.std.specs.Ordering.{int_eq}
use Rattle.std.proofs.lemmas.Bool.{and_parts, or_cases, eqb-true, cases_order}
use Rattle.std.proofs.lemmas.Bool.Decides.{Decides-ltb, Decides-int_eq, nat_tests}
use Rattle.std.proofs.lemmas.Int.{ints}
use Rattle.std.proofs.lemmas.List.Folds.{Any-from_list_any}
use Rattle.lattice.specs.declared.soup.Tri.{Tri}
use Rattle.lattice.specs.Triple.{Triple, dot, cross, IsZero}
use Rattle.geometry.specs.Parts.{IsCornerOf, start_of, end_of}
use Rattle.sample_part.specs.Boxes.{below, cube_corners, faces_from}
use Rattle.weld.specs.Welds.{vertex_at}

-- ---- one cube, at the origin
abbrev pub own_corners : List Triple
own_corners = cube_corners (record { i = 0; j = 0; h = 0 })

abbrev pub own_triangles : List Tri
own_triangles = faces_from 0

abbrev pub tri_at : ℕ → Tri
tri_at l = get_or own_triangles l (record { a = 0; b = 0; c = 0 })

abbrev pub own_corner : ℕ → Triple
own_corner m = vertex_at own_corners m

-- ---- tests of all
all_pass : (test : ℕ → Bool) (a n : ℕ) → list_all test (range_with_len a n) ≡ true → (i : ℕ) → a ≤ i → i < a + n → test i ≡ true
all_pass test a zero h i least less = absurd (omega (arith, least, less))
all_pass test a (suc n) h i least less = by (cases_order i a) (and_parts (test a) (list_all test (range_with_len (a + 1) n)) h) (λ parts more. all_pass test (a + 1) n parts i more (omega (arith, less)))
  where
    by : (i ≡ a) ⊎ ((i < a) ⊎ (a < i)) → (test a ≡ true) × (list_all test (range_with_len (a + 1) n) ≡ true) → (list_all test (range_with_len (a + 1) n) ≡ true → a + 1 ≤ i → test i ≡ true) → test i ≡ true
    by (inl e) (first, others) later = ap test e ∙ first
    by (inr (inl lower)) parts later = absurd (omega (arith, lower, least))
    by (inr (inr above)) (first, others) later = later others (omega (arith, above))

each_of : (n : ℕ) (test : ℕ → Bool) → list_all test (below n) ≡ true → (i : ℕ) → i < n → test i ≡ true
each_of n test h i less = all_pass test 0 n h i (omega arith) (omega (arith, less))

some_pass : (test : ℕ → Bool) (a n : ℕ) → list_any test (range_with_len a n) ≡ true → (i : ℕ) × (i < a + n) × (test i ≡ true)
some_pass test a zero h = absurd (true≢false (sym h))
some_pass test a (suc n) h = by (or_cases (test a) (list_any test (range_with_len (a + 1) n)) h) (λ later. some_pass test (a + 1) n later)
  where
    by : (test a ≡ true) ⊎ (list_any test (range_with_len (a + 1) n) ≡ true) → (list_any test (range_with_len (a + 1) n) ≡ true → (i : ℕ) × (i < a + 1 + n) × (test i ≡ true)) → (i : ℕ) × (i < a + suc n) × (test i ≡ true)
    by (inl e) later = (a, omega arith, e)
    by (inr h) later = let (i, less, e) = later h in (i, omega (arith, less), e)

some_of : (n : ℕ) (test : ℕ → Bool) → list_any test (below n) ≡ true → (i : ℕ) × (i < n) × (test i ≡ true)
some_of n test h = let (i, less, e) = some_pass test 0 n h in (i, omega (arith, less), e)

-- ---- sides
abbrev same_side : ℕ → ℕ → ℕ → ℕ → Bool
same_side l k m j = (start_of (tri_at l) k == start_of (tri_at m) j) && (end_of (tri_at l) k == end_of (tri_at m) j)

abbrev goes_back : ℕ → ℕ → ℕ → ℕ → Bool
goes_back l k m j = (start_of (tri_at m) j == end_of (tri_at l) k) && (end_of (tri_at m) j == start_of (tri_at l) k)

abbrev once : ℕ → ℕ → ℕ → ℕ → Bool
once l k m j = not (same_side l k m j) || ((l == m) && (k == j))

abbrev once_here : ℕ → ℕ → ℕ → Bool
once_here l k m = list_all (λ j. once l k m j) (below 3)

abbrev once_side : ℕ → ℕ → Bool
once_side l k = list_all (λ m. once_here l k m) (below 12)

abbrev once_in : ℕ → Bool
once_in l = list_all (λ k. once_side l k) (below 3)

each_once : list_all once_in (below 12) ≡ true
each_once = refl

abbrev back_in : ℕ → ℕ → ℕ → Bool
back_in l k m = list_any (λ j. goes_back l k m j) (below 3)

abbrev back_of : ℕ → ℕ → Bool
back_of l k = list_any (λ m. back_in l k m) (below 12)

abbrev all_back : ℕ → Bool
all_back l = list_all (λ k. back_of l k) (below 3)

each_back : list_all all_back (below 12) ≡ true
each_back = refl

same_by : (b d : Bool) → b ≡ true → (not b || d) ≡ true → d ≡ true
same_by true d h e = e
same_by false d h e = absurd (true≢false (sym h))

both_true : (a b : Bool) → a ≡ true → b ≡ true → (a && b) ≡ true
both_true true b h k = k
both_true false b h k = absurd (true≢false (sym h))

number_test : (m n : ℕ) → m ≡ n → (m == n) ≡ true
number_test m n e = ap (λ (k : ℕ). m == k) (sym e) ∙ itself m
  where
    itself : (m : ℕ) → (m == m) ≡ true
    itself m = grind (arith, nat_tests)

pub one_side : (l k m j : ℕ) → l < 12 → k < 3 → m < 12 → j < 3 → start_of (tri_at l) k ≡ start_of (tri_at m) j → end_of (tri_at l) k ≡ end_of (tri_at m) j → (l ≡ m) × (k ≡ j)
one_side l k m j a b c d start end =
    let test = each_of 3 (λ j. once l k m j) (each_of 12 (λ m. once_here l k m) (each_of 3 (λ k. once_side l k) (each_of 12 once_in each_once l a) k b) m c) j d in
    let same = both_true _ _ (number_test _ _ start) (number_test _ _ end) in
    let numbers = and_parts (l == m) (k == j) (same_by (same_side l k m j) _ same test) in
    (eqb-true l m numbers.0, eqb-true k j numbers.1)

pub back_side : (l k : ℕ) → l < 12 → k < 3 → (m : ℕ) × (j : ℕ) × (m < 12) × (j < 3) × (start_of (tri_at m) j ≡ end_of (tri_at l) k) × (end_of (tri_at m) j ≡ start_of (tri_at l) k)
back_side l k a b =
    let test = each_of 3 (λ k. back_of l k) (each_of 12 all_back each_back l a) k b in
    let (m, few, passes) = some_of 12 (λ m. back_in l k m) test in
    let (j, small, back) = some_of 3 (λ j. goes_back l k m j) passes in
    let ends = and_parts (start_of (tri_at m) j == end_of (tri_at l) k) (end_of (tri_at m) j == start_of (tri_at l) k) back in
    (m, j, few, small, eqb-true _ _ ends.0, eqb-true _ _ ends.1)

-- ---- corners
abbrev has : Tri → ℕ → Bool
has t n = (t.a == n) || ((t.b == n) || (t.c == n))

has_true : (t : Tri) (n : ℕ) → has t n ≡ true → IsCornerOf t n
has_true t n h = by (or_cases (t.a == n) ((t.b == n) || (t.c == n)) h)
  where
    last : (t.b == n ≡ true) ⊎ (t.c == n ≡ true) → IsCornerOf t n
    last (inl e) = inr (inl (eqb-true t.b n e))
    last (inr e) = inr (inr (eqb-true t.c n e))

    by : (t.a == n ≡ true) ⊎ (((t.b == n) || (t.c == n)) ≡ true) → IsCornerOf t n
    by (inl e) = inl (eqb-true t.a n e)
    by (inr e) = last (or_cases (t.b == n) (t.c == n) e)

first_true : (a b : Bool) → a ≡ true → (a || b) ≡ true
first_true true b h = refl
first_true false b h = absurd (true≢false (sym h))

second_true : (a b : Bool) → b ≡ true → (a || b) ≡ true
second_true true b h = refl
second_true false b h = h

true_has : (t : Tri) (n : ℕ) → IsCornerOf t n → has t n ≡ true
true_has t n (inl e) = first_true _ _ (number_test t.a n e)
true_has t n (inr (inl e)) = second_true (t.a == n) _ (first_true _ _ (number_test t.b n e))
true_has t n (inr (inr e)) = second_true (t.a == n) _ (second_true (t.b == n) _ (number_test t.c n e))

abbrev alone : ℕ → ℕ → Bool
alone l m = not (has (tri_at m) (tri_at l).a && (has (tri_at m) (tri_at l).b && has (tri_at m) (tri_at l).c)) || (l == m)

abbrev all_alone : ℕ → Bool
all_alone l = list_all (λ m. alone l m) (below 12)

each_alone : list_all all_alone (below 12) ≡ true
each_alone = refl

pub one_triangle : (l m : ℕ) → l < 12 → m < 12 → IsCornerOf (tri_at m) (tri_at l).a → IsCornerOf (tri_at m) (tri_at l).b → IsCornerOf (tri_at m) (tri_at l).c → l ≡ m
one_triangle l m a b p q r =
    let test = each_of 12 (λ m. alone l m) (each_of 12 all_alone each_alone l a) m b in
    eqb-true l m (same_by _ _ (both_true _ _ (true_has (tri_at m) _ p) (both_true _ _ (true_has (tri_at m) _ q) (true_has (tri_at m) _ r))) test)

-- the corners are eight
abbrev small_numbers : ℕ → Bool
small_numbers l = ltb (tri_at l).a 8 && (ltb (tri_at l).b 8 && ltb (tri_at l).c 8)

each_small : list_all small_numbers (below 12) ≡ true
each_small = refl

pub own_numbers : (l : ℕ) → l < 12 → ((tri_at l).a < 8) × ((tri_at l).b < 8) × ((tri_at l).c < 8)
own_numbers l h =
    let first = and_parts (ltb (tri_at l).a 8) (ltb (tri_at l).b 8 && ltb (tri_at l).c 8) (each_of 12 small_numbers each_small l h) in
    let others = and_parts (ltb (tri_at l).b 8) (ltb (tri_at l).c 8) first.1 in
    ((Decides-ltb (tri_at l).a 8).0 first.0, (Decides-ltb (tri_at l).b 8).0 others.0, (Decides-ltb (tri_at l).c 8).0 others.1)

-- ---- planes
abbrev is_up : ℤ → Bool
is_up (pos n) = true
is_up (negsuc n) = false

up_true : (z : ℤ) → is_up z ≡ true → pos 0 ≤ℤ z
up_true (pos n) h = omega (arith, ints)
up_true (negsuc n) h = absurd (true≢false (sym h))

-- an end at this height is below, or in the plane and a corner of the triangle
abbrev is_below : Tri → ℕ → ℤ → Bool
is_below t n (negsuc k) = true
is_below t n (pos zero) = has t n
is_below t n (pos (suc k)) = false

abbrev pub IsBelowOrCorner : Tri → ℕ → ℤ → Type 0
IsBelowOrCorner t n z = (z <ℤ pos 0) ⊎ ((z ≡ pos 0) × IsCornerOf t n)

below_true : (t : Tri) (n : ℕ) (z : ℤ) → is_below t n z ≡ true → IsBelowOrCorner t n z
below_true t n (negsuc k) h = inl (omega (arith, ints))
below_true t n (pos zero) h = inr (refl, has_true t n h)
below_true t n (pos (suc k)) h = absurd (true≢false (sym h))

-- how high a corner is, by a plane's function
abbrev pub height_at : Triple × ℤ → ℕ → ℤ
height_at plane m = dot plane.0 (own_corner m) +ℤ plane.1

abbrev plane : ℤ → ℤ → ℤ → ℤ → Triple × ℤ
plane x y z v = (record { x = x; y = y; z = z }, v)

-- the faces' planes, and through each diagonal of a face a plane that is tilted a little
abbrev planes : List (Triple × ℤ)
planes =
    plane (pos 0) (pos 0) (negsuc 0) (pos 0) ∷ plane (negsuc 0) (pos 1) (negsuc 0) (pos 0) ∷ plane (pos 1) (negsuc 0) (negsuc 0) (pos 0)
    ∷ plane (pos 0) (pos 0) (pos 1) (negsuc 9999) ∷ plane (pos 1) (negsuc 0) (pos 1) (negsuc 9999) ∷ plane (negsuc 0) (pos 1) (pos 1) (negsuc 9999)
    ∷ plane (pos 0) (negsuc 0) (pos 0) (pos 0) ∷ plane (negsuc 0) (negsuc 0) (pos 1) (pos 0)
    ∷ plane (pos 1) (pos 0) (pos 0) (negsuc 9999) ∷ plane (pos 1) (pos 1) (negsuc 0) (negsuc 9999)
    ∷ plane (pos 0) (pos 1) (pos 0) (negsuc 9999) ∷ plane (pos 1) (pos 1) (pos 1) (negsuc 19999)
    ∷ plane (negsuc 0) (pos 0) (pos 0) (pos 0) ∷ plane (negsuc 0) (negsuc 0) (negsuc 0) (pos 10000) ∷ []

abbrev keeps : Tri → ℕ → ℕ → Triple × ℤ → Bool
keeps t p q f = (is_up (height_at f t.a) && (is_up (height_at f t.b) && is_up (height_at f t.c))) && (is_below t p (height_at f p) && is_below t q (height_at f q))

-- the triangle is above the plane or in it, and the side's ends are below or are corners of both
pub record KeepsApart (t : Tri) (p q : ℕ) (f : Triple × ℤ) : Type 0 where
  pub above_a : pos 0 ≤ℤ height_at f t.a
  pub above_b : pos 0 ≤ℤ height_at f t.b
  pub above_c : pos 0 ≤ℤ height_at f t.c
  pub first : IsBelowOrCorner t p (height_at f p)
  pub second : IsBelowOrCorner t q (height_at f q)

keeps_true : (t : Tri) (p q : ℕ) (f : Triple × ℤ) → keeps t p q f ≡ true → KeepsApart t p q f
keeps_true t p q f h =
    let halves = and_parts (is_up (height_at f t.a) && (is_up (height_at f t.b) && is_up (height_at f t.c))) (is_below t p (height_at f p) && is_below t q (height_at f q)) h in
    let above = and_parts (is_up (height_at f t.a)) (is_up (height_at f t.b) && is_up (height_at f t.c)) halves.0 in
    let last = and_parts (is_up (height_at f t.b)) (is_up (height_at f t.c)) above.1 in
    let ends = and_parts (is_below t p (height_at f p)) (is_below t q (height_at f q)) halves.1 in
    record {
      above_a = up_true (height_at f t.a) above.0;
      above_b = up_true (height_at f t.b) last.0;
      above_c = up_true (height_at f t.c) last.1;
      first = below_true t p (height_at f p) ends.0;
      second = below_true t q (height_at f q) ends.1;
    }

abbrev kept : ℕ → ℕ → ℕ → Bool
kept l m j = (has (tri_at l) (start_of (tri_at m) j) && has (tri_at l) (end_of (tri_at m) j)) || list_any (keeps (tri_at l) (start_of (tri_at m) j) (end_of (tri_at m) j)) planes

abbrev kept_all : ℕ → ℕ → Bool
kept_all l m = list_all (λ j. kept l m j) (below 3)

abbrev all_kept : ℕ → Bool
all_kept l = list_all (λ m. kept_all l m) (below 12)

each_kept : list_all all_kept (below 12) ≡ true
each_kept = refl

-- of a triangle and a side of the cube, the triangle has both ends, or a plane keeps them apart
pub plane_between : (l m j : ℕ) → l < 12 → m < 12 → j < 3
    → (IsCornerOf (tri_at l) (start_of (tri_at m) j) × IsCornerOf (tri_at l) (end_of (tri_at m) j)) ⊎ ((f : Triple × ℤ) × KeepsApart (tri_at l) (start_of (tri_at m) j) (end_of (tri_at m) j) f)
plane_between l m j a b c =
    by (or_cases (has (tri_at l) (start_of (tri_at m) j) && has (tri_at l) (end_of (tri_at m) j)) (list_any (keeps (tri_at l) (start_of (tri_at m) j) (end_of (tri_at m) j)) planes)
    (each_of 3 (λ j. kept l m j) (each_of 12 (λ m. kept_all l m) (each_of 12 all_kept each_kept l a) m b) j c))
  where
    by : ((has (tri_at l) (start_of (tri_at m) j) && has (tri_at l) (end_of (tri_at m) j)) ≡ true) ⊎ (list_any (keeps (tri_at l) (start_of (tri_at m) j) (end_of (tri_at m) j)) planes ≡ true)
        → (IsCornerOf (tri_at l) (start_of (tri_at m) j) × IsCornerOf (tri_at l) (end_of (tri_at m) j)) ⊎ ((f : Triple × ℤ) × KeepsApart (tri_at l) (start_of (tri_at m) j) (end_of (tri_at m) j) f)
    by (inl both) =
        let ends = and_parts (has (tri_at l) (start_of (tri_at m) j)) (has (tri_at l) (end_of (tri_at m) j)) both in
        inl (has_true (tri_at l) (start_of (tri_at m) j) ends.0, has_true (tri_at l) (end_of (tri_at m) j) ends.1)
    by (inr some) =
        let (k, f, less, is, passes) = Any-from_list_any (keeps (tri_at l) (start_of (tri_at m) j) (end_of (tri_at m) j)) planes some in
        inr (f, keeps_true (tri_at l) (start_of (tri_at m) j) (end_of (tri_at m) j) f passes)

-- ---- triangles that aren't flat
abbrev pub between : Triple → Triple → Triple
between s t = record { x = t.x -ℤ s.x; y = t.y -ℤ s.y; z = t.z -ℤ s.z }

abbrev pub own_normal : Tri → Triple
own_normal t = cross (between (own_corner t.a) (own_corner t.b)) (between (own_corner t.a) (own_corner t.c))

abbrev is_flat : ℕ → Bool
is_flat l = int_eq (own_normal (tri_at l)).x (pos 0) && (int_eq (own_normal (tri_at l)).y (pos 0) && int_eq (own_normal (tri_at l)).z (pos 0))

each_proper : list_all (λ l. not (is_flat l)) (below 12) ≡ true
each_proper = refl

not_both : (b : Bool) → b ≡ true → not b ≡ true → ⊥
not_both true h k = true≢false (sym k)
not_both false h k = true≢false (sym h)

pub none_flat : (l : ℕ) → l < 12 → IsZero (own_normal (tri_at l)) → ⊥
none_flat l h zero_normal =
    not_both (is_flat l)
    (both_true _ _ ((Decides-int_eq (own_normal (tri_at l)).x (pos 0)).1 zero_normal.x) (both_true _ _ ((Decides-int_eq (own_normal (tri_at l)).y (pos 0)).1 zero_normal.y) ((Decides-int_eq (own_normal (tri_at l)).z (pos 0)).1 zero_normal.z)))
    (each_of 12 (λ l. not (is_flat l)) each_proper l h)

-- ---- how far the cube reaches
abbrev reaches : ℕ → Bool
reaches m =
    (is_up (own_corner m).x && is_up (pos 10000 -ℤ (own_corner m).x)) && ((is_up (own_corner m).y && is_up (pos 10000 -ℤ (own_corner m).y)) && (is_up (own_corner m).z && is_up (pos 10000 -ℤ (own_corner m).z)))

each_reaches : list_all reaches (below 8) ≡ true
each_reaches = refl

abbrev pub IsInReach : ℤ → Type 0
IsInReach z = (pos 0 ≤ℤ z) × (z ≤ℤ pos 10000)

in_reach : (z : ℤ) → (is_up z && is_up (pos 10000 -ℤ z)) ≡ true → IsInReach z
in_reach z h = let both = and_parts (is_up z) (is_up (pos 10000 -ℤ z)) h in let more = up_true (pos 10000 -ℤ z) both.1 in (up_true z both.0, omega (arith, ints, more))

pub own_reach : (m : ℕ) → m < 8 → IsInReach (own_corner m).x × IsInReach (own_corner m).y × IsInReach (own_corner m).z
own_reach m h =
    let all = and_parts (is_up (own_corner m).x && is_up (pos 10000 -ℤ (own_corner m).x))
    ((is_up (own_corner m).y && is_up (pos 10000 -ℤ (own_corner m).y)) && (is_up (own_corner m).z && is_up (pos 10000 -ℤ (own_corner m).z))) (each_of 8 reaches each_reaches m h) in
    let others = and_parts (is_up (own_corner m).y && is_up (pos 10000 -ℤ (own_corner m).y)) (is_up (own_corner m).z && is_up (pos 10000 -ℤ (own_corner m).z)) all.1 in
    (in_reach (own_corner m).x all.0, in_reach (own_corner m).y others.0, in_reach (own_corner m).z others.1)
