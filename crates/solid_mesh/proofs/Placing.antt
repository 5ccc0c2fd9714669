-- Lists of the triangles of a part, in the order of their numbers and in others.
use Rattle.std.proofs.Common.{◌≡◌, ℕ, ◌+◌, ◌<◌, false, Result, Ok, Err, Vec, Global, List, [], ◌∷◌, ◌++◌, All, map, length, get_or, slice_get, Some, refl, sym, subst, ap, ◌∙◌, arith, eqb, true≢false}
use Rattle.std.specs.Prelude.{Contains, IfOk}
use Rattle.std.specs.List.{range_with_len}
use Rattle.std.specs.List.Sorted.{IsPermutation}
use Rattle.std.proofs.lemmas.Bool.Decides.{Decides-eqb, nat_tests}
use Rattle.std.proofs.lemmas.Option.{slice_get_within, get_or_from_slice_get}
use Rattle.std.proofs.lemmas.List.{length-map, get_or-map, map_push, map-id}
use Rattle.std.proofs.lemmas.List.Elements.{All-push, All-nil}
use Rattle.std.proofs.lemmas.List.FromFn.{length-range_with_len, get_or-range_with_len, map-range_with_len_more}
use Rattle.std.proofs.lemmas.List.Sorted.{IsPermutation-map, All-permutation, Contains-permutation, length_permutation}
use Rattle.std.proofs.lemmas.Map.Keys.{apart_from_distinct, IsDistinct-from_apart, IsDistinct-IsPermutation}
use Rattle.integers.proofs.Lists.{some_element}
use Rattle.geometry.specs.Parts.{Part}
use Rattle.solid_mesh.specs.inner.Trees.{IsPlaced, AreAllPlaced}
use Rattle.solid_mesh.specs.declared.placed.Placed.{Placed}

abbrev pub tri_of : Placed → ℕ
tri_of x = x.tri

-- the first n, in the order of their numbers
pub record AreNumbered (s : Part) (n : ℕ) (xs : List Placed) : Type 0 where
  pub each : All (IsPlaced s) xs
  pub numbers : map (λ (x : Placed). x.tri) xs ≡ range_with_len 0 n

module _ (s : Part) where
  pub none_placed : AreNumbered s 0 []
  none_placed = record { each = All-nil (IsPlaced s); numbers = refl }

  -- one more
  pub more_placed : (n : ℕ) (xs new : List Placed) (x : Placed) → AreNumbered s n xs → IsPlaced s x → x.tri ≡ n → new ≡ xs ++ x ∷ [] → AreNumbered s (n + 1) new
  more_placed n xs new x h here number e = record {
    each = subst (All (IsPlaced s)) (sym e) (All-push (IsPlaced s) xs x h.each here);
    numbers =
        ap (map tri_of) e ∙ map_push tri_of xs x ∙ (λ i. h.numbers i ++ number i ∷ [])
        ∙ (λ i. sym (map-id (range_with_len 0 n)) i ++ n ∷ []) ∙ sym (map-range_with_len_more (λ (k : ℕ). k) 0 n n (omega arith)) ∙ map-id (range_with_len 0 (n + 1));
  }

  -- all, in another order
  pub all_placed : {E : Type 0} (n : ℕ) (xs : List Placed) (r : Result (Vec Placed Global) E) → n ≡ length s.triangles → AreNumbered s n xs → IfOk r (λ v. IsPermutation xs v.items) → IfOk r (λ v. AreAllPlaced s v.items)
  all_placed n xs (Ok v) all h same = record {
    each = All-permutation (IsPlaced s) xs v.items same h.each;
    numbers = subst (λ (zs : List ℕ). IsPermutation zs (map tri_of v.items)) (h.numbers ∙ ap (range_with_len 0) all) (IsPermutation-map tri_of xs v.items same);
  }
  all_placed n xs (Err x) all h same = tt

  module _ (xs : List Placed) (h : AreAllPlaced s xs) where
    abbrev n : ℕ
    n = length s.triangles

    pub count_placed : length xs ≡ length s.triangles
    count_placed = sym (length-map xs tri_of) ∙ length_permutation (range_with_len 0 n) (map tri_of xs) h.numbers ∙ length-range_with_len 0 n

    -- triangles at two places are two
    pub places_differ : (i j : ℕ) (x y : Placed) → i < j → slice_get xs i ≡ Some x → slice_get xs j ≡ Some y → x.tri ≡ y.tri → ⊥
    places_differ i j x y less at_x at_y same =
        let within : j < length xs = slice_get_within xs j y at_y in
        let apart : (k l e : ℕ) → k < l → l < length (range_with_len 0 n) → eqb (get_or (range_with_len 0 n) k e) (get_or (range_with_len 0 n) l e) ≡ false = λ k l e low up.
        let within_n : l < n = omega (arith, length-range_with_len 0 n) in
        let first : get_or (range_with_len 0 n) k e ≡ 0 + k = get_or-range_with_len 0 n k e (omega arith) in
        let second : get_or (range_with_len 0 n) l e ≡ 0 + l = get_or-range_with_len 0 n l e within_n in
        unequal _ _ (omega arith) in
        let distinct = IsDistinct-IsPermutation eqb flips (range_with_len 0 n) (map tri_of xs) h.numbers (IsDistinct-from_apart eqb (range_with_len 0 n) apart) in
        let at_i : get_or (map tri_of xs) i 0 ≡ x.tri = get_or-map tri_of xs i x 0 (omega arith) ∙ ap tri_of (get_or_from_slice_get xs i x x at_x) in
        let at_j : get_or (map tri_of xs) j 0 ≡ y.tri = get_or-map tri_of xs j y 0 within ∙ ap tri_of (get_or_from_slice_get xs j y y at_y) in
        let differ = apart_from_distinct eqb (map tri_of xs) i j 0 distinct less (omega (arith, length-map xs tri_of)) in
        true≢false (sym ((Decides-eqb _ _).1 (at_i ∙ same ∙ sym at_j)) ∙ differ)
      where
        unequal : (x y : ℕ) → x < y → eqb x y ≡ false
        unequal x y less = grind (arith, nat_tests)

        flips : (x y : ℕ) → eqb x y ≡ eqb y x
        flips x y = grind (arith, nat_tests)

    -- each triangle has a place
    pub place_there : (i : ℕ) → i < length s.triangles → (k : ℕ) × (x : Placed) × (slice_get xs k ≡ Some x) × (x.tri ≡ i)
    place_there i within = by (Contains-permutation (range_with_len 0 n) (map tri_of xs) i h.numbers listed)
      where
        listed : Contains (range_with_len 0 n) i
        listed = (i, omega (arith, length-range_with_len 0 n), get_or-range_with_len 0 n i i within ∙ omega arith)

        by : Contains (map tri_of xs) i → (k : ℕ) × (x : Placed) × (slice_get xs k ≡ Some x) × (x.tri ≡ i)
        by (k, less, is) =
            let below : k < length xs = omega (arith, length-map xs tri_of) in
            let (x, there) = some_element xs k below in
            let here : get_or (map tri_of xs) k i ≡ x.tri = get_or-map tri_of xs k x i below ∙ ap tri_of (get_or_from_slice_get xs k x x there) in
            (k, x, there, sym here ∙ is)

-- a triangle at a place
pub placed_at : (s : Part) (xs : List Placed) → All (IsPlaced s) xs → (x : Placed) (k : ℕ) → slice_get xs k ≡ Some x → IsPlaced s x
placed_at s xs each x k at = subst (IsPlaced s) (get_or_from_slice_get xs k x x at) (each k x (slice_get_within xs k x at))

pub tri_within : (s : Part) (x : Placed) → IsPlaced s x → x.tri < length s.triangles
tri_within s x h = subst (λ (k : ℕ). k < length s.triangles) h.numbered (slice_get_within s.triangles h.face.number h.face.tri h.face.listed)
