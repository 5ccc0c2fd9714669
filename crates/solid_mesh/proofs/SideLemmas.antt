-- From the list of a part's sides to its halves.
use Rattle.std.proofs.Common.{◌≡◌, ℕ, ◌+◌, ◌*◌, ◌/◌, ◌%◌, ◌<◌, ◌≤◌, ◌⊎◌, inl, inr, ◌&&◌, ◌==◌, Bool, true, false, not, if◌then◌else◌, List, [], ◌∷◌, ◌++◌, Contains, length, get_or, slice_get, Some, refl, sym, ap, subst, ◌∙◌, arith, true≢false, position, below_more}
use Rattle.std.specs.Bool.{Decides}
use Rattle.std.specs.List.{IsDistinct, list_any}
use Rattle.std.proofs.lemmas.Bool.{cases_lt, cases_order, not-true, not-false}
use Rattle.std.proofs.lemmas.Bool.Decides.{Decides-eqb, Decides-and, Decides-like}
use Rattle.std.proofs.lemmas.List.FromFn.{length-map-range_with_len, get_or-map-range_with_len, map-range_with_len_more}
use Rattle.indexmap.specs.IndexSet.{insert_key}
use Rattle.indexmap.proofs.CallerLemmas.{Contains-list_any}
use Rattle.std.proofs.lemmas.Map.Keys.{any_passes_from_place}
use Rattle.std.proofs.lemmas.Map.Made.{AllPairs-from_IsDistinct}
use Rattle.std.proofs.Math.ListN.{get_or-append}
use Rattle.std.proofs.Math.Seq.{get_or-append_seam}
use Rattle.std.proofs.lemmas.List.Quantifiers.{position-Some}
use Rattle.std.proofs.lemmas.Option.{slice_get-get_or}
use Rattle.lattice.specs.declared.soup.Tri.{Tri}
use Rattle.geometry.specs.Parts.{Part, IsHalf, HasNoFlatTriangle, HasNoSideTwice}
use Rattle.solid_mesh.specs.declared.faults.MeshFault.TheVariants.{Unpaired}
use Rattle.solid_mesh.specs.Faults.{IsLeast, IsUnpaired, HasFault}
use Rattle.solid_mesh.specs.inner.Halves.{start_at, end_at, side_at, sides_of, first_sides, GoesBack}
use Rattle.solid_mesh.specs.declared.sides.DirectedSide.{DirectedSide}
use Rattle.solid_mesh.proofs.FirstFound.{first_is_least}
use Rattle.solid_mesh.proofs.HalfLemmas.{half_between, half_within, start_of_half, end_of_half}

-- the test of two sides, number by number
abbrev pub same_side : DirectedSide → DirectedSide → Bool
same_side x y = (x.from == y.from) && (x.to == y.to)

pub decides_same : (x y : DirectedSide) → Decides (same_side x y) (x ≡ y)
decides_same x y =
    Decides-like (same_side x y) (λ (p, q). λ i. record { from = p i; to = q i }) (λ e. (ap (λ (s : DirectedSide). s.from) e, ap (λ (s : DirectedSide). s.to) e))
    (Decides-and (x.from == y.from) (x.to == y.to) (Decides-eqb x.from y.from) (Decides-eqb x.to y.to))

-- the side back
abbrev pub reversed : DirectedSide → DirectedSide
reversed x = record { from = x.to; to = x.from }

module _ (triangles : List Tri) (n : ℕ) where
  pub side_here : (k : ℕ) (d : DirectedSide) → k < n → get_or (first_sides triangles n) k d ≡ side_at triangles k
  side_here k d h = get_or-map-range_with_len (side_at triangles) 0 n k k d h (omega arith)

  pub few_sides : length (first_sides triangles n) ≡ n
  few_sides = length-map-range_with_len (side_at triangles) 0 n

  module _ (keys : List DirectedSide) (e : keys ≡ first_sides triangles n) where
    pub count_of : length keys ≡ n
    count_of = ap length e ∙ few_sides

    -- the first sides, by their own count
    pub by_count : keys ≡ first_sides triangles (length keys)
    by_count = e ∙ ap (first_sides triangles) (sym count_of)

  -- where the first sides are distinct, no two of their halves have one side
  pub sides_apart : IsDistinct same_side (first_sides triangles n) → (i j : ℕ) → i < j → j < n → side_at triangles i ≡ side_at triangles j → ⊥
  sides_apart distinct i j less within e =
      AllPairs-from_IsDistinct decides_same (first_sides triangles n) distinct i j (side_at triangles 0) less (omega (arith, few_sides))
      (side_here i _ (omega arith) ∙ e ∙ sym (side_here j _ within))

module _ (s : Part) where
  half_with : (half m n : ℕ) → half < 3 * length s.triangles → side_at s.triangles half ≡ record { from = m; to = n } → IsHalf s half m n
  half_with half m n h e = half_between s half m n h (ap (λ (x : DirectedSide). x.from) e) (ap (λ (x : DirectedSide). x.to) e)

  side_of : (half m n : ℕ) → IsHalf s half m n → side_at s.triangles half ≡ record { from = m; to = n }
  side_of half m n h = λ i. record { from = start_of_half s half h i; to = end_of_half s half h i }

  -- two halves with the same ends have one side
  pub one_side : (half other m n : ℕ) → IsHalf s half m n → IsHalf s other m n → side_at s.triangles half ≡ side_at s.triangles other
  one_side half other m n g h = side_of half m n g ∙ sym (side_of other m n h)

  -- where no two sides are equal, no side occurs twice
  pub sides_once : IsDistinct same_side (sides_of s.triangles) → HasNoSideTwice s
  sides_once distinct half other m n g h = by (cases_order half other) (half_within s half g) (half_within s other h) (one_side half other m n g h)
    where
      by : (half ≡ other) ⊎ ((half < other) ⊎ (other < half)) → half < 3 * length s.triangles → other < 3 * length s.triangles → side_at s.triangles half ≡ side_at s.triangles other → half ≡ other
      by (inl e) p q same = e
      by (inr (inl less)) p q same = absurd (sides_apart s.triangles (3 * length s.triangles) distinct half other less q same)
      by (inr (inr less)) p q same = absurd (sides_apart s.triangles (3 * length s.triangles) distinct other half less p (sym same))

  module _ (half : ℕ) (keys : List DirectedSide) (v : DirectedSide) (in_order : keys ≡ first_sides s.triangles (length keys)) (is : v ≡ side_at s.triangles half) where
    key_here : (k : ℕ) (d : DirectedSide) → k < length keys → get_or keys k d ≡ side_at s.triangles k
    key_here k d h = ap (λ (xs : List DirectedSide). get_or xs k d) in_order ∙ side_here s.triangles (length keys) k d h

    -- a half with this side among the listed ones passes the test
    passes : (other : ℕ) (d : DirectedSide) → other < length keys → side_at s.triangles other ≡ side_at s.triangles half → same_side v (get_or keys other d) ≡ true
    passes other d h e = (decides_same _ _).1 (is ∙ sym e ∙ sym (key_here other d h))

    -- the place where the side is found is that of a half with this side, and of the first one
    pub found_same : (place : ℕ) → Some place ≡ position (same_side v) keys → (place < length keys) × (side_at s.triangles place ≡ side_at s.triangles half)
    found_same place e =
        let p = position-Some (same_side v) keys place v (sym e) in
        (p.0, sym (sym is ∙ (decides_same _ _).0 p.1 ∙ key_here place v p.0))

    pub found_first : (place : ℕ) → Some place ≡ position (same_side v) keys → (other : ℕ) → other < length keys → side_at s.triangles other ≡ side_at s.triangles half → place ≤ other
    found_first place e other h same = by (cases_lt other place)
      where
        by : ((other < place) ⊎ (place ≤ other)) → place ≤ other
        by (inl less) = absurd (true≢false (sym (passes other v h same) ∙ (position-Some (same_side v) keys place v (sym e)).2 other less))
        by (inr more) = more

    -- where the side isn't found, no listed half has it
    pub found_none : list_any (same_side v) keys ≡ false → (other : ℕ) → other < length keys → side_at s.triangles other ≡ side_at s.triangles half → ⊥
    found_none none other h same =
        true≢false (sym (any_passes_from_place _ keys other (get_or keys other v) (slice_get-get_or keys other v h) (passes other v h same)) ∙ none)

    -- where it is found, a listed half has it
    pub found_some : not (list_any (same_side v) keys) ≡ false → (other : ℕ) × (other < length keys) × (side_at s.triangles other ≡ side_at s.triangles half)
    found_some h = by (Contains-list_any same_side (λ x y. (decides_same x y).0) keys v (not-false (list_any (same_side v) keys) h))
      where
        by : Contains keys v → (other : ℕ) × (other < length keys) × (side_at s.triangles other ≡ side_at s.triangles half)
        by (k, within, e) = (k, within, sym (key_here k v within) ∙ e ∙ is)

  -- a side that is inserted now
  pub more_sides : (half : ℕ) (keys : List DirectedSide) (v : DirectedSide) → keys ≡ first_sides s.triangles half → v ≡ side_at s.triangles half
      → (new : List DirectedSide) → new ≡ insert_key same_side keys v → not (list_any (same_side v) keys) ≡ true → new ≡ first_sides s.triangles (half + 1)
  more_sides half keys v in_order is new e h =
      e ∙ ap (λ (b : Bool). if b then keys else keys ++ v ∷ []) (not-true (list_any (same_side v) keys) h)
      ∙ (λ i. in_order i ++ is i ∷ []) ∙ sym (map-range_with_len_more (side_at s.triangles) 0 half half (omega arith))

  -- a side that was inserted before changes nothing
  pub same_sides : (half : ℕ) (keys : List DirectedSide) (v : DirectedSide) → keys ≡ first_sides s.triangles half → (new : List DirectedSide) → new ≡ insert_key same_side keys v → not (list_any (same_side v) keys) ≡ false → new ≡ first_sides s.triangles half
  same_sides half keys v in_order new e h = e ∙ ap (λ (b : Bool). if b then keys else keys ++ v ∷ []) (not-false (list_any (same_side v) keys) h) ∙ in_order

  -- a side whose reverse isn't among all sides has none
  pub side_alone : (half : ℕ) → half < 3 * length s.triangles → list_any (same_side (reversed (side_at s.triangles half))) (sides_of s.triangles) ≡ false → IsUnpaired s half
  side_alone half h none = record {
    m = start_at s.triangles half;
    n = end_at s.triangles half;
    goes = half_with half _ _ h refl;
    alone = λ other back.
        let within : other < 3 * length s.triangles = half_within s other back in
        let at : slice_get (sides_of s.triangles) other ≡ Some (side_at s.triangles other) =
        slice_get-get_or (sides_of s.triangles) other (side_at s.triangles other) (omega (arith, few_sides s.triangles (3 * length s.triangles))) ∙ ap Some (side_here s.triangles (3 * length s.triangles) other _ within) in
        let same : same_side (reversed (side_at s.triangles half)) (side_at s.triangles other) ≡ true = (decides_same _ _).1 (sym (side_of other _ _ back)) in
        true≢false (sym (any_passes_from_place _ (sides_of s.triangles) other (side_at s.triangles other) at same) ∙ none);
  }

  -- the half at the place of a side's reverse goes back
  pub goes_back : (half other : ℕ) (d : DirectedSide) → other < length (sides_of s.triangles) → same_side (reversed (side_at s.triangles half)) (get_or (sides_of s.triangles) other d) ≡ true → GoesBack s.triangles half other
  goes_back half other d h t =
      let within : other < 3 * length s.triangles = omega (arith, few_sides s.triangles (3 * length s.triangles)) in
      let e = (decides_same _ _).0 t ∙ side_here s.triangles (3 * length s.triangles) other d within in
      record { within = within; start = sym (ap (λ (x : DirectedSide). x.from) e); end = sym (ap (λ (x : DirectedSide). x.to) e) }

  module _ (half : ℕ) (keys : List DirectedSide) (v : DirectedSide) (all : keys ≡ sides_of s.triangles) (is : v ≡ side_at s.triangles half) where
    -- the index of the side back is a half that goes back
    pub found_back : (other : ℕ) → Some other ≡ position (same_side (reversed v)) keys → GoesBack s.triangles half other
    found_back other e =
        let at : position (same_side (reversed (side_at s.triangles half))) (sides_of s.triangles) ≡ Some other =
        sym (e ∙ (λ i. position (same_side (reversed (is i))) (all i))) in
        let p = position-Some (same_side (reversed (side_at s.triangles half))) (sides_of s.triangles) other (side_at s.triangles half) at in
        goes_back half other (side_at s.triangles half) p.0 p.1

    -- where the side back is absent, the half has no reverse
    pub found_alone : half < 3 * length s.triangles → false ≡ list_any (same_side (reversed v)) keys → IsUnpaired s half
    found_alone h e = side_alone half h (sym (e ∙ (λ i. list_any (same_side (reversed (is i))) (all i))))

-- one half more has one that goes back
pub more_back : (triangles : List Tri) (half : ℕ) (xs new : List ℕ) (other : ℕ) → length xs ≡ half → ((k : ℕ) → k < half → GoesBack triangles k (get_or xs k 0)) → GoesBack triangles half other
    → new ≡ xs ++ other ∷ [] → (k : ℕ) → k < half + 1 → GoesBack triangles k (get_or new k 0)
more_back triangles half xs new other long old here e =
    below_more (λ k. GoesBack triangles k (get_or new k 0)) half
    (λ k h. subst (GoesBack triangles k) (sym (ap (λ (zs : List ℕ). get_or zs k 0) e ∙ get_or-append xs (other ∷ []) 0 k (omega arith))) (old k h))
    (subst (GoesBack triangles half) (sym (ap (λ (zs : List ℕ). get_or zs half 0) e ∙ ap (λ n. get_or (xs ++ other ∷ []) n 0) (sym long) ∙ get_or-append_seam xs other [] 0)) here)

-- the first half that has no reverse
pub unpaired : (s : Part) → HasNoFlatTriangle s → HasNoSideTwice s → (half : ℕ) → IsUnpaired s half → ((k : ℕ) → k < half → (other : ℕ) × GoesBack s.triangles k other) → HasFault s (Unpaired (half / 3) (half % 3))
unpaired s none_flat once half here before = (none_flat, once, omega arith, subst (IsLeast (IsUnpaired s)) whole least)
  where
    whole : half ≡ 3 * (half / 3) + half % 3
    whole = omega arith

    paired : (k : ℕ) → IsUnpaired s k → (other : ℕ) × GoesBack s.triangles k other → ⊥
    paired k alone (other, back) = alone.alone other (half_between s other alone.n alone.m back.within (back.start ∙ end_of_half s k alone.goes) (back.end ∙ start_of_half s k alone.goes))

    least : IsLeast (IsUnpaired s) half
    least = first_is_least (IsUnpaired s) half here (λ k less alone. paired k alone (before k less))
