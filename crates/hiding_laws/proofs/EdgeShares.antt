-- A sum over the halves of a part, each pair once, is the total over a list of edges that has each one which counts.
use Rattle.std.proofs.Common.{◌≡◌, ◌≢◌, ℕ, ◌<◌, List, All, AllPairs, Contains, length, get_or, map, nat_lt, true, false, subst, ap, ◌∙◌, arith, ⊎_elim}
use Rattle.std.specs.Prelude.{ℤ, pos}
use Rattle.std.specs.List.{AllZip}
use Rattle.std.proofs.lemmas.Bool.{cases_Bool}
use Rattle.std.proofs.lemmas.Option.{get_or_from_slice_get}
use Rattle.lattice.specs.Triangles.{IsBelow as IsTriBelow}
use Rattle.lattice.specs.Triple.{Triple, IsZero}
use Rattle.geometry.specs.Parts.{Part, Edge, AreEdges, IsNumbered}
use Rattle.geometry.specs.Sound.{IsSound}
use Rattle.hiding_laws.specs.Sums.{total}
use Rattle.hiding_laws.proofs.SumsBelow.{sum_below}
use Rattle.hiding_laws.proofs.EdgeNumbers.{half_of, half_at_number, half_of_within, half_of_lower, number_of, half_of_one}
use Rattle.hiding_laws.proofs.HalfFaces.{edge_of}
use Rattle.hiding_laws.proofs.ListSums.{IsIn, listed_sum, map_in, different_map, zip_map}
use Rattle.hiding_laws.proofs.MeshOfPart.{count, twin_of}

pub lower_true : (m n : ℕ) → m < n → nat_lt m n ≡ true
lower_true m n h = grind arith

true_lower : (m n : ℕ) → nat_lt m n ≡ true → m < n
true_lower m n e = grind arith

module _ (d : Triple) (directed : ¬ IsZero d) (s : Part) (sound : IsSound s) (in_range : All (IsTriBelow (length s.corners)) s.triangles) where
  abbrev edge : (h : ℕ) → h < count s → Edge s
  edge h l = edge_of d directed s sound in_range h l

  abbrev IsLower : ℕ → Type 0
  IsLower h = h < twin_of s sound.closed h

  module _ (share : ℕ → ℤ) (not_lower : (h : ℕ) → nat_lt h (twin_of s sound.closed h) ≡ false → share h ≡ pos 0)
      (Counts : Edge s → Type 0) (none : (h : ℕ) (l : h < count s) → IsLower h → ¬ Counts (edge h l) → share h ≡ pos 0)
      (HasShare : Edge s → ℤ → Type 0) (is : (h : ℕ) (l : h < count s) (z : ℤ) → IsLower h → HasShare (edge h l) z → z ≡ share h)
      (halves : List ℕ) (edges : AreEdges s halves) (numbers : List ℕ) (listed : All (λ i. i < length halves) numbers) (once : AllPairs ◌≢◌ numbers)
      (whole : (i : ℕ) (o : Edge s) → IsNumbered halves i o → Counts o → Contains numbers i) where
    abbrev half : ℕ → ℕ
    half i = half_of halves i

    elsewhere : (h : ℕ) → h < count s → ¬ IsIn h (map half numbers) → share h ≡ pos 0
    elsewhere h l out =
        ⊎_elim (λ t. none h l (true_lower h (twin_of s sound.closed h) t) (never (true_lower h (twin_of s sound.closed h) t))) (λ f. not_lower h f) (cases_Bool (nat_lt h (twin_of s sound.closed h)))
      where
        never : IsLower h → ¬ Counts (edge h l)
        never low x =
            let r = number_of s sound.closed halves edges h l low in
            let there = whole r.0 (edge h l) r.2 x in
            let at : get_or numbers there.0 r.0 ≡ r.0 = there.2 in
            let same : half (get_or numbers there.0 r.0) ≡ h = ap half at ∙ get_or_from_slice_get halves r.0 h 0 r.2 in
            out (subst (λ j. IsIn j (map half numbers)) same (map_in half numbers there.0 r.0 there.1))

    module _ {A : Type 0} (value : A → ℤ) (changes : List A) where
      abbrev IsChange : ℕ → A → Type 0
      IsChange i x = (o : Edge s) → IsNumbered halves i o → HasShare o (value x)

      abbrev IsShare : ℕ → A → Type 0
      IsShare h x = (h < count s) × (value x ≡ share h)

      share_of : (i : ℕ) (x : A) → i < length halves → IsChange i x → IsShare (half i) x
      share_of i x l has =
          let h = half i in
          let j = half_of_within s sound.closed halves edges i l in
          (j, is h j (value x) (half_of_lower s sound.closed halves edges i l) (has (edge h j) (half_at_number s sound.closed halves edges i l)))

      pub edges_total : AllZip IsChange numbers changes → sum_below share (count s) ≡ total value changes
      edges_total all =
          listed_sum value (count s) share (map half numbers) changes
          (different_map half (length halves) (half_of_one s sound.closed halves edges) numbers listed once)
          (zip_map half (length halves) IsChange IsShare numbers changes listed share_of all) elsewhere
