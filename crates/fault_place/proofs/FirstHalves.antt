-- One half more: the sides along the first halves, and the edges among them.
use Rattle.std.proofs.Common.{◌≡◌, ◌⊎◌, inl, inr, ℕ, ◌+◌, ◌*◌, ◌<◌, ◌≤◌, ◌==◌, Bool, true, false, cond, List, Contains, length, get_or, Some, refl, sym, ap, subst, ◌∙◌, arith, true≢false}
use Rattle.std.specs.Prelude.{slice_index}
use Rattle.std.specs.Bool.{Decides}
use Rattle.std.specs.List.{list_any}
use Rattle.std.specs.List.Sorted.{IsStrictlyIncreasing}
use Rattle.std.proofs.lemmas.Bool.{cases_lt}
use Rattle.std.proofs.lemmas.Bool.Decides.{Decides-eqb, Decides-and, Decides-like}
use Rattle.std.proofs.lemmas.List.Kept.{AllPairs-from_increasing}
use Rattle.std.proofs.lemmas.Option.{slice_get-get_or, get_or_from_slice_get}
use Rattle.geometry.specs.Parts.{Part, IsHalf, IsTwin, IsClosed, AreEdges}
use Rattle.solid_mesh.proofs.HalfLemmas.{half_within, start_of_half, end_of_half}
use Rattle.fault_place.specs.declared.halves.DirectedSide.{DirectedSide}
use Rattle.fault_place.specs.inner.Halves.{same_side, AreFirstSides, AreBelow, AreFirstEdges, HasEdge, IsHalfOfEdge}

decides_same : (v w : DirectedSide) → Decides (same_side v w) (v ≡ w)
decides_same v w =
    Decides-like (same_side v w) (λ (p, q). λ i. record { from = p i; to = q i }) (λ e. (ap (λ (d : DirectedSide). d.from) e, ap (λ (d : DirectedSide). d.to) e))
    (Decides-and (v.from == w.from) (v.to == w.to) (Decides-eqb v.from w.from) (Decides-eqb v.to w.to))

-- ---- the numbers of a list that are below a bound
-- an element is the same whatever would stand past the end
same_index : (xs : List ℕ) (k d e : ℕ) → k < length xs → get_or xs k d ≡ get_or xs k e
same_index xs k d e h = get_or_from_slice_get xs k (get_or xs k e) d (slice_get-get_or xs k e h)

module _ (xs : List ℕ) (ascending : IsStrictlyIncreasing xs) (bound count : ℕ) (h : AreBelow bound count xs) where
  -- the bound is in the list: it is the first number that isn't below
  pub first_not_below : Contains xs bound → (count < length xs) × (slice_index xs count ≡ bound)
  first_not_below (j, within, is) = by (cases_lt j count) (cases_lt count j)
    where
      here : slice_index xs j ≡ bound
      here = same_index xs j 0 bound within ∙ is

      by : ((j < count) ⊎ (count ≤ j)) → ((count < j) ⊎ (j ≤ count)) → (count < length xs) × (slice_index xs count ≡ bound)
      by (inl less) q = let low = h.before j less in absurd (omega (arith, low, here))
      by (inr p) (inl less) =
          let low = h.behind count (omega arith) (omega arith) in
          let up = AllPairs-from_increasing xs ascending count j 0 less within in
          absurd (omega (arith, low, up, here))
      by (inr p) (inr q) = let same : j ≡ count = omega arith in (omega arith, ap (slice_index xs) (sym same) ∙ here)

  pub bound_listed : Contains xs bound → AreBelow (bound + 1) (count + 1) xs
  bound_listed there =
      let f = first_not_below there in
      record {
        within = omega (arith, f.0);
        before = λ i less. before f i (cases_lt i count) less;
        behind = λ i more within. let up = AllPairs-from_increasing xs ascending count i 0 (omega arith) within in omega (arith, up, f.1);
      }
    where
      before : (count < length xs) × (slice_index xs count ≡ bound) → (i : ℕ) → ((i < count) ⊎ (count ≤ i)) → i < count + 1 → slice_index xs i < bound + 1
      before f i (inl less) _ = let low = h.before i less in omega (arith, low)
      before f i (inr more) less = let same : i ≡ count = omega arith in let e = ap (slice_index xs) same in omega (arith, e, f.1)

  pub bound_unlisted : (Contains xs bound → ⊥) → AreBelow (bound + 1) count xs
  bound_unlisted none = record {
    within = h.within;
    before = λ i less. let low = h.before i less in omega (arith, low);
    behind = λ i more within. behind i within (h.behind i more within) (cases_lt bound (slice_index xs i));
  }
    where
      behind : (i : ℕ) → i < length xs → bound ≤ slice_index xs i → ((bound < slice_index xs i) ⊎ (slice_index xs i ≤ bound)) → bound + 1 ≤ slice_index xs i
      behind i within low (inl less) = omega (arith, less)
      behind i within low (inr more) = let e : slice_index xs i ≡ bound = omega arith in absurd (none (i, within, same_index xs i bound 0 within ∙ e))

-- ---- one half more
module _ (s : Part) (half : ℕ) (v : DirectedSide) (goes : IsHalf s half v.from v.to) where
  pub sides_more : (old new : List DirectedSide) → AreFirstSides s half old
      → ((q : DirectedSide) → list_any (same_side q) new ≡ cond (same_side v q) true (list_any (same_side q) old)) → AreFirstSides s (half + 1) new
  sides_more old new h e m n = (there (same_side v q) refl, λ (k, less, is). back k less is (cases_lt k half))
    where
      q : DirectedSide
      q = record { from = m; to = n }

      there : (b : Bool) → same_side v q ≡ b → list_any (same_side q) new ≡ true → (k : ℕ) × (k < half + 1) × IsHalf s k m n
      there true is t =
          let same : v ≡ q = (decides_same v q).0 is in
          (half, omega arith, subst (λ (w : DirectedSide). IsHalf s half w.from w.to) same goes)
      there false is t =
          let (k, less, at) = (h m n).0 (sym (ap (λ (b : Bool). cond b true (list_any (same_side q) old)) is) ∙ sym (e q) ∙ t) in
          (k, omega arith, at)

      put : (b : Bool) → list_any (same_side q) old ≡ true → cond b true (list_any (same_side q) old) ≡ true
      put true t = refl
      put false t = t

      back : (k : ℕ) → k < half + 1 → IsHalf s k m n → ((k < half) ⊎ (half ≤ k)) → list_any (same_side q) new ≡ true
      back k less is (inl before) = e q ∙ put (same_side v q) ((h m n).1 (k, before, is))
      back k less is (inr after) =
          let here : half ≡ k = omega arith in
          let at : IsHalf s half m n = subst (λ (i : ℕ). IsHalf s i m n) (sym here) is in
          let from : v.from ≡ m = sym (start_of_half s half goes) ∙ start_of_half s half at in
          let to : v.to ≡ n = sym (end_of_half s half goes) ∙ end_of_half s half at in
          let same : same_side v q ≡ true = (decides_same v q).1 (λ i. record { from = from i; to = to i }) in
          e q ∙ ap (λ (b : Bool). cond b true (list_any (same_side q) old)) same

  module _ (closed : IsClosed s) (sides : List DirectedSide) (are : AreFirstSides s (half + 1) sides) (halves : List ℕ) (edges : AreEdges s halves) where
    -- no half up to this one goes back: it is an edge's
    pub half_listed : list_any (same_side (record { from = v.to; to = v.from })) sides ≡ false → Contains halves half
    half_listed none = by (closed.returns half v.from v.to goes)
      where
        later : (other : ℕ) → IsHalf s other v.to v.from → ((half < other) ⊎ (other ≤ half)) → half < other
        later other back (inl less) = less
        later other back (inr more) = absurd (true≢false (sym ((are v.to v.from).1 (other, omega arith, back)) ∙ none))

        by : (other : ℕ) × IsHalf s other v.to v.from → Contains halves half
        by (other, back) =
            (edges.exactly half).1 (other, record { m = v.from; n = v.to; goes = goes; returns = back }, later other back (cases_lt half other))

    -- an earlier one goes back: it is none
    pub half_unlisted : list_any (same_side (record { from = v.to; to = v.from })) sides ≡ true → Contains halves half → ⊥
    half_unlisted some there = by ((are v.to v.from).0 some) ((edges.exactly half).0 there)
      where
        by : (k : ℕ) × (k < half + 1) × IsHalf s k v.to v.from → (other : ℕ) × IsTwin s half other × (half < other) → ⊥
        by (k, less, back) (other, twin, after) =
            let from : twin.m ≡ v.from = sym (start_of_half s half twin.goes) ∙ start_of_half s half goes in
            let to : twin.n ≡ v.to = sym (end_of_half s half twin.goes) ∙ end_of_half s half goes in
            let back' : IsHalf s other v.to v.from = subst (λ (i : ℕ). IsHalf s other v.to i) from (subst (λ (i : ℕ). IsHalf s other i twin.m) to twin.returns) in
            let same : k ≡ other = closed.once k other v.to v.from back back' in
            omega arith

  module _ (closed : IsClosed s) (sides : List DirectedSide) (are : AreFirstSides s (half + 1) sides) (count : ℕ) (first : AreFirstEdges s half count) where
    pub edges_more : list_any (same_side (record { from = v.to; to = v.from })) sides ≡ false → AreFirstEdges s (half + 1) (count + 1)
    edges_more none halves edges = bound_listed halves edges.ascending half count (first halves edges) (half_listed closed sides are halves edges none)

    pub edges_same : list_any (same_side (record { from = v.to; to = v.from })) sides ≡ true → AreFirstEdges s (half + 1) count
    edges_same some halves edges = bound_unlisted halves edges.ascending half count (first halves edges) (half_unlisted closed sides are halves edges some)

    -- so many edges are before it, and so that is the number of its edge
    pub edge_here : list_any (same_side (record { from = v.to; to = v.from })) sides ≡ false → IsHalfOfEdge s count half
    edge_here none halves edges =
        let f = first_not_below halves edges.ascending half count (first halves edges) (half_listed closed sides are halves edges none) in
        slice_get-get_or halves count 0 f.0 ∙ ap Some f.1

-- an edge goes along a half
pub edge_passed : (s : Part) (edge count : ℕ) → HasEdge s edge → AreFirstEdges s (3 * length s.triangles) count → count ≤ edge → ⊥
edge_passed s edge count (halves, edges, within) first few =
    let at = slice_index halves edge in
    let (other, twin, after) = (edges.exactly at).0 (edge, within, same_index halves edge at 0 within) in
    let low = (first halves edges).behind edge few within in
    let high = half_within s at twin.goes in
    omega (arith, low, high)
