-- The number of an edge in the list of all edges of a closed part, from its half and back.
use Rattle.std.proofs.Common.{◌≡◌, ◌⊎◌, inl, inr, ℕ, ◌<◌, ◌≤◌, List, Some, length, get_or, slice_get, sym, ap, subst, ◌∙◌, arith}
use Rattle.std.proofs.lemmas.Bool.{cases_lt}
use Rattle.std.proofs.lemmas.List.Kept.{AllPairs-from_increasing}
use Rattle.std.proofs.lemmas.Option.{slice_get-get_or, get_or_from_slice_get}
use Rattle.geometry.specs.Parts.{Part, IsHalf, IsTwin, IsClosed, AreEdges}
use Rattle.hiding_laws.proofs.MeshOfPart.{count, starts_at, ends_at, half_at, half_within, half_starts, half_ends, twin_of, twin_half}

-- the half of the edge with this number
abbrev pub half_of : List ℕ → ℕ → ℕ
half_of halves i = get_or halves i 0

module _ (s : Part) (closed : IsClosed s) (halves : List ℕ) (edges : AreEdges s halves) where
  twin_is : (h other : ℕ) → IsTwin s h other → twin_of s closed h ≡ other
  twin_is h other x =
      closed.once (twin_of s closed h) other x.n x.m
      (subst (λ (m : ℕ). IsHalf s (twin_of s closed h) m x.m) (half_ends s h x.goes)
      (subst (λ (n : ℕ). IsHalf s (twin_of s closed h) (ends_at s h) n) (half_starts s h x.goes) (twin_half s closed h (half_within s h x.goes))))
      x.returns

  module _ (i : ℕ) (l : i < length halves) where
    pub half_at_number : slice_get halves i ≡ Some (half_of halves i)
    half_at_number = slice_get-get_or halves i 0 l

    lower : (other : ℕ) × IsTwin s (half_of halves i) other × (half_of halves i < other)
    lower = (edges.exactly (half_of halves i)).0 (i, l, get_or_from_slice_get halves i (half_of halves i) (half_of halves i) half_at_number)

    pub half_of_within : half_of halves i < count s
    half_of_within = let x = lower in half_within s (half_of halves i) x.1.goes

    pub half_of_lower : half_of halves i < twin_of s closed (half_of halves i)
    half_of_lower = let x = lower in subst (λ (k : ℕ). half_of halves i < k) (sym (twin_is (half_of halves i) x.0 x.1)) x.2

  -- the number of a half that is lower than its twin
  pub number_of : (h : ℕ) → h < count s → h < twin_of s closed h → (i : ℕ) × (i < length halves) × (slice_get halves i ≡ Some h)
  number_of h l low =
      let twin : IsTwin s h (twin_of s closed h) = record { m = starts_at s h; n = ends_at s h; goes = half_at s h l; returns = twin_half s closed h l } in
      let x = (edges.exactly h).1 (twin_of s closed h, twin, low) in
      (x.0, x.1, slice_get-get_or halves x.0 h x.1 ∙ ap (λ (k : ℕ). Some k) x.2)

  pub half_of_one : (i j : ℕ) → i < length halves → j < length halves → half_of halves i ≡ half_of halves j → i ≡ j
  half_of_one i j l m e = by (cases_lt i j) (cases_lt j i)
    where
      far : (i j : ℕ) → i < j → j < length halves → half_of halves i < half_of halves j
      far i j g h = AllPairs-from_increasing halves edges.ascending i j 0 g h

      by : ((i < j) ⊎ (j ≤ i)) → ((j < i) ⊎ (i ≤ j)) → i ≡ j
      by (inl g) h = let f = far i j g m in absurd (omega arith)
      by (inr g) (inl h) = let f = far j i h l in absurd (omega arith)
      by (inr g) (inr h) = omega arith
