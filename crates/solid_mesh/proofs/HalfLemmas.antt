-- Halves and twins by their numbers, and by their triangles.
use Rattle.std.proofs.Common.{◌≡◌, ℕ, ◌+◌, ◌*◌, ◌/◌, ◌%◌, ◌<◌, ◌≤◌, Bool, true, false, cond, List, [], ◌∷◌, ◌++◌, filter, length, get_or, refl, sym, ap, ◌∙◌, arith, append-nil}
use Rattle.std.specs.List.{range_with_len}
use Rattle.std.proofs.lemmas.Option.{slice_get-get_or, get_or_from_slice_get, slice_get_within, slice_get_read}
use Rattle.lattice.specs.declared.soup.Tri.{Tri}
use Rattle.geometry.specs.Parts.{Part, IsHalf, IsTwin, IsClosed, AreEdges, start_of, end_of, HasNoFlatTriangle, HasNoSideTwice}
use Rattle.solid_mesh.specs.inner.Halves.{triangle_at, start_at, end_at, AreTwins, is_lower, lower_halves_of}
use Rattle.integers.proofs.Passing as passing
use Rattle.std.proofs.lemmas.Bool.Decides.{Decides-ltb}

module _ (s : Part) (half : ℕ) where
  -- a number below three times the number of triangles is a half
  pub half_between : (m n : ℕ) → half < 3 * length s.triangles → start_at s.triangles half ≡ m → end_at s.triangles half ≡ n → IsHalf s half m n
  half_between m n h start end = record {
    tri = triangle_at s.triangles half;
    at = slice_get-get_or s.triangles (half / 3) (record { a = 0; b = 0; c = 0 }) (omega arith);
    start = start;
    end = end;
  }

  module _ {m n : ℕ} (h : IsHalf s half m n) where
    pub half_within : half < 3 * length s.triangles
    half_within = let k : half / 3 < length s.triangles = slice_get_within s.triangles (half / 3) h.tri h.at in omega arith

    pub start_of_half : start_at s.triangles half ≡ m
    start_of_half = ap (λ (t : Tri). start_of t (half % 3)) (get_or_from_slice_get s.triangles (half / 3) h.tri _ h.at) ∙ h.start

    pub end_of_half : end_at s.triangles half ≡ n
    end_of_half = ap (λ (t : Tri). end_of t (half % 3)) (get_or_from_slice_get s.triangles (half / 3) h.tri _ h.at) ∙ h.end

module _ (s : Part) (twins : List ℕ) (t : AreTwins s.triangles twins) where
  -- what the table gives for a half goes back
  pub table_returns : (half : ℕ) {m n : ℕ} → IsHalf s half m n → IsHalf s (get_or twins half 0) n m
  table_returns half {m} {n} h =
      let w : half < length twins = omega (arith, t.for_each, half_within s half h) in
      let g = t.back half w in
      half_between s (get_or twins half 0) n m g.within (g.start ∙ end_of_half s half h) (g.end ∙ start_of_half s half h)

  pub table_twin : (half : ℕ) → half < length twins → IsTwin s half (get_or twins half 0)
  table_twin half w =
      let goes : IsHalf s half (start_at s.triangles half) (end_at s.triangles half) = half_between s half _ _ (omega (arith, t.for_each)) refl refl in
      record { m = start_at s.triangles half; n = end_at s.triangles half; goes = goes; returns = table_returns half goes }

  -- a part with such a table is closed, if no triangle is flat and no side occurs twice
  pub table_closed : HasNoFlatTriangle s → HasNoSideTwice s → IsClosed s
  table_closed none_flat once = record { none_flat = none_flat; once = once; returns = λ half m n h. (get_or twins half 0, table_returns half h) }

  -- the table's lower halves are the edges
  pub table_edges : HasNoSideTwice s → AreEdges s (lower_halves_of twins)
  table_edges once = record {
    ascending = passing.increasing (is_lower twins) (length twins);
    exactly = λ half. (
      (λ h.
          let p : (half < length twins) × (is_lower twins half ≡ true) = (passing.contains_exactly (is_lower twins) (length twins) half).0 h in
          (get_or twins half 0, table_twin half p.0, (Decides-ltb half (get_or twins half 0)).0 p.1)),
      (λ (other, twin, less).
          let same : other ≡ get_or twins half 0 = once other (get_or twins half 0) _ _ twin.returns (table_returns half twin.goes) in
          let less' : half < get_or twins half 0 = omega arith in
          (passing.contains_exactly (is_lower twins) (length twins) half).1
          (omega (arith, t.for_each, half_within s half twin.goes), (Decides-ltb half (get_or twins half 0)).1 less')),
    );
  }

-- a number that was read from a list is the same with 0 for the default
pub read_number : (xs : List ℕ) (i x : ℕ) → i < length xs → x ≡ get_or xs i x → get_or xs i 0 ≡ x
read_number xs i x h e = get_or_from_slice_get xs i x 0 (slice_get_read xs (length xs) i x refl h e)

-- one half more is tested, and listed if it is lower than its twin
module _ (twins : List ℕ) (half : ℕ) (items : List ℕ) (so_far : items ≡ filter (is_lower twins) (range_with_len 0 half)) where
  pub lower_listed : half < get_or twins half 0 → (new : List ℕ) → new ≡ items ++ half ∷ [] → new ≡ filter (is_lower twins) (range_with_len 0 (half + 1))
  lower_listed h new e =
      e ∙ ap (λ (xs : List ℕ). xs ++ half ∷ []) so_far
      ∙ sym (passing.more (is_lower twins) half ∙ ap (λ (b : Bool). filter (is_lower twins) (range_with_len 0 half) ++ cond b (half ∷ []) []) ((Decides-ltb half (get_or twins half 0)).1 h))

  pub upper_passed : get_or twins half 0 ≤ half → items ≡ filter (is_lower twins) (range_with_len 0 (half + 1))
  upper_passed h =
      let p : is_lower twins half ≡ false = by (is_lower twins half) refl in
      so_far ∙ sym (passing.more (is_lower twins) half ∙ ap (λ (b : Bool). filter (is_lower twins) (range_with_len 0 half) ++ cond b (half ∷ []) []) p ∙ append-nil _)
    where
      by : (b : Bool) → is_lower twins half ≡ b → is_lower twins half ≡ false
      by false e = e
      by true e = let less : half < get_or twins half 0 = (Decides-ltb half (get_or twins half 0)).0 e in absurd (omega arith)
