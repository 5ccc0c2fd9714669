-- Cells that hold the first triangles by their boxes, one triangle after another; and the list of a corner's cell.
use Rattle.std.proofs.Common.{◌≡◌, ◌⊎◌, inl, inr, ℕ, ◌+◌, ◌-◌, ◌*◌, ◌/◌, ◌%◌, ◌<◌, ◌≤◌, List, [], ◌∷◌, ◌++◌, All, Contains, Some, length, get_or, slice_get, sym, ap, subst, arith}
use Rattle.std.specs.List.Sorted.{IsNonDecreasing}
use Rattle.std.proofs.lemmas.Bool.{cases_lt}
use Rattle.std.proofs.lemmas.List.Elements.{All-weaker, All-push, Contains-append_left, Contains-push}
use Rattle.std.proofs.lemmas.List.Sorted.{IsNonDecreasingBy-short, IsNonDecreasingBy-push}
use Rattle.std.proofs.lemmas.Option.{slice_get_within, get_or_from_slice_get}
use Rattle.integers.proofs.Lists.{some_element}
use Rattle.lattice.specs.declared.points.Corner.{Corner}
use Rattle.lattice.specs.declared.soup.Tri.{Tri}
use Rattle.lattice.specs.Triple.{Triple}
use Rattle.geometry.specs.Parts.{Part, Face}
use Rattle.cross_find.specs.Ends.{IsApart}
use Rattle.out_grid.specs.Grids.{list_at, cell_at}
use Rattle.out_grid.specs.inner.Lists.{IsPut}
use Rattle.out_grid.specs.inner.Triangles.{AreCellsOf, AreFilled, IsInBox}
use Rattle.out_grid.proofs.NearCells.{column_below, row_below, cell_is, is_in_box}

module _ (n : ℕ) (corner_cells : List ℕ) (triangles : List Tri) where
  -- an empty list is in order, and holds none
  empty_below : (list : List ℕ) → list ≡ [] → All (λ i. i < 0) list
  empty_below list e = subst (All (λ i. i < 0)) (sym e) (λ i d h. absurd (omega (arith, h)))

  empty_ascends : (list : List ℕ) → list ≡ [] → IsNonDecreasing list
  empty_ascends list e = IsNonDecreasingBy-short (λ (i : ℕ). i) list (omega (arith, ap length e))

  pub filled_none : (lists : List (List ℕ)) → ((i : ℕ) → list_at lists i ≡ []) → AreFilled n corner_cells triangles 0 lists
  filled_none lists none = record {
    first = λ column row cl rl. empty_below (cell_at lists n column row) (none ((column * n) + row));
    ascending = λ column row cl rl. empty_ascends (cell_at lists n column row) (none ((column * n) + row));
    held = λ column row i t cl rl less. absurd (omega (arith, less));
  }

  -- one triangle more, which is put into the cells of P, and these are those of its box or more
  module _ (k : ℕ) (P : ℕ → ℕ → Type 0) (old new : List (List ℕ)) (known : AreFilled n corner_cells triangles k old) (put : IsPut P n k old new)
      (wide : (t : Tri) (column row : ℕ) → slice_get triangles k ≡ Some t → IsInBox n corner_cells t column row → P column row) where
    module _ (column row : ℕ) (cl : column < n) (rl : row < n) where
      abbrev Put : Type 0
      Put = (P column row × (cell_at new n column row ≡ cell_at old n column row ++ k ∷ [])) ⊎ ((P column row → ⊥) × (cell_at new n column row ≡ cell_at old n column row))

      below : (list : List ℕ) → All (λ i. i < k) list → All (λ i. i < k + 1) list
      below list h = All-weaker (λ i. i < k) (λ i. i < k + 1) (λ i l. omega (arith, l)) list h

      first : Put → All (λ i. i < k + 1) (cell_at new n column row)
      first (inl (p, e)) = subst (All (λ i. i < k + 1)) (sym e) (All-push (λ i. i < k + 1) (cell_at old n column row) k (below (cell_at old n column row) (known.first column row cl rl)) (omega arith))
      first (inr (p, e)) = subst (All (λ i. i < k + 1)) (sym e) (below (cell_at old n column row) (known.first column row cl rl))

      last_below : (list : List ℕ) → All (λ i. i < k) list → (d : ℕ) → 0 < length list → get_or list (length list - 1) d ≤ k
      last_below list h d some = let l = h (length list - 1) d (omega arith) in omega (arith, l)

      ascending : Put → IsNonDecreasing (cell_at new n column row)
      ascending (inl (p, e)) =
          subst IsNonDecreasing (sym e)
          (IsNonDecreasingBy-push (λ (i : ℕ). i) (cell_at old n column row) k (known.ascending column row cl rl) (last_below (cell_at old n column row) (known.first column row cl rl)))
      ascending (inr (p, e)) = subst IsNonDecreasing (sym e) (known.ascending column row cl rl)

      module _ (i : ℕ) (t : Tri) (at : slice_get triangles i ≡ Some t) (inside : IsInBox n corner_cells t column row) where
        older : i < k → Put → Contains (cell_at new n column row) i
        older less (inl (p, e)) =
            subst (λ (xs : List ℕ). Contains xs i) (sym e) (Contains-append_left (cell_at old n column row) (k ∷ []) i (known.held column row i t cl rl less at inside))
        older less (inr (p, e)) = subst (λ (xs : List ℕ). Contains xs i) (sym e) (known.held column row i t cl rl less at inside)

        this : i ≡ k → Put → Contains (cell_at new n column row) i
        this same (inl (p, e)) =
            subst (Contains (cell_at new n column row)) (sym same) (subst (λ (xs : List ℕ). Contains xs k) (sym e) (Contains-push (cell_at old n column row) k))
        this same (inr (p, e)) = absurd (p (wide t column row (subst (λ (j : ℕ). slice_get triangles j ≡ Some t) same at) inside))

        held : i < k + 1 → (i < k) ⊎ (k ≤ i) → Contains (cell_at new n column row) i
        held less (inl l) = older l (put column row cl rl)
        held less (inr l) = this (omega (arith, less, l)) (put column row cl rl)

    pub filled_more : AreFilled n corner_cells triangles (k + 1) new
    filled_more = record {
      first = λ column row cl rl. first column row cl rl (put column row cl rl);
      ascending = λ column row cl rl. ascending column row cl rl (put column row cl rl);
      held = λ column row i t cl rl less at inside. held column row cl rl i t at inside less (cases_lt i k);
    }

-- ---- the list of a corner's cell
module _ (d : Triple) (s : Part) (n : ℕ) (some : 1 ≤ n) (corner_cells : List ℕ) (are : AreCellsOf d s n corner_cells) (lists : List (List ℕ))
    (filled : AreFilled n corner_cells s.triangles (length s.triangles) lists) where
  -- the cell of this number, by its column and its row
  within : (number cell : ℕ) → slice_get corner_cells number ≡ Some cell → cell < n * n
  within number cell at =
      subst (λ (m : ℕ). m < n * n) (get_or_from_slice_get corner_cells number cell cell at) (are.within number cell (slice_get_within corner_cells number cell at))

  cell_list : (cell : ℕ) → cell_at lists n (cell / n) (cell % n) ≡ list_at lists cell
  cell_list cell = ap (λ (m : ℕ). list_at lists m) (cell_is n cell)

  pub cell_ascends : (number cell : ℕ) → slice_get corner_cells number ≡ Some cell → IsNonDecreasing (list_at lists cell)
  cell_ascends number cell at =
      subst IsNonDecreasing (cell_list cell) (filled.ascending (cell / n) (cell % n) (column_below n cell some (within number cell at)) (row_below n cell some))

  -- a triangle that is not seen strictly to one side of a corner is in it
  pub near_corner : (none number : ℕ) (c : Corner) (f : Face s) → slice_get s.corners number ≡ Some c → (IsApart d f.a f.b f.c c → ⊥)
      → Contains (list_at lists (get_or corner_cells number none)) f.number
  near_corner none number c f at beside =
      let (cell, there) = some_element corner_cells number (omega (arith, are.for_each, slice_get_within s.corners number c at)) in
      let held = filled.held (cell / n) (cell % n) f.number f.tri (column_below n cell some (within number cell there)) (row_below n cell some)
      (slice_get_within s.triangles f.number f.tri f.listed) f.listed (is_in_box d s n corner_cells are f number cell c at there beside) in
      subst (λ (m : ℕ). Contains (list_at lists m) f.number) (sym (get_or_from_slice_get corner_cells number cell none there)) (subst (λ (xs : List ℕ). Contains xs f.number) (cell_list cell) held)
