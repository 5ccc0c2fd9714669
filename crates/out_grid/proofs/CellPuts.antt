-- One outline that is put into cells, one set of cells after another.
use Rattle.std.proofs.Common.{◌≡◌, ◌⊎◌, inl, inr, ℕ, ◌+◌, ◌-◌, ◌*◌, ◌<◌, ◌≤◌, List, [], ◌∷◌, ◌++◌, length, get_or, set, refl, sym, ap, ◌∙◌, arith}
use Rattle.std.proofs.lemmas.Bool.{cases_eq, cases_lt}
use Rattle.std.proofs.lemmas.List.{get_or-set_same, get_or-set_other}
use Rattle.out_grid.specs.Grids.{cell_at}
use Rattle.out_grid.specs.inner.Lists.{IsPut}

-- ---- cells by their numbers
-- n cells of one column, or more, are between
columns_apart : (n a b x y : ℕ) → b < n → a < x → (x * n) + y ≡ (a * n) + b → ⊥
columns_apart n a b x y hb h e = by (x - (a + 1)) (omega arith)
  where
    by : (m : ℕ) → x ≡ (a + 1) + m → ⊥
    by m f = omega (arith, ap (λ (k : ℕ). k * n) f)

pub cells_apart : (n a b x y : ℕ) → b < n → y < n → (a * n) + b ≡ (x * n) + y → (a ≡ x) × (b ≡ y)
cells_apart n a b x y hb hy e = by (cases_lt a x) (cases_lt x a)
  where
    by : (a < x) ⊎ (x ≤ a) → (x < a) ⊎ (a ≤ x) → (a ≡ x) × (b ≡ y)
    by (inl h) k = absurd (columns_apart n a b x y hb h (sym e))
    by (inr h) (inl k) = absurd (columns_apart n x y a b hy k e)
    by (inr h) (inr k) = let same : a ≡ x = omega arith in (same, omega (arith, e, ap (λ (m : ℕ). m * n) same))

pub cell_below : (n a b : ℕ) → a < n → b < n → (a * n) + b < n * n
cell_below n a b ha hb = by (n - (a + 1)) (omega arith)
  where
    by : (m : ℕ) → n ≡ (a + 1) + m → (a * n) + b < n * n
    by m f = omega (arith, ap (λ (k : ℕ). k * n) f)

-- ---- what is put
-- into no cell
pub put_none : (P : ℕ → ℕ → Type 0) (n o : ℕ) (lists : List (List ℕ)) → ((x y : ℕ) → P x y → ⊥) → IsPut P n o lists lists
put_none P n o lists none x y xl yl = inr (none x y, refl)

-- into one cell
pub put_one : (n o column row : ℕ) (old new : List (List ℕ)) → column < n → row < n → length old ≡ n * n
    → new ≡ set old ((column * n) + row) (get_or old ((column * n) + row) [] ++ o ∷ []) → IsPut (λ x y. (x ≡ column) × (y ≡ row)) n o old new
put_one n o column row old new hc hr long e x y xl yl = by (cases_eq ((x * n) + y) cell)
  where
    cell : ℕ
    cell = (column * n) + row

    more : List ℕ
    more = get_or old cell [] ++ o ∷ []

    by : ((x * n) + y ≡ cell) ⊎ ((x * n) + y ≡ cell → ⊥)
        → (((x ≡ column) × (y ≡ row)) × (cell_at new n x y ≡ cell_at old n x y ++ o ∷ [])) ⊎ (((x ≡ column) × (y ≡ row) → ⊥) × (cell_at new n x y ≡ cell_at old n x y))
    by (inl same) = inl (
      cells_apart n x y column row yl hr same,
      ap (λ (xs : List (List ℕ)). get_or xs ((x * n) + y) []) e
          ∙ ap (λ (k : ℕ). get_or (set old cell more) k []) same
          ∙ get_or-set_same old cell more [] (omega (arith, cell_below n column row hc hr, long))
          ∙ ap (λ (k : ℕ). get_or old k [] ++ o ∷ []) (sym same),
    )
    by (inr apart) = inr (
      (λ h. apart (ap (λ (k : ℕ). (k * n) + y) h.0 ∙ ap (λ (k : ℕ). (column * n) + k) h.1)),
      ap (λ (xs : List (List ℕ)). get_or xs ((x * n) + y) []) e ∙ get_or-set_other old cell ((x * n) + y) more [] apart,
    )

-- into the cells of P, and then into those of Q, which are others
pub put_more : (P Q R : ℕ → ℕ → Type 0) (n o : ℕ) (a b c : List (List ℕ)) → IsPut P n o a b → IsPut Q n o b c → ((x y : ℕ) → P x y → Q x y → ⊥)
    → ((x y : ℕ) → P x y → R x y) → ((x y : ℕ) → Q x y → R x y) → ((x y : ℕ) → R x y → P x y ⊎ Q x y) → IsPut R n o a c
put_more P Q R n o a b c p q apart of_p of_q split x y xl yl = by (p x y xl yl) (q x y xl yl)
  where
    neither : (P x y → ⊥) → (Q x y → ⊥) → P x y ⊎ Q x y → ⊥
    neither h k (inl r) = h r
    neither h k (inr r) = k r

    by : (P x y × (cell_at b n x y ≡ cell_at a n x y ++ o ∷ [])) ⊎ ((P x y → ⊥) × (cell_at b n x y ≡ cell_at a n x y))
        → (Q x y × (cell_at c n x y ≡ cell_at b n x y ++ o ∷ [])) ⊎ ((Q x y → ⊥) × (cell_at c n x y ≡ cell_at b n x y))
        → (R x y × (cell_at c n x y ≡ cell_at a n x y ++ o ∷ [])) ⊎ ((R x y → ⊥) × (cell_at c n x y ≡ cell_at a n x y))
    by (inl h) (inl k) = absurd (apart x y h.0 k.0)
    by (inl h) (inr k) = inl (of_p x y h.0, k.1 ∙ h.1)
    by (inr h) (inl k) = inl (of_q x y k.0, k.1 ∙ ap (λ (xs : List ℕ). xs ++ o ∷ []) h.1)
    by (inr h) (inr k) = inr ((λ r. neither h.0 k.0 (split x y r)), k.1 ∙ h.1)

-- into the cells of which R holds where P does
pub put_same : (P R : ℕ → ℕ → Type 0) (n o : ℕ) (a b : List (List ℕ)) → IsPut P n o a b
    → ((x y : ℕ) → P x y → R x y) → ((x y : ℕ) → R x y → P x y) → IsPut R n o a b
put_same P R n o a b p to from x y xl yl = by (p x y xl yl)
  where
    by : (P x y × (cell_at b n x y ≡ cell_at a n x y ++ o ∷ [])) ⊎ ((P x y → ⊥) × (cell_at b n x y ≡ cell_at a n x y))
        → (R x y × (cell_at b n x y ≡ cell_at a n x y ++ o ∷ [])) ⊎ ((R x y → ⊥) × (cell_at b n x y ≡ cell_at a n x y))
    by (inl h) = inl (to x y h.0, h.1)
    by (inr h) = inr ((λ r. h.0 (from x y r)), h.1)
