-- The outlines of some cells, which a list takes one cell after another and one column after another.
use Rattle.std.proofs.Common.{◌≡◌, ◌⊎◌, ◌↔◌, inl, inr, ℕ, ◌+◌, ◌<◌, ◌≤◌, List, [], All, Contains, length, get_or, refl, sym, ap, subst, ◌∙◌, arith, Vec, Global}
use Rattle.std.proofs.lemmas.Bool.{cases_lt}
use Rattle.std.proofs.lemmas.List.{get_or-map, length-map}
use Rattle.solid_mesh.specs.Stars.{lists_of}
use Rattle.out_grid.specs.Grids.{cell_at}
use Rattle.out_grid.specs.inner.Courses.{Course, IsCourse, Meets, first_column, last_column, AreRows}
use Rattle.out_grid.specs.inner.Lists.{IsGrown, IsInSome}
use Rattle.out_grid.proofs.CourseCells.{rows_exact}
use Rattle.out_grid.proofs.CourseSums.{columns_exact}
use Rattle.out_grid.proofs.Stamps.{grown_none, grown_more, grown_same}

-- ---- one of the lists
module _ (lists : List (Vec ℕ Global)) (i : ℕ) (within : i < length lists) where
  items_of : Vec ℕ Global → List ℕ
  items_of v = v.items

  pub list_is : (v : Vec ℕ Global) (xs : List ℕ) → v ≡ get_or lists i v → xs ≡ v.items → xs ≡ get_or (lists_of lists) i []
  list_is v xs is e = e ∙ ap (λ (w : Vec ℕ Global). w.items) is ∙ sym (get_or-map (λ (w : Vec ℕ Global). w.items) lists i v [] within)

  pub list_holds : (P : ℕ → Type 0) (xs : List ℕ) → xs ≡ get_or (lists_of lists) i [] → All (All P) (lists_of lists) → All P xs
  list_holds P xs e all = subst (All P) (sym e) (all i [] (omega (arith, within, length-map lists (λ (w : Vec ℕ Global). w.items))))

-- ---- cells of which something holds
module _ (n : ℕ) (cells : List (List ℕ)) where
  abbrev In : (ℕ → ℕ → Type 0) → ℕ → Type 0
  In P = IsInSome P n cells

  some_weaker : (P Q : ℕ → ℕ → Type 0) → ((c r : ℕ) → P c r → Q c r) → (k : ℕ) → In P k → In Q k
  some_weaker P Q f k (c, r, p, there) = (c, r, f c r p, there)

  -- the cells of a column between two rows, without the second
  module _ (column low : ℕ) where
    abbrev Rows : ℕ → ℕ → ℕ → Type 0
    Rows end c r = (c ≡ column) × (low ≤ r) × (r < end)

    pub rows_none : (list : List ℕ) → IsGrown (In (Rows low)) list list
    rows_none list = grown_none (In (Rows low)) list no
      where
        no : (k : ℕ) → In (Rows low) k → ⊥
        no k (c, r, (e, l, h), there) = omega (arith, l, h)

    pub rows_more : (row : ℕ) (xs a b d : List ℕ) → low ≤ row → xs ≡ cell_at cells n column row → IsGrown (In (Rows row)) a b → IsGrown (Contains xs) b d → IsGrown (In (Rows (row + 1))) a d
    rows_more row xs a b d from is q r = grown_more (In (Rows row)) (Contains xs) (In (Rows (row + 1))) a b d q r
        (some_weaker (Rows row) (Rows (row + 1)) (λ c r h. (h.0, h.1, omega (arith, h.2))))
        (λ k there. (column, row, (refl, from, omega arith), subst (λ (ys : List ℕ). Contains ys k) is there))
        split
      where
        split : (k : ℕ) → In (Rows (row + 1)) k → In (Rows row) k ⊎ Contains xs k
        split k (c, r, (e, l, h), there) = by (cases_lt r row)
          where
            by : (r < row) ⊎ (row ≤ r) → In (Rows row) k ⊎ Contains xs k
            by (inl g) = inl (c, r, (e, l, g), there)
            by (inr g) = inr (subst (λ (ys : List ℕ). Contains ys k) (ap (λ (i : ℕ). cell_at cells n i r) e ∙ ap (cell_at cells n column) (omega arith) ∙ sym is) there)

    pub rows_all : (high row : ℕ) (a b : List ℕ) → row ≡ high + 1 → IsGrown (In (Rows row)) a b → IsGrown (In (λ c r. (c ≡ column) × (low ≤ r) × (r ≤ high))) a b
    rows_all high row a b e q = grown_same (In (Rows row)) (In (λ c r. (c ≡ column) × (low ≤ r) × (r ≤ high))) a b q
        (some_weaker (Rows row) (λ c r. (c ≡ column) × (low ≤ r) × (r ≤ high)) (λ c r h. (h.0, h.1, omega (arith, h.2))))
        (some_weaker (λ c r. (c ≡ column) × (low ≤ r) × (r ≤ high)) (Rows row) (λ c r h. (h.0, h.1, omega (arith, h.2))))

  -- the cells that a course meets before a column
  module _ (course : Course) (is : IsCourse course) where
    abbrev Before : ℕ → ℕ → ℕ → Type 0
    Before column c r = Meets course c r × (c < column)

    inside : (c r : ℕ) → Meets course c r → (first_column course ≤ c) × (c ≤ last_column course)
    inside c r (i, j, across, upward) = (columns_exact course is c).0 (i, j, across)

    pub course_none : (list : List ℕ) → IsGrown (In (Before (first_column course))) list list
    course_none list = grown_none (In (Before (first_column course))) list no
      where
        no : (k : ℕ) → In (Before (first_column course)) k → ⊥
        no k (c, r, (m, h), there) = let g = (inside c r m).0 in omega (arith, g, h)

    pub course_more : (column low high : ℕ) (a b d : List ℕ) → first_column course ≤ column → column ≤ last_column course → AreRows course column low high
        → IsGrown (In (Before column)) a b → IsGrown (In (λ c r. (c ≡ column) × (low ≤ r) × (r ≤ high))) b d → IsGrown (In (Before (column + 1))) a d
    course_more column low high a b d first last rows q r = grown_more (In (Before column)) (In Here) (In (Before (column + 1))) a b d q r
        (some_weaker (Before column) (Before (column + 1)) (λ c r h. (h.0, omega (arith, h.1))))
        (some_weaker Here (Before (column + 1)) here)
        split
      where
        Here : ℕ → ℕ → Type 0
        Here c r = (c ≡ column) × (low ≤ r) × (r ≤ high)

        exact : (row : ℕ) → Meets course column row ↔ ((low ≤ row) × (row ≤ high))
        exact = rows_exact course is column low high first last rows

        here : (c r : ℕ) → Here c r → Before (column + 1) c r
        here c r (e, l, h) = (subst (λ (i : ℕ). Meets course i r) (sym e) ((exact r).1 (l, h)), omega arith)

        split : (k : ℕ) → In (Before (column + 1)) k → In (Before column) k ⊎ In Here k
        split k (c, r, (m, h), there) = by (cases_lt c column)
          where
            by : (c < column) ⊎ (column ≤ c) → In (Before column) k ⊎ In Here k
            by (inl g) = inl (c, r, (m, g), there)
            by (inr g) =
                let e : c ≡ column = omega arith in
                let h = (exact r).0 (subst (λ (i : ℕ). Meets course i r) e m) in
                inr (c, r, (e, h.0, h.1), there)

    pub course_all : (column : ℕ) (a b : List ℕ) → last_column course < column → IsGrown (In (Before column)) a b → IsGrown (In (Meets course)) a b
    course_all column a b past q = grown_same (In (Before column)) (In (Meets course)) a b q
        (some_weaker (Before column) (Meets course) (λ c r h. h.0))
        (some_weaker (Meets course) (Before column) (λ c r m. (m, (let g = (inside c r m).1 in omega (arith, g, past)))))
