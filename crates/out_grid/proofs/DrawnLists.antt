-- The lists of drawn edges: what the list of one course holds, and what stands as one edge after another gets its list.
use Rattle.std.proofs.Common.{◌≡◌, ◌≢◌, ◌⊎◌, inl, inr, ℕ, ◌+◌, ◌*◌, ◌/◌, ◌%◌, ◌<◌, ◌≤◌, List, [], ◌∷◌, ◌++◌, All, AllPairs, Contains, length, get_or, set, take, sym, ap, subst, ◌∙◌, arith}
use Rattle.std.specs.List.Sorted.{IsStrictlyIncreasing}
use Rattle.std.proofs.Math.Nat.{div-lt_iff_lt-mul}
use Rattle.std.proofs.lemmas.Bool.{cases_eq}
use Rattle.std.proofs.lemmas.List.{get_or-set_same, get_or-set_other, get_or_default, take_more}
use Rattle.std.proofs.lemmas.List.Elements.{All-weaker, All-contains, Contains-get_or, Contains-append_left, Contains-push, Contains-push_cases}
use Rattle.std.proofs.lemmas.List.Kept.{AllPairs-from_increasing}
use Rattle.lattice.specs.Triple.{Triple}
use Rattle.geometry.specs.Parts.{Part, Edge, IsNumbered}
use Rattle.out_grid.specs.Cells.{Raster, HasPointIn, ShareCell}
use Rattle.out_grid.specs.Grids.{cell_at, list_at, HoldsThose}
use Rattle.out_grid.specs.inner.Courses.{Course, IsCourse, Meets}
use Rattle.out_grid.specs.inner.Lists.{AreHeld, IsGrown, IsInSome}
use Rattle.out_grid.specs.inner.Places.{IsCourseOf, IsInside}
use Rattle.out_grid.proofs.Bridges.{meets}
use Rattle.out_grid.proofs.Stamps.{none_in}
use Rattle.out_grid.proofs.Passing.{met_inside}

-- ---- the list of one edge
module _ (d : Triple) (r : Raster) (s : Part) (halves outlines : List ℕ) (n : ℕ) (cells : List (List ℕ)) (held : AreHeld d r s halves outlines n cells) where
  -- what is so of each outline is so of all that the cells have
  pub cells_hold : (P : ℕ → Type 0) → 0 < n → length cells ≡ n * n → All P outlines → All (All P) cells
  cells_hold P some long all i e within =
      All-weaker (Contains outlines) P (λ x c. All-contains P outlines x all c) (get_or cells i e) (subst (All (Contains outlines)) same (held (i / n) (i % n) column (omega arith)).within)
    where
      column : i / n < n
      column = (div-lt_iff_lt-mul some).1 (omega (arith, within, long))

      place : ((i / n) * n) + (i % n) ≡ i
      place = omega arith

      same : cell_at cells n (i / n) (i % n) ≡ get_or cells i e
      same = ap (λ (k : ℕ). get_or cells k []) place ∙ get_or_default cells i [] e within

  -- what the cells of an edge's course have are the outlines that share a cell with it
  pub list_held : (e : Edge s) (course : Course) → IsCourse course → IsInside n course → IsCourseOf d r e.a e.b course → (list : List ℕ) → AllPairs ◌≢◌ list
      → IsGrown (IsInSome (Meets course) n cells) [] list → HoldsThose {s = s} halves outlines (ShareCell d r e) list
  list_held e course is inside course_is list once grown = record {
    within = λ k x l. outline (get_or list k x) (there (get_or list k x) (Contains-get_or list k x l));
    once = once;
    exactly = λ x o c numbered. ((λ l. shared x o c numbered (there x l)), (λ h. listed x o c numbered h));
  }
    where
      there : (x : ℕ) → Contains list x → IsInSome (Meets course) n cells x
      there x c = by ((grown x).0 c)
        where
          by : Contains [] x ⊎ IsInSome (Meets course) n cells x → IsInSome (Meets course) n cells x
          by (inl h) = absurd (none_in x h)
          by (inr h) = h

      cell : (column row : ℕ) → Meets course column row → HoldsThose {s = s} halves outlines (λ o. HasPointIn d r o column row) (cell_at cells n column row)
      cell column row m = let w = met_inside course is n inside column row m in held column row w.0 w.1

      outline : (x : ℕ) → IsInSome (Meets course) n cells x → Contains outlines x
      outline x (column, row, m, h) = All-contains (Contains outlines) (cell_at cells n column row) x (cell column row m).within h

      shared : (x : ℕ) (o : Edge s) → Contains outlines x → IsNumbered halves x o → IsInSome (Meets course) n cells x → ShareCell d r e o
      shared x o c numbered (column, row, m, h) = (column, row, (meets d r {s = s} e course course_is column row).1 m, ((cell column row m).exactly x o c numbered).0 h)

      listed : (x : ℕ) (o : Edge s) → Contains outlines x → IsNumbered halves x o → ShareCell d r e o → Contains list x
      listed x o c numbered (column, row, h, g) =
          let m = (meets d r {s = s} e course course_is column row).0 h in
          (grown x).1 (inr (column, row, m, ((cell column row m).exactly x o c numbered).1 g))

-- ---- one edge after another
-- the stamps of one edge are below those of the later ones
pub stamps_next : (xs stamps : List ℕ) (i x : ℕ) → IsStrictlyIncreasing xs → x ≡ get_or xs i 0 → All (λ m. m ≤ x + 1) stamps → (j : ℕ) → i + 1 ≤ j → j < length xs → All (λ m. m < get_or xs j 0 + 1) stamps
stamps_next xs stamps i x rising is all j later within =
    All-weaker (λ m. m ≤ x + 1) (λ m. m < get_or xs j 0 + 1) (λ m h. less m h) stamps all
  where
    above : get_or xs i 0 < get_or xs j 0
    above = AllPairs-from_increasing xs rising i j 0 (omega arith) within

    less : (m : ℕ) → m ≤ x + 1 → m < get_or xs j 0 + 1
    less m h = omega (arith, h, is, above)

module _ (xs : List ℕ) (i x : ℕ) (within : i < length xs) (is : x ≡ get_or xs i 0) (lists : List (List ℕ)) (list : List ℕ) (inside : x < length lists) where
  more : take (i + 1) xs ≡ take i xs ++ x ∷ []
  more = take_more xs i 0 within ∙ ap (λ (y : ℕ). take i xs ++ y ∷ []) (sym is)

  other_list : (k : ℕ) → (k ≡ x → ⊥) → list_at (set lists x list) k ≡ list_at lists k
  other_list k differ = get_or-set_other lists x k list [] differ

  pub along_more : (P : ℕ → List ℕ → Type 0) → ((k : ℕ) → Contains (take i xs) k → P k (list_at lists k)) → P x list
      → (k : ℕ) → Contains (take (i + 1) xs) k → P k (list_at (set lists x list) k)
  along_more P each this k c = by (cases_eq k x) (Contains-push_cases (take i xs) x k (subst (λ (ys : List ℕ). Contains ys k) more c))
    where
      by : (k ≡ x) ⊎ (k ≡ x → ⊥) → Contains (take i xs) k ⊎ (x ≡ k) → P k (list_at (set lists x list) k)
      by (inl e) h = subst (λ (y : ℕ). P y (list_at (set lists x list) y)) (sym e) (subst (P x) (sym (get_or-set_same lists x list [] inside)) this)
      by (inr differ) (inl h) = subst (P k) (sym (other_list k differ)) (each k h)
      by (inr differ) (inr e) = absurd (differ (sym e))

  pub others_more : ((k : ℕ) → (Contains (take i xs) k → ⊥) → list_at lists k ≡ []) → (k : ℕ) → (Contains (take (i + 1) xs) k → ⊥) → list_at (set lists x list) k ≡ []
  others_more each k none = other_list k differ ∙ each k (λ c. none (subst (λ (ys : List ℕ). Contains ys k) (sym more) (Contains-append_left (take i xs) (x ∷ []) k c)))
    where
      differ : k ≡ x → ⊥
      differ e = none (subst (λ (ys : List ℕ). Contains ys k) (sym more) (subst (Contains (take i xs ++ x ∷ [])) (sym e) (Contains-push (take i xs) x)))
