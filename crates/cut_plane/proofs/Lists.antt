-- Elements and pairs of lists that are appended, marks, and the segments of triangles.
use Rattle.std.proofs.Common.{◌≡◌, ℕ, zero, suc, ◌+◌, ◌<◌, ◌⊎◌, inl, inr, ◌↔◌, Bool, true, false, List, [], ◌∷◌, ◌++◌, Contains, length, get_or, set, replicate, refl, sym, ap, ◌∙◌, arith}
use Rattle.std.specs.List.{All, AllPairs}
use Rattle.std.proofs.lemmas.Bool.{cases_eq}
use Rattle.std.proofs.lemmas.List.{get_or-set_same, get_or-set_other}
use Rattle.std.proofs.lemmas.List.Elements.{All-append}
use Rattle.std.proofs.lemmas.List.Kept.{AllPairs-cons}
use Rattle.cut_plane.specs.declared.segments.Segment.{Segment}
use Rattle.cut_plane.specs.Loops.{triangles_of}
use Rattle.cut_plane.specs.inner.Walks.{IsMarked, unmarked}

module _ {A : Type 0} where
  pub contains_rest : (w : A) (xs : List A) (x : A) → Contains xs x → Contains (w ∷ xs) x
  contains_rest w xs x (k, less, is) = (suc k, omega arith, is)

  pub contains_first : (xs : List A) (x : A) → Contains (x ∷ xs) x
  contains_first xs x = (zero, omega arith, refl)

  pub contains_cases : (w : A) (xs : List A) (x : A) → Contains (w ∷ xs) x → (w ≡ x) ⊎ Contains xs x
  contains_cases w xs x (zero, less, is) = inl is
  contains_cases w xs x (suc k, less, is) = inr (k, omega arith, is)

  pub contains_none : (x : A) → ¬ Contains [] x
  contains_none x (k, less, is) = omega arith

  pub each_contains : (P : A → Type 0) (xs : List A) → ((x : A) → Contains xs x → P x) → All P xs
  each_contains P xs holds k d less = holds (get_or xs k d) (k, less, same xs k d less)
    where
      same : (xs : List A) (k : ℕ) (d : A) → k < length xs → get_or xs k (get_or xs k d) ≡ get_or xs k d
      same [] k d less = absurd (omega arith)
      same (x ∷ xs) zero d less = refl
      same (x ∷ xs) (suc k) d less = same xs k d (omega arith)

  -- ---- pairs
  module _ (R : A → A → Type 0) where
    pub pairs_first : (x : A) (xs : List A) → AllPairs R (x ∷ xs) → All (R x) xs
    pairs_first x xs pairs k e less = pairs zero (suc k) e (omega arith) (omega arith)

    pub pairs_rest : (x : A) (xs : List A) → AllPairs R (x ∷ xs) → AllPairs R xs
    pairs_rest x xs pairs i j e less within = pairs (suc i) (suc j) e (omega arith) (omega arith)

    pub pairs_none : AllPairs R []
    pairs_none i j e less within = absurd (omega arith)

    pub pairs_append : (xs ys : List A) → AllPairs R xs → AllPairs R ys → ((x y : A) → Contains xs x → Contains ys y → R x y) → AllPairs R (xs ++ ys)
    pairs_append [] ys first second across = second
    pairs_append (x ∷ xs) ys first second across =
        AllPairs-cons R x (xs ++ ys)
        (All-append (R x) xs ys (pairs_first x xs first) (each_contains (R x) ys (λ y. across x y (contains_first xs x))))
        (pairs_append xs ys (pairs_rest x xs first) second (λ v y there. across v y (contains_rest x xs v there)))

-- ---- tests and marks
pub not_true : (b : Bool) → b ≡ false → b ≡ true → ⊥
not_true b e h = cc

pub marked_set : (marks : List Bool) (i j : ℕ) → i < length marks → IsMarked (set marks i true) j ↔ (IsMarked marks j ⊎ (i ≡ j))
marked_set marks i j within = by (cases_eq j i)
  where
    by : (j ≡ i) ⊎ (¬ (j ≡ i)) → IsMarked (set marks i true) j ↔ (IsMarked marks j ⊎ (i ≡ j))
    by (inl same) = ((λ h. inr (sym same)), (λ h. ap (λ k. get_or (set marks i true) k false) same ∙ get_or-set_same marks i true false within))
    by (inr other) = (
      (λ h. inl (sym (get_or-set_other marks i j true false other) ∙ h)),
      (λ h. kept h),
    )
      where
        kept : IsMarked marks j ⊎ (i ≡ j) → IsMarked (set marks i true) j
        kept (inl h) = get_or-set_other marks i j true false other ∙ h
        kept (inr e) = absurd (other (sym e))

pub unmarked_set : (marks : List Bool) (i : ℕ) → i < length marks → ¬ IsMarked marks i → unmarked (set marks i true) + 1 ≡ unmarked marks
unmarked_set [] i within free = absurd (omega arith)
unmarked_set (false ∷ marks) zero within free = refl
unmarked_set (true ∷ marks) zero within free = absurd (free refl)
unmarked_set (false ∷ marks) (suc i) within free = ap (λ (n : ℕ). n + 1) (unmarked_set marks i (omega arith) free)
unmarked_set (true ∷ marks) (suc i) within free = unmarked_set marks i (omega arith) free

pub marked_cases : (marks : List Bool) (i : ℕ) → IsMarked marks i ⊎ ¬ IsMarked marks i
marked_cases marks i = by (get_or marks i false) refl
  where
    apart : (b : Bool) → b ≡ false → b ≡ true → ⊥
    apart b e h = cc

    by : (b : Bool) → get_or marks i false ≡ b → IsMarked marks i ⊎ ¬ IsMarked marks i
    by true e = inl e
    by false e = inr (apart (get_or marks i false) e)

pub unmarked_none : (n : ℕ) → unmarked (replicate n false) ≡ n
unmarked_none zero = refl
unmarked_none (suc n) = let e = unmarked_none n in omega arith

pub none_marked : (n i : ℕ) → ¬ IsMarked (replicate n false) i
none_marked zero i h = cc
none_marked (suc n) zero h = cc
none_marked (suc n) (suc i) h = none_marked n i h

-- ---- the segment of a triangle in the list
pub segment_at : (xs : List Segment) (i : ℕ) → Contains (triangles_of xs) i → (x : Segment) × Contains xs x × (x.tri ≡ i)
segment_at [] i there = absurd (contains_none i there)
segment_at (x ∷ xs) i (zero, less, is) = (x, contains_first xs x, is)
segment_at (x ∷ xs) i (suc k, less, is) = let (y, there, same) = segment_at xs i (k, omega arith, is) in (y, contains_rest x xs y there, same)
