-- Facts on each element of a list that grows by one, and the shapes of the views that are left.
use Rattle.std.proofs.Common.{◌≡◌, ℕ, zero, suc, ◌+◌, ◌<◌, ◌≤◌, ◌⊎◌, inl, inr, Bool, List, [], ◌∷◌, ◌++◌, length, drop, get_or, slice_get, Some, sym, ap, ◌∙◌, subst, append_assoc}
use Rattle.std.proofs.lemmas.List.{drop_more, drop_all, append-nil}
use Rattle.std.specs.List.{AllZip}
use Rattle.integers.proofs.Lists.{slice_get_push}
use Rattle.job_file.specs.declared.view.JobView.{JobView}
use Rattle.sheet_plan.specs.declared.bounds.Extent.{Extent}
use Rattle.sheet_plan.specs.declared.cells.Shape.{Shape}
use Rattle.sheet_plan.specs.Layout.{shape_of, shapes_of}
use Rattle.sheet_plan.specs.Numbers.{Measure}

-- what relates elements at one place does so with one more
module _ {X Y : Type 0} (P : ℕ → Y → X → Type 0) (ys : List Y) (xs new : List X) (x : X) (i : ℕ) (count : length xs ≡ i) (step : new ≡ xs ++ x ∷ [])
    (before : (j : ℕ) (y : Y) (z : X) → slice_get ys j ≡ Some y → slice_get xs j ≡ Some z → P j y z) (last : (y : Y) → slice_get ys i ≡ Some y → P i y x) where
  pub each_more : (j : ℕ) (y : Y) (z : X) → slice_get ys j ≡ Some y → slice_get new j ≡ Some z → P j y z
  each_more j y z at got = by_cases (slice_get_push xs x j z (sym (ap (λ (l : List X). slice_get l j) step) ∙ got))
    where
      by_cases : ((slice_get xs j ≡ Some z) ⊎ ((j ≡ length xs) × (x ≡ z))) → P j y z
      by_cases (inl e) = before j y z at e
      by_cases (inr e) =
          let here : i ≡ j = sym count ∙ sym e.0 in
          subst (λ (w : X). P j y w) e.1 (subst (λ (k : ℕ). P k y x) here (last y (ap (λ (k : ℕ). slice_get ys k) here ∙ at)))

-- what relates two lists place by place relates the elements at one place
pub zip_at : {X Y : Type 0} (R : X → Y → Type 0) (xs : List X) (ys : List Y) → AllZip R xs ys → (i : ℕ) (x : X) (y : Y) → slice_get xs i ≡ Some x → slice_get ys i ≡ Some y → R x y
zip_at R [] ys h i x y at_x at_y = absurd (cc)
zip_at R (v ∷ xs) [] h i x y at_x at_y = absurd (cc)
zip_at {X} {Y} R (v ∷ xs) (w ∷ ys) h zero x y at_x at_y =
    let left : v ≡ x = cc in
    let right : w ≡ y = cc in
    subst (λ (z : X). R z y) left (subst (λ (z : Y). R v z) right h.0)
zip_at R (v ∷ xs) (w ∷ ys) h (suc i) x y at_x at_y = zip_at R xs ys h.1 i x y at_x at_y

-- ---- the shapes of the views that are left
module _ (third : Bool) (m : Measure) (vs : List JobView) (es : List Extent) where
  pub shapes_more : (i : ℕ) (v : JobView) (e : Extent) (s : Shape) (xs new all : List Shape) → i < length vs → i < length es → v ≡ get_or vs i v → e ≡ get_or es i e
      → s ≡ shape_of third m v e → new ≡ xs ++ s ∷ [] → xs ++ shapes_of third m (drop i vs) (drop i es) ≡ all → new ++ shapes_of third m (drop (i + 1) vs) (drop (i + 1) es) ≡ all
  shapes_more i v e s xs new all hv he at_v at_e is step so_far =
      let rest = shapes_of third m (drop (i + 1) vs) (drop (i + 1) es) in
      let shape : s ≡ shape_of third m (get_or vs i v) (get_or es i e) = is ∙ (λ k. shape_of third m (at_v k) (at_e k)) in
      ap (λ (l : List Shape). l ++ rest) step
      ∙ append_assoc xs (s ∷ []) rest
      ∙ ap (λ (z : Shape). xs ++ (z ∷ rest)) shape
      ∙ sym (λ k. xs ++ shapes_of third m (drop_more vs i v hv k) (drop_more es i e he k)) ∙ so_far

  pub shapes_all : (i : ℕ) (xs all : List Shape) → length vs ≤ i → xs ++ shapes_of third m (drop i vs) (drop i es) ≡ all → xs ≡ all
  shapes_all i xs all h so_far = sym (ap (λ (l : List JobView). xs ++ shapes_of third m l (drop i es)) (drop_all i vs h) ∙ append-nil xs) ∙ so_far
