-- Two perturbed ways.
use Rattle.std.proofs.Common.{◌≡◌, [], ◌∷◌, refl, ap, ◌∙◌, arith}
use Rattle.std.specs.Prelude.{ℤ, pos, negsuc, ◌+ℤ◌, ◌-ℤ◌, ◌*ℤ◌, ◌≤ℤ◌, ◌<ℤ◌}
use Rattle.std.proofs.lemmas.Int.{ints}
use Rattle.integers.proofs.Comparisons.{positive_at}
use Rattle.integers.proofs.Ring.{Expr, var, con, ◌⊕◌, ◌⊖◌, ◌⊗◌, ring}
use Rattle.integers.proofs.Signs.{mul_pos, mul_nonneg}
use Rattle.geometry.specs.Counts.{Side, to_left, to_right}
use Rattle.geometry.specs.Turns.{Way, turn_from, product_of, perturbed}
use Rattle.hiding_laws.specs.inner.Perturbations.{perturbation_between}
use Rattle.hiding_laws.proofs.CornerLaws.{IsBelow, PerturbedLaw}
use Rattle.hiding_laws.proofs.Signs.{weak, sum_pos_left, sum_nonneg}

-- s is the product of the two perturbations
abbrev both : Side → Side → ℤ
both to_left to_left = pos 1
both to_left to_right = negsuc 0
both to_right to_left = negsuc 0
both to_right to_right = pos 1

module _ (k : ℤ) (x y : Way) where
  abbrev X : Expr
  X = (var 1 ⊗ var 4) ⊖ (var 2 ⊗ var 3)

  abbrev D : Expr
  D = (var 1 ⊗ var 3) ⊕ (var 2 ⊗ var 4)

  abbrev K : Expr
  K = var 0

  abbrev plus : Expr → Expr → Expr
  plus a b = (K ⊗ a) ⊕ b

  abbrev less : Expr → Expr → Expr
  less a b = (K ⊗ a) ⊖ b

  form : (c c' : Side) → turn_from (perturbed c k x) (perturbed c' k y) ≡ (((k *ℤ k) +ℤ both c c') *ℤ turn_from x y) +ℤ (k *ℤ (perturbation_between c c' *ℤ product_of x y))
  form to_left to_left =
      ring (k ∷ x.u ∷ x.v ∷ y.u ∷ y.v ∷ []) ((less (var 1) (var 2) ⊗ plus (var 4) (var 3)) ⊖ (plus (var 2) (var 1) ⊗ less (var 3) (var 4)))
      ((((K ⊗ K) ⊕ con (pos 1)) ⊗ X) ⊕ (K ⊗ (con (pos 0) ⊗ D))) refl
  form to_left to_right =
      ring (k ∷ x.u ∷ x.v ∷ y.u ∷ y.v ∷ []) ((less (var 1) (var 2) ⊗ less (var 4) (var 3)) ⊖ (plus (var 2) (var 1) ⊗ plus (var 3) (var 4)))
      ((((K ⊗ K) ⊕ con (negsuc 0)) ⊗ X) ⊕ (K ⊗ (con (negsuc 1) ⊗ D))) refl
  form to_right to_left =
      ring (k ∷ x.u ∷ x.v ∷ y.u ∷ y.v ∷ []) ((plus (var 1) (var 2) ⊗ plus (var 4) (var 3)) ⊖ (less (var 2) (var 1) ⊗ less (var 3) (var 4)))
      ((((K ⊗ K) ⊕ con (negsuc 0)) ⊗ X) ⊕ (K ⊗ (con (pos 2) ⊗ D))) refl
  form to_right to_right =
      ring (k ∷ x.u ∷ x.v ∷ y.u ∷ y.v ∷ []) ((plus (var 1) (var 2) ⊗ less (var 4) (var 3)) ⊖ (less (var 2) (var 1) ⊗ plus (var 3) (var 4)))
      ((((K ⊗ K) ⊕ con (pos 1)) ⊗ X) ⊕ (K ⊗ (con (pos 0) ⊗ D))) refl

-- the greater part has the sign of t
module _ (k s h d : ℤ) (large : pos 1 <ℤ k) (s_least : pos 0 ≤ℤ (s +ℤ pos 1)) (least : (pos 0 -ℤ k) <ℤ (h *ℤ d)) where
  grown : (t : ℤ) → pos 0 <ℤ t → pos 0 <ℤ ((((k *ℤ k) +ℤ s) *ℤ t) +ℤ (k *ℤ (h *ℤ d)))
  grown t p =
      positive_at _ _
      (ring (k ∷ s ∷ h ∷ d ∷ t ∷ [])
      ((((var 0 ⊗ var 0) ⊕ var 1) ⊗ var 4) ⊕ (var 0 ⊗ (var 2 ⊗ var 3)))
      ((((var 1 ⊕ one) ⊗ var 4) ⊕ (((var 0 ⊗ var 0) ⊖ one) ⊗ (var 4 ⊖ one))) ⊕ ((var 0 ⊖ one) ⊕ (var 0 ⊗ ((var 0 ⊕ (var 2 ⊗ var 3)) ⊖ one)))) refl)
      (more _ _
      (sum_nonneg _ _ (mul_nonneg _ t s_least (weak t p)) (mul_nonneg _ _ (square k large) (one_less t p)))
      (sum_pos_left _ _ (above_one k large) (mul_nonneg k _ (weak k (above k large)) (rest k (h *ℤ d) least))))
    where
      one : Expr
      one = con (pos 1)

      more : (a b : ℤ) → pos 0 ≤ℤ a → pos 0 <ℤ b → pos 0 <ℤ (a +ℤ b)
      more a b p q = omega (arith, ints)

      one_less : (t : ℤ) → pos 0 <ℤ t → pos 0 ≤ℤ (t -ℤ pos 1)
      one_less t h = omega (arith, ints)

      above : (k : ℤ) → pos 1 <ℤ k → pos 0 <ℤ k
      above k h = omega (arith, ints)

      above_one : (k : ℤ) → pos 1 <ℤ k → pos 0 <ℤ (k -ℤ pos 1)
      above_one k h = omega (arith, ints)

      square : (k : ℤ) → pos 1 <ℤ k → pos 0 ≤ℤ ((k *ℤ k) -ℤ pos 1)
      square k h = less (k *ℤ k) (k *ℤ (k -ℤ pos 1)) k (mul_pos k (k -ℤ pos 1) (above k h) (above_one k h)) (ring (k ∷ []) (var 0 ⊗ (var 0 ⊖ con (pos 1))) ((var 0 ⊗ var 0) ⊖ var 0) refl) h
        where
          less : (s p k : ℤ) → pos 0 <ℤ p → p ≡ s -ℤ k → pos 1 <ℤ k → pos 0 ≤ℤ (s -ℤ pos 1)
          less s p k h e l = omega (arith, ints)

      rest : (k z : ℤ) → (pos 0 -ℤ k) <ℤ z → pos 0 ≤ℤ ((k +ℤ z) -ℤ pos 1)
      rest k z h = omega (arith, ints)

both_least : (c c' : Side) → pos 0 ≤ℤ (both c c' +ℤ pos 1)
both_least to_left to_left = omega (arith, ints)
both_least to_left to_right = omega (arith, ints)
both_least to_right to_left = omega (arith, ints)
both_least to_right to_right = omega (arith, ints)

perturbation_least : (c c' : Side) (k d : ℤ) → pos 1 <ℤ k → IsBelow k (d +ℤ d) → (pos 0 -ℤ k) <ℤ (perturbation_between c c' *ℤ d)
perturbation_least to_left to_left k d l h = omega (arith, ints)
perturbation_least to_left to_right k d l h = let a = h.least in let b = h.most in omega (arith, ints)
perturbation_least to_right to_left k d l h = let a = h.least in let b = h.most in omega (arith, ints)
perturbation_least to_right to_right k d l h = omega (arith, ints)

perturbation_back : (c c' : Side) (k d : ℤ) → pos 1 <ℤ k → IsBelow k (d +ℤ d) → (pos 0 -ℤ k) <ℤ (perturbation_between c c' *ℤ (pos 0 -ℤ d))
perturbation_back c c' k d l h = perturbation_least c c' k (pos 0 -ℤ d) l (let a = h.least in let b = h.most in record { least = omega (arith, ints); most = omega (arith, ints) })

pub perturbed_law : PerturbedLaw
perturbed_law c c' k x y large below = (
  λ p. positive_at _ _ (form k x y c c') (grown k (both c c') (perturbation_between c c') (product_of x y) large (both_least c c') (perturbation_least c c' k (product_of x y) large below) (turn_from x y) p),
  λ p. turned _ (positive_at _ _ (ap (λ v. pos 0 -ℤ v) (form k x y c c') ∙ flip (both c c') (perturbation_between c c') (turn_from x y) (product_of x y))
      (grown k (both c c') (perturbation_between c c') (pos 0 -ℤ product_of x y) large (both_least c c') (perturbation_back c c' k (product_of x y) large below) (pos 0 -ℤ turn_from x y) (up _ p))),
  λ e. form k x y c c' ∙ ap (λ v. (((k *ℤ k) +ℤ both c c') *ℤ v) +ℤ (k *ℤ (perturbation_between c c' *ℤ product_of x y))) e ∙ none (k *ℤ k) (both c c') (k *ℤ (perturbation_between c c' *ℤ product_of x y)),
)
  where
    turned : (x : ℤ) → pos 0 <ℤ (pos 0 -ℤ x) → x <ℤ pos 0
    turned x h = omega (arith, ints)

    up : (x : ℤ) → x <ℤ pos 0 → pos 0 <ℤ (pos 0 -ℤ x)
    up x h = omega (arith, ints)

    flip : (s h t d : ℤ) → pos 0 -ℤ ((((k *ℤ k) +ℤ s) *ℤ t) +ℤ (k *ℤ (h *ℤ d))) ≡ (((k *ℤ k) +ℤ s) *ℤ (pos 0 -ℤ t)) +ℤ (k *ℤ (h *ℤ (pos 0 -ℤ d)))
    flip s h t d = ring (k ∷ s ∷ h ∷ t ∷ d ∷ []) (con (pos 0) ⊖ ((((var 0 ⊗ var 0) ⊕ var 1) ⊗ var 3) ⊕ (var 0 ⊗ (var 2 ⊗ var 4)))) ((((var 0 ⊗ var 0) ⊕ var 1) ⊗ (con (pos 0) ⊖ var 3)) ⊕ (var 0 ⊗ (var 2 ⊗ (con (pos 0) ⊖ var 4)))) refl

    none : (k s z : ℤ) → ((k +ℤ s) *ℤ pos 0) +ℤ z ≡ z
    none k s z = ring (k ∷ s ∷ z ∷ []) (((var 0 ⊕ var 1) ⊗ con (pos 0)) ⊕ var 2) (var 2) refl
