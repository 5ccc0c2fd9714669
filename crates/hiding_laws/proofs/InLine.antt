-- A triangle that is not edge-on does not have all its corners on the line of an edge that is not seen end-on.
use Rattle.std.proofs.Common.{◌≡◌, [], ◌∷◌, ◌<◌, refl, ◌∙◌, arith, zero, suc, unsigned_abs}
use Rattle.std.specs.Prelude.{ℤ, pos, negsuc, ◌-ℤ◌, ◌*ℤ◌}
use Rattle.std.proofs.lemmas.Int.{ints}
use Rattle.hiding_laws.proofs.Screens.{Screen, area_of}
use Rattle.integers.proofs.Ring.{var, ◌⊖◌, ◌⊗◌, ring}
use Rattle.integers.proofs.Signs.{zero_of_times}
use Rattle.hiding_laws.proofs.ScreenLetters.{area}
use Rattle.hiding_laws.proofs.EdgeScreenLetters.{P, Q, A, B, C, Zero, flat_values}

module _ (p q a b c : Screen) (ea : area_of p q a ≡ pos 0) (eb : area_of p q b ≡ pos 0) (ec : area_of p q c ≡ pos 0) where
  nothing : (x y : ℤ) → (x *ℤ (pos 0 -ℤ pos 0)) -ℤ (y *ℤ (pos 0 -ℤ pos 0)) ≡ pos 0
  nothing x y = ring (x ∷ y ∷ []) ((var 0 ⊗ (Zero ⊖ Zero)) ⊖ (var 1 ⊗ (Zero ⊖ Zero))) Zero refl

  across_zero : area_of a b c *ℤ (q.u -ℤ p.u) ≡ pos 0
  across_zero =
      ring (flat_values p q a b c (pos 0) (pos 0)) (area A B C ⊗ (Q.u ⊖ P.u)) (((B.u ⊖ A.u) ⊗ (area P Q C ⊖ area P Q A)) ⊖ ((C.u ⊖ A.u) ⊗ (area P Q B ⊖ area P Q A))) refl
      ∙ (λ t. ((b.u -ℤ a.u) *ℤ (ec t -ℤ ea t)) -ℤ ((c.u -ℤ a.u) *ℤ (eb t -ℤ ea t)))
      ∙ nothing (b.u -ℤ a.u) (c.u -ℤ a.u)

  upward_zero : area_of a b c *ℤ (q.v -ℤ p.v) ≡ pos 0
  upward_zero =
      ring (flat_values p q a b c (pos 0) (pos 0)) (area A B C ⊗ (Q.v ⊖ P.v)) (((B.v ⊖ A.v) ⊗ (area P Q C ⊖ area P Q A)) ⊖ ((C.v ⊖ A.v) ⊗ (area P Q B ⊖ area P Q A))) refl
      ∙ (λ t. ((b.v -ℤ a.v) *ℤ (ec t -ℤ ea t)) -ℤ ((c.v -ℤ a.v) *ℤ (eb t -ℤ ea t)))
      ∙ nothing (b.v -ℤ a.v) (c.v -ℤ a.v)

  pub in_line : ¬ (area_of a b c ≡ pos 0) → (p.u ≡ q.u) × (p.v ≡ q.v)
  in_line some = (same _ _ (zero_of_times _ _ (size _ some) across_zero), same _ _ (zero_of_times _ _ (size _ some) upward_zero))
    where
      same : (x y : ℤ) → y -ℤ x ≡ pos 0 → x ≡ y
      same x y e = omega (arith, ints)

      size : (z : ℤ) → ¬ (z ≡ pos 0) → 0 < unsigned_abs z
      size (pos zero) n = absurd (n refl)
      size (pos (suc k)) n = omega arith
      size (negsuc k) n = omega arith
