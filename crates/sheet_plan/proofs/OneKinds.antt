-- A mark is known by its pen, and by its word.
use Rattle.std.proofs.Common.{◌≡◌, ◌≢◌, ℕ, List, ◌∷◌, refl, arith}
use Rattle.sheet_plan.specs.LineKinds.{pen_of, word_of}
use Rattle.sheet_plan.specs.declared.sheet.Mark.{Mark}
use Rattle.sheet_plan.specs.declared.sheet.Mark.TheVariants.{Solid, Dashed, Chain, Hatch}

pub mark_of_pen : (a b : Mark) → pen_of a ≡ pen_of b → a ≡ b
mark_of_pen Solid Solid e = refl
mark_of_pen Dashed Dashed e = refl
mark_of_pen Chain Chain e = refl
mark_of_pen Hatch Hatch e = refl
mark_of_pen Solid Dashed e = absurd (omega (arith, e))
mark_of_pen Solid Chain e = absurd (omega (arith, e))
mark_of_pen Solid Hatch e = absurd (omega (arith, e))
mark_of_pen Dashed Solid e = absurd (omega (arith, e))
mark_of_pen Dashed Chain e = absurd (omega (arith, e))
mark_of_pen Dashed Hatch e = absurd (omega (arith, e))
mark_of_pen Chain Solid e = absurd (omega (arith, e))
mark_of_pen Chain Dashed e = absurd (omega (arith, e))
mark_of_pen Chain Hatch e = absurd (omega (arith, e))
mark_of_pen Hatch Solid e = absurd (omega (arith, e))
mark_of_pen Hatch Dashed e = absurd (omega (arith, e))
mark_of_pen Hatch Chain e = absurd (omega (arith, e))

other_word : (a b : ℕ) (xs ys : List ℕ) → a ≢ b → a ∷ xs ≡ b ∷ ys → ⊥
other_word a b xs ys other e = other (let h : a ≡ b = cc in h)

pub mark_of_word : (m n : Mark) → word_of m ≡ word_of n → m ≡ n
mark_of_word Solid Solid e = refl
mark_of_word Solid Dashed e = absurd (other_word 115 100 _ _ (λ h. omega (arith, h)) e)
mark_of_word Solid Chain e = absurd (other_word 115 99 _ _ (λ h. omega (arith, h)) e)
mark_of_word Solid Hatch e = absurd (other_word 115 104 _ _ (λ h. omega (arith, h)) e)
mark_of_word Dashed Solid e = absurd (other_word 100 115 _ _ (λ h. omega (arith, h)) e)
mark_of_word Dashed Dashed e = refl
mark_of_word Dashed Chain e = absurd (other_word 100 99 _ _ (λ h. omega (arith, h)) e)
mark_of_word Dashed Hatch e = absurd (other_word 100 104 _ _ (λ h. omega (arith, h)) e)
mark_of_word Chain Solid e = absurd (other_word 99 115 _ _ (λ h. omega (arith, h)) e)
mark_of_word Chain Dashed e = absurd (other_word 99 100 _ _ (λ h. omega (arith, h)) e)
mark_of_word Chain Chain e = refl
mark_of_word Chain Hatch e = absurd (other_word 99 104 _ _ (λ h. omega (arith, h)) e)
mark_of_word Hatch Solid e = absurd (other_word 104 115 _ _ (λ h. omega (arith, h)) e)
mark_of_word Hatch Dashed e = absurd (other_word 104 100 _ _ (λ h. omega (arith, h)) e)
mark_of_word Hatch Chain e = absurd (other_word 104 99 _ _ (λ h. omega (arith, h)) e)
mark_of_word Hatch Hatch e = refl
