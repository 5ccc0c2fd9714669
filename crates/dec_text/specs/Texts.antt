-- How fractions are written.
use Rattle.std.specs.Prelude.{◌≡◌, ◌⊎◌, ℤ, pos, ◌*ℤ◌, ◌<ℤ◌, List, ◌++◌, ℕ, codes}
use Rattle.std.specs.Fmt.{signed_decimal}
use Rattle.exact_frac.specs.Divisors.{IsGreatestDivisor}
use Rattle.exact_frac.specs.declared.Frac.{Frac}

-- two numbers as `num` where the second is 1, and else as `num/den`
abbrev pub IsRatioText : ℤ → ℤ → List ℕ → Type 0
IsRatioText num den text = ((den ≡ pos 1) × (text ≡ signed_decimal num)) ⊎ ((pos 1 <ℤ den) × (text ≡ signed_decimal num ++ codes "/" ++ signed_decimal den))

-- the fraction in lowest terms, as `n` where it is whole, and else as `n/d`
pub record IsFractionText (value : Frac) (text : List ℕ) : Type 0 where
  pub num : ℤ
  pub den : ℤ
  pub same : num *ℤ value.den ≡ value.num *ℤ den
  pub positive : pos 0 <ℤ den
  pub lowest : IsGreatestDivisor num den (pos 1)
  pub is : IsRatioText num den text
