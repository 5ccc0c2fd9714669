-- Two columns as one.
use Rattle.std.specs.Prelude.{ℕ, ℤ, List, ◌++◌, ◌∷◌}
use Rattle.std.specs.Fmt.{signed_decimal}
use Rattle.exact_frac.specs.declared.Frac.{Frac}
use Rattle.plot_rack.specs.Lists.{frac_text}
use Rattle.piece_verify.specs.Values.{IsInRange, IsListedFrac}

-- both values
abbrev pub Both : {X Y : Type 0} → (X → Type 0) → (Y → Type 0) → X × Y → Type 0
Both First Second both = First both.0 × Second both.1

-- one text, a blank and the other
abbrev pub both_texts : {X Y : Type 0} → (X → List ℕ) → (Y → List ℕ) → X × Y → List ℕ
both_texts first second both = first both.0 ++ 32 ∷ second both.1

-- two numbers
abbrev pub AreNumbers : ℤ × ℤ → Type 0
AreNumbers = Both IsInRange IsInRange

abbrev pub numbers_text : ℤ × ℤ → List ℕ
numbers_text = both_texts signed_decimal signed_decimal

-- two fractions
abbrev pub AreFractions : Frac × Frac → Type 0
AreFractions = Both IsListedFrac IsListedFrac

abbrev pub fractions_text : Frac × Frac → List ℕ
fractions_text = both_texts frac_text frac_text

-- two points on the sheet
abbrev pub ArePlaces : (ℤ × ℤ) × (ℤ × ℤ) → Type 0
ArePlaces = Both AreNumbers AreNumbers

abbrev pub places_text : (ℤ × ℤ) × (ℤ × ℤ) → List ℕ
places_text = both_texts numbers_text numbers_text

-- two points of a view
abbrev pub AreEnds : (Frac × Frac) × (Frac × Frac) → Type 0
AreEnds = Both AreFractions AreFractions

abbrev pub ends_text : (Frac × Frac) × (Frac × Frac) → List ℕ
ends_text = both_texts fractions_text fractions_text
