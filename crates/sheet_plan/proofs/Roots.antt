-- The greatest number whose square is at most n is its root.
use Rattle.std.proofs.Common.{◌≡◌, ℕ, zero, suc, ◌+◌, ◌*◌, ◌<◌, ◌≤◌, ◌⊎◌, inl, inr, arith, refl, Bool, true, false, mul-le-mul}
use Rattle.std.specs.Prelude.{nat_le, if◌then◌else◌}
use Rattle.std.proofs.lemmas.Bool.{leb-true, leb-false, cases_lt}
use Rattle.sheet_plan.specs.Numbers.{root_up_to, root_of}

-- no greater number has a square as small
at_most : (n g k : ℕ) → n < (g + 1) * (g + 1) → k * k ≤ n → k ≤ g
at_most n g k h s = by_cases (cases_lt g k)
  where
    by_cases : (g < k) ⊎ (k ≤ g) → k ≤ g
    by_cases (inl l) = absurd (let m : (g + 1) * (g + 1) ≤ k * k = mul-le-mul (omega arith) (omega arith) in omega arith)
    by_cases (inr l) = l

found : (n g m : ℕ) → g * g ≤ n → n < (g + 1) * (g + 1) → g ≤ m → g ≡ root_up_to n m
found n g zero low high h = omega arith
found n g (suc m) low high h = go (λ k. found n g m low high k) (nat_le (suc m * suc m) n) refl
  where
    go : (g ≤ m → g ≡ root_up_to n m) → (b : Bool) → nat_le (suc m * suc m) n ≡ b → g ≡ (if b then suc m else root_up_to n m)
    go before true e = let k = at_most n g (suc m) high (leb-true (suc m * suc m) n e) in omega arith
    go before false e = before (less (cases_lt m g))
      where
        less : (m < g) ⊎ (g ≤ m) → g ≤ m
        less (inl l) = absurd (let k : suc m * suc m ≤ g * g = mul-le-mul (omega arith) (omega arith) in let t = leb-false (suc m * suc m) n e in omega arith)
        less (inr l) = l

itself : (n g : ℕ) → g * g ≤ n → g ≤ n
itself n zero h = omega arith
itself n (suc g) h = let m : 1 * suc g ≤ suc g * suc g = mul-le-mul (omega arith) (omega arith) in omega arith

pub root_of-is : (n g : ℕ) → g * g ≤ n → n < (g + 1) * (g + 1) → g ≡ root_of n
unfolding root_of
root_of-is n g low high = found n g n low high (itself n g low)
