-- Digits, one after the other.
use Rattle.std.proofs.Common.{◌≡◌, ℕ, zero, suc, ◌-◌, ◌/◌, ◌%◌, ◌^◌, List, refl, sym, ap, subst, ◌∙◌, arith}
use Rattle.std.specs.Fmt.{decimal}
use Rattle.length_text.specs.Lengths.{digits}
use Rattle.svg_page.specs.Texts.{◌⊕◌}

-- the first digit, and those behind it
next : (count rest : ℕ) → (count ≡ 0 → ⊥) → (rest ≡ 0 → ⊥) → digits count rest ≡ decimal (rest / 10 ^ (count - 1)) ⊕ digits (count - 1) (rest % 10 ^ (count - 1))
next zero rest some more = absurd (some refl)
next (suc n) zero some more = absurd (more refl)
next (suc n) (suc r) some more =
    let same : n ≡ suc n - 1 = omega arith in
    ap (λ (k : ℕ). decimal (suc r / 10 ^ k) ⊕ digits k (suc r % 10 ^ k)) same

pub step : (count rest place : ℕ) (text : List ℕ) → (count ≡ 0 → ⊥) → (rest ≡ 0 → ⊥) → place ≡ 10 ^ (count - 1) → text ≡ decimal (rest / place) ⊕ digits (count - 1) (rest % place) → text ≡ digits count rest
step count rest place text some more is same =
    subst (λ (p : ℕ). text ≡ decimal (rest / p) ⊕ digits (count - 1) (rest % p)) is same ∙ sym (next count rest some more)
