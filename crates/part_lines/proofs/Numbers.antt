-- Numbers in range, and how many decimals leave a number in range.
use Rattle.std.proofs.Common.{◌≡◌, ℕ, ℤ, zero, suc, ◌-◌, true≢false, List, Some, refl, sym, subst, inl, arith}
use Rattle.std.specs.Prelude.{Result, Ok, Err, IsErr}
use Rattle.dec_text.specs.declared.number.Length.{Length}
use Rattle.dec_text.specs.declared.number.NumberFault.{NumberFault}
use Rattle.part_lines.specs.Hints.{IsInRange, IsRoom}

pub err_in_range : (fault : NumberFault) (units : ℤ) → Err fault ≡ Ok units → ⊥
err_in_range fault units is = true≢false (sym (subst (λ (r : Result ℤ NumberFault). IsErr r) is refl))

-- a number that is in range at one decimal fewer
pub room_here : (unit : Length) (text : List ℕ) (decimals : ℕ) → (decimals ≡ 0 → ⊥) → IsInRange (decimals - 1) unit text → IsRoom unit text decimals (Some (decimals - 1))
room_here unit text zero some h = absurd (some refl)
room_here unit text (suc n) some h = subst (λ (m : ℕ). IsInRange m unit text → IsRoom unit text (suc n) (Some m)) (sym one_less) (λ there. inl (there, refl)) h
  where
    one_less : suc n - 1 ≡ n
    one_less = omega arith
