-- The numbers of a scale are from 1 to 100, and the first is at most 50; so hatch lines are at most 3 * 10^8 units apart.
use Rattle.std.proofs.Common.{◌≡◌, ◌⊎◌, inl, inr, ℕ, zero, suc, ◌*◌, ◌/◌, ◌<◌, ◌≤◌, ◌^◌, max, mul-le-mul, List, [], ◌∷◌, refl, arith, Bool, true}
use Rattle.std.specs.Prelude.{IsTrue, ◌&&◌, ◌==◌, nat_le}
use Rattle.std.specs.List.{list_any, list_all}
use Rattle.std.proofs.lemmas.Bool.{leb-true, eqb-true, and_parts, or_cases}
use Rattle.std.proofs.Math.Nat.{div-le_self, mul_assoc}
use Rattle.job_file.specs.declared.job.Scale.{Scale}
use Rattle.job_file.specs.Scales.{scales, is_scale}

pub record IsBounded (num den : ℕ) : Type 0 where
  pub num_least : 1 ≤ num
  pub num_greatest : num ≤ 50
  pub den_least : 1 ≤ den
  pub den_greatest : den ≤ 100

abbrev bounded : List ℕ × (ℕ × ℕ) → Bool
bounded s = (nat_le 1 s.1.0 && nat_le s.1.0 50) && (nat_le 1 s.1.1 && nat_le s.1.1 100)

one_of : (num den : ℕ) (xs : List (List ℕ × (ℕ × ℕ))) → list_all bounded xs ≡ true → list_any (λ s. (s.1.0 == num) && (s.1.1 == den)) xs ≡ true → IsBounded num den
one_of num den [] all any = absurd (cc)
one_of num den (s ∷ xs) all any =
    let both = and_parts (bounded s) (list_all bounded xs) all in
    by_cases (one_of num den xs both.1) both.0 (or_cases ((s.1.0 == num) && (s.1.1 == den)) (list_any (λ s. (s.1.0 == num) && (s.1.1 == den)) xs) any)
  where
    by_cases : (list_any (λ s. (s.1.0 == num) && (s.1.1 == den)) xs ≡ true → IsBounded num den) → bounded s ≡ true
        → ((((s.1.0 == num) && (s.1.1 == den)) ≡ true) ⊎ (list_any (λ s. (s.1.0 == num) && (s.1.1 == den)) xs ≡ true)) → IsBounded num den
    by_cases rest first (inl h) = at_one (and_parts (nat_le 1 s.1.0 && nat_le s.1.0 50) (nat_le 1 s.1.1 && nat_le s.1.1 100) first) (and_parts (s.1.0 == num) (s.1.1 == den) h)
      where
        at_one : ((nat_le 1 s.1.0 && nat_le s.1.0 50) ≡ true) × ((nat_le 1 s.1.1 && nat_le s.1.1 100) ≡ true) → ((s.1.0 == num) ≡ true) × ((s.1.1 == den) ≡ true) → IsBounded num den
        at_one b e =
            let n = and_parts (nat_le 1 s.1.0) (nat_le s.1.0 50) b.0 in
            let d = and_parts (nat_le 1 s.1.1) (nat_le s.1.1 100) b.1 in
            let nl = leb-true 1 s.1.0 n.0 in
            let ng = leb-true s.1.0 50 n.1 in
            let dl = leb-true 1 s.1.1 d.0 in
            let dg = leb-true s.1.1 100 d.1 in
            let en = eqb-true s.1.0 num e.0 in
            let ed = eqb-true s.1.1 den e.1 in
            record { num_least = omega arith; num_greatest = omega arith; den_least = omega arith; den_greatest = omega arith }
    by_cases rest first (inr h) = rest h

pub scale_bounds : (num den : ℕ) → IsTrue (is_scale num den) → IsBounded num den
scale_bounds num den h = one_of num den scales refl h

power_small : (k : ℕ) → k ≤ 6 → 10 ^ k ≤ 10 ^ 6
power_small zero h = omega arith
power_small (suc zero) h = omega arith
power_small (suc (suc zero)) h = omega arith
power_small (suc (suc (suc zero))) h = omega arith
power_small (suc (suc (suc (suc zero)))) h = omega arith
power_small (suc (suc (suc (suc (suc zero))))) h = omega arith
power_small (suc (suc (suc (suc (suc (suc zero)))))) h = omega arith
power_small (suc (suc (suc (suc (suc (suc (suc k))))))) h = absurd (omega arith)

pub spacing_small : (s : Scale) (k : ℕ) → k ≤ 6 → max (3 * 10 ^ k * s.den / s.num) 1 < 2 ^ 32
spacing_small s k few =
    let b = scale_bounds s.num s.den s.listed in
    let product = mul-le-mul (power_small k few) b.den_greatest in
    let quotient = div-le_self (3 * 10 ^ k * s.den) s.num in
    let turned = mul_assoc 3 (10 ^ k) s.den in
    omega arith
