-- How large the coordinates of a middle are.
use Rattle.std.proofs.Common.{◌≡◌, ◌+◌, ◌*◌, ◌≤◌, ◌^◌, ℕ, sym, subst, ap, ◌∙◌, arith}
use Rattle.std.specs.Prelude.{ℤ, pos, ◌+ℤ◌, ◌*ℤ◌, unsigned_abs}
use Rattle.std.proofs.lemmas.Int.{unsigned_abs-mul}
use Rattle.integers.proofs.Sizes.{abs_times, abs_plus}

pub coordinate : (x w : ℤ) → unsigned_abs x ≤ 2 ^ 21 * unsigned_abs w → unsigned_abs w ≤ 2 ^ 24 → unsigned_abs x ≤ 2 ^ 45
coordinate x w h k = omega arith

parts : (a b r m n : ℕ) → r ≤ m + n → m ≡ (2 ^ 21 * a) * b → n ≡ (2 ^ 21 * b) * a → r ≤ 2 ^ 21 * (2 * (a * b))
parts a b r m n h e f = omega arith

pub near : (x v y w : ℤ) → unsigned_abs x ≤ 2 ^ 21 * unsigned_abs w → unsigned_abs y ≤ 2 ^ 21 * unsigned_abs v → unsigned_abs ((x *ℤ v) +ℤ (y *ℤ w)) ≤ 2 ^ 21 * unsigned_abs (pos 2 *ℤ (w *ℤ v))
near x v y w h k =
    let a = unsigned_abs w in
    let b = unsigned_abs v in
    let first = abs_times x v (2 ^ 21 * a) b h (omega arith) in
    let second = abs_times y w (2 ^ 21 * b) a k (omega arith) in
    let Near : ℕ → Type 0 = λ n. unsigned_abs ((x *ℤ v) +ℤ (y *ℤ w)) ≤ 2 ^ 21 * n in
    let whole : unsigned_abs (pos 2 *ℤ (w *ℤ v)) ≡ 2 * (a * b) = unsigned_abs-mul (pos 2) (w *ℤ v) ∙ ap (λ (n : ℕ). 2 * n) (unsigned_abs-mul w v) in
    subst Near (sym whole) (parts a b _ ((2 ^ 21 * a) * b) ((2 ^ 21 * b) * a) (abs_plus (x *ℤ v) (y *ℤ w) _ _ first second) (λ i. (2 ^ 21 * a) * b) (λ i. (2 ^ 21 * b) * a))

pub near_at : (r s t u : ℤ) → s ≡ r → u ≡ t → unsigned_abs r ≤ 2 ^ 21 * unsigned_abs t → unsigned_abs s ≤ 2 ^ 21 * unsigned_abs u
near_at r s t u e f h =
    subst (λ (z : ℤ). unsigned_abs s ≤ 2 ^ 21 * unsigned_abs z) (sym f) (subst (λ (z : ℤ). unsigned_abs z ≤ 2 ^ 21 * unsigned_abs t) (sym e) h)
