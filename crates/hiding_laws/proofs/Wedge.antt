-- The three weights of a place on a line that parts one corner of a triangle from the two others.
use Rattle.std.proofs.Common.{◌≡◌, arith}
use Rattle.std.specs.Prelude.{ℤ, pos, ◌+ℤ◌, ◌*ℤ◌, ◌≤ℤ◌, ◌<ℤ◌}
use Rattle.std.proofs.lemmas.Int.{ints, by_lt_z}
use Rattle.integers.proofs.Signs.{mul_nonneg, mul_pos, mul_nonpos_first}
use Rattle.hiding_laws.proofs.Signs.{weak, mul_neg_left}

-- t is the weight of the lone corner, which is s away from the line; the others, with weights e and z, are x and y away on its other side
module _ (t e z w s x y : ℤ) (whole : (t +ℤ e) +ℤ z ≡ w) (some : pos 0 <ℤ w) (on_line : t *ℤ s ≡ (e *ℤ x) +ℤ (z *ℤ y))
    (s_least : pos 0 ≤ℤ s) (x_least : pos 0 ≤ℤ x) (y_least : pos 0 ≤ℤ y) (x_apart : pos 0 <ℤ (s +ℤ x)) (y_apart : pos 0 <ℤ (s +ℤ y)) where
  above : (s x : ℤ) → s ≤ℤ pos 0 → pos 0 <ℤ (s +ℤ x) → pos 0 <ℤ x
  above s x h a = omega (arith, ints)

  too_low : (p a b : ℤ) → p ≡ a +ℤ b → p <ℤ pos 0 → pos 0 ≤ℤ a → pos 0 ≤ℤ b → ⊥
  too_low p a b e l h k = omega (arith, ints)

  left_low : (p a b : ℤ) → p ≡ a +ℤ b → p ≤ℤ pos 0 → pos 0 <ℤ a → pos 0 ≤ℤ b → ⊥
  left_low p a b e l h k = omega (arith, ints)

  right_low : (p a b : ℤ) → p ≡ a +ℤ b → p ≤ℤ pos 0 → pos 0 ≤ℤ a → pos 0 <ℤ b → ⊥
  right_low p a b e l h k = omega (arith, ints)

  too_high : (p a b : ℤ) → p ≡ a +ℤ b → pos 0 <ℤ p → a ≤ℤ pos 0 → b ≤ℤ pos 0 → ⊥
  too_high p a b e l h k = omega (arith, ints)

  left_high : (p a b : ℤ) → p ≡ a +ℤ b → pos 0 ≤ℤ p → a <ℤ pos 0 → b ≤ℤ pos 0 → ⊥
  left_high p a b e l h k = omega (arith, ints)

  right_high : (p a b : ℤ) → p ≡ a +ℤ b → pos 0 ≤ℤ p → a ≤ℤ pos 0 → b <ℤ pos 0 → ⊥
  right_high p a b e l h k = omega (arith, ints)

  rest : (t e z w : ℤ) → (t +ℤ e) +ℤ z ≡ w → pos 0 <ℤ w → e ≤ℤ pos 0 → z ≤ℤ pos 0 → pos 0 <ℤ t
  rest t e z w h p a b = omega (arith, ints)

  weak_neg : (x : ℤ) → x <ℤ pos 0 → x ≤ℤ pos 0
  weak_neg x h = omega (arith, ints)

  clash : (x : ℤ) → pos 0 <ℤ x → x <ℤ pos 0 → ⊥
  clash x p q = omega (arith, ints)

  not_below : pos 0 ≤ℤ e → pos 0 ≤ℤ z → t <ℤ pos 0 → ⊥
  not_below e_least z_least low =
      let a = mul_nonneg e x e_least x_least in
      let b = mul_nonneg z y z_least y_least in
      by_lt_z (pos 0) s
      (λ h. too_low _ _ _ on_line (mul_neg_left t s low h) a b)
      (λ h. by_lt_z (pos 0) e
      (λ k. left_low _ _ _ on_line (mul_nonpos_first t s (weak_neg t low) s_least) (mul_pos e x k (above s x h x_apart)) b)
      (λ k. by_lt_z (pos 0) z
      (λ l. right_low _ _ _ on_line (mul_nonpos_first t s (weak_neg t low) s_least) a (mul_pos z y l (above s y h y_apart)))
      (λ l. clash t (rest t e z w whole some k l) low)))

  -- within both sides, a place is within the third
  pub third_least : pos 0 ≤ℤ e → pos 0 ≤ℤ z → pos 0 ≤ℤ t
  third_least p q = by_lt_z t (pos 0) (λ h. absurd (not_below p q h)) (λ h. h)

  no_left : e <ℤ pos 0 → z ≤ℤ pos 0 → ⊥
  no_left p q =
      let high = rest t e z w whole some (weak_neg e p) q in
      by_lt_z (pos 0) s
      (λ h. too_high _ _ _ on_line (mul_pos t s high h) (mul_nonpos_first e x (weak_neg e p) x_least) (mul_nonpos_first z y q y_least))
      (λ h. left_high _ _ _ on_line (mul_nonneg t s (weak t high) s_least) (mul_neg_left e x p (above s x h x_apart)) (mul_nonpos_first z y q y_least))

  no_right : z <ℤ pos 0 → e ≤ℤ pos 0 → ⊥
  no_right p q =
      let high = rest t e z w whole some q (weak_neg z p) in
      by_lt_z (pos 0) s
      (λ h. too_high _ _ _ on_line (mul_pos t s high h) (mul_nonpos_first e x q x_least) (mul_nonpos_first z y (weak_neg z p) y_least))
      (λ h. right_high _ _ _ on_line (mul_nonneg t s (weak t high) s_least) (mul_nonpos_first e x q x_least) (mul_neg_left z y p (above s y h y_apart)))

  -- no place is beyond both sides
  pub right_of_left : e <ℤ pos 0 → pos 0 <ℤ z
  right_of_left p = by_lt_z (pos 0) z (λ h. h) (λ h. absurd (no_left p h))

  pub left_of_right : z <ℤ pos 0 → pos 0 <ℤ e
  left_of_right p = by_lt_z (pos 0) e (λ h. h) (λ h. absurd (no_right p h))
