-- Orders of whole numbers: what they say, and that a positive factor on both sides keeps them.
use Rattle.std.proofs.Common.{◌≡◌, ◌↔◌, Bool, true, false, IsTrue, [], ◌∷◌, refl, sym, ap, subst, arith}
use Rattle.std.specs.Prelude.{ℤ, pos, ◌-ℤ◌, ◌*ℤ◌, ◌≤ℤ◌, ◌<ℤ◌}
use Rattle.std.specs.Cmp.{int_ranks, int_cmp_is}
use Rattle.std.specs.Int.Signed.{lt_z}
use Rattle.std.specs.Ordering.{int_cmp, is_lt, is_le, MatchOrdering}
use Rattle.std.specs.declared.cmp.Ordering.{Ordering}
use Rattle.std.specs.declared.cmp.Ordering.TheVariants.{Less, Equal, Greater}
use Rattle.std.proofs.lemmas.Bool.{true_from_ne_false, false_from_ne_true}
use Rattle.std.proofs.lemmas.Int.{ints}
use Rattle.integers.proofs.Comparisons.{not_negative_of_positive, gap_of_at_most, sum_positive}
use Rattle.integers.proofs.Ring.{var, con, ◌⊕◌, ◌⊖◌, ◌⊗◌, ring, by_one, by_two, less_by, gap_of_less, same_of_gap}
use Rattle.integers.proofs.Signs.{mul_pos, mul_nonneg, pos_of_mul, zero_of_mul}

pub mul_less : (a b k : ℤ) → pos 0 <ℤ k → a <ℤ b → (a *ℤ k) <ℤ (b *ℤ k)
mul_less a b k hk h =
    less_by (a *ℤ k) (b *ℤ k) ((b -ℤ a) *ℤ k) (ring (a ∷ b ∷ k ∷ []) ((var 1 ⊗ var 2) ⊖ (var 0 ⊗ var 2)) ((var 1 ⊖ var 0) ⊗ var 2) refl) (mul_pos (b -ℤ a) k (gap_of_less a b h) hk)

pub int_cmp-mul : (a b k : ℤ) → pos 0 <ℤ k → int_cmp (a *ℤ k) (b *ℤ k) ≡ int_cmp a b
int_cmp-mul a b k hk = sym (int_cmp_is (a *ℤ k) (b *ℤ k) (int_cmp a b) (go (int_cmp a b) (int_ranks a b)))
  where
    go : (r : Ordering) → MatchOrdering r (a <ℤ b) (a ≡ b) (b <ℤ a) → MatchOrdering r ((a *ℤ k) <ℤ (b *ℤ k)) (a *ℤ k ≡ b *ℤ k) ((b *ℤ k) <ℤ (a *ℤ k))
    go Less h = mul_less a b k hk h
    go Equal h = ap (λ (z : ℤ). z *ℤ k) h
    go Greater h = mul_less b a k hk h

-- what the order of two numbers says of them
pub less_of_cmp : (a b : ℤ) → int_cmp a b ≡ Less → a <ℤ b
less_of_cmp a b p = subst (λ (r : Ordering). MatchOrdering r (a <ℤ b) (a ≡ b) (b <ℤ a)) p (int_ranks a b)

pub equal_of_cmp : (a b : ℤ) → int_cmp a b ≡ Equal → a ≡ b
equal_of_cmp a b p = subst (λ (r : Ordering). MatchOrdering r (a <ℤ b) (a ≡ b) (b <ℤ a)) p (int_ranks a b)

pub less_of_is_lt : (r : Ordering) → is_lt r ≡ true → r ≡ Less
less_of_is_lt Less e = refl
less_of_is_lt Equal e = cc
less_of_is_lt Greater e = cc

pub at_most_of_not_lt : (a b : ℤ) → is_lt (int_cmp a b) ≡ false → b ≤ℤ a
at_most_of_not_lt a b h = go (int_cmp a b) (int_ranks a b) h
  where
    go : (r : Ordering) → MatchOrdering r (a <ℤ b) (a ≡ b) (b <ℤ a) → is_lt r ≡ false → b ≤ℤ a
    go Less k e = cc
    go Equal k e = omega (arith, ints)
    go Greater k e = omega (arith, ints)

pub at_most_of_le : (x y : ℤ) (b : Bool) → b ≡ is_le (int_cmp x y) → IsTrue b ↔ (x ≤ℤ y)
at_most_of_le x y b e = by (int_cmp x y) (int_ranks x y) e
  where
    by : (r : Ordering) → MatchOrdering r (x <ℤ y) (x ≡ y) (y <ℤ x) → b ≡ is_le r → IsTrue b ↔ (x ≤ℤ y)
    by Less h f = ((λ t. omega (arith, ints)), (λ t. f))
    by Equal h f = ((λ t. omega (arith, ints)), (λ t. f))
    by Greater h f = ((λ t. absurd (cc)), (λ t. absurd (omega (arith, ints))))

-- what the test of two numbers gives
pub lt_z_of_less : (a b : ℤ) → a <ℤ b → lt_z a b ≡ true
lt_z_of_less a b h = true_from_ne_false (lt_z a b) (λ e. omega (arith, ints))

pub lt_z_of_at_most : (a b : ℤ) → b ≤ℤ a → lt_z a b ≡ false
lt_z_of_at_most a b h = false_from_ne_true (lt_z a b) (λ e. omega (arith, ints))

-- a common positive factor goes
pub same_of_products : (a b k : ℤ) → pos 0 <ℤ k → a *ℤ k ≡ b *ℤ k → a ≡ b
same_of_products a b k hk e =
    same_of_gap a b (zero_of_mul k (a -ℤ b) hk (by_one _ _ (a *ℤ k) (b *ℤ k) (pos 1)
    (ring (a ∷ b ∷ k ∷ []) ((var 2 ⊗ (var 0 ⊖ var 1)) ⊖ con (pos 0)) (((var 0 ⊗ var 2) ⊖ (var 1 ⊗ var 2)) ⊗ con (pos 1)) refl) e))

-- fractions a / k, b / l, c / m with positive denominators: of one value by way of the second, and less by way of the second
pub same_through : (a b c k l m : ℤ) → pos 0 <ℤ l → a *ℤ l ≡ b *ℤ k → b *ℤ m ≡ c *ℤ l → a *ℤ m ≡ c *ℤ k
same_through a b c k l m hl e f =
    same_of_gap (a *ℤ m) (c *ℤ k) (zero_of_mul l ((a *ℤ m) -ℤ (c *ℤ k)) hl
    (by_two (l *ℤ ((a *ℤ m) -ℤ (c *ℤ k))) (pos 0) (a *ℤ l) (b *ℤ k) m (b *ℤ m) (c *ℤ l) k
    (ring (a ∷ b ∷ c ∷ k ∷ l ∷ m ∷ [])
    ((var 4 ⊗ ((var 0 ⊗ var 5) ⊖ (var 2 ⊗ var 3))) ⊖ con (pos 0))
    ((((var 0 ⊗ var 4) ⊖ (var 1 ⊗ var 3)) ⊗ var 5) ⊕ (((var 1 ⊗ var 5) ⊖ (var 2 ⊗ var 4)) ⊗ var 3)) refl) e f))

pub less_through : (a k b l c m : ℤ) → pos 0 <ℤ k → pos 0 <ℤ l → pos 0 <ℤ m → (a *ℤ l) <ℤ (b *ℤ k) → (b *ℤ m) ≤ℤ (c *ℤ l) → (a *ℤ m) <ℤ (c *ℤ k)
less_through a k b l c m hk hl hm less most =
    less_by _ _ _ refl (pos_of_mul l ((c *ℤ k) -ℤ (a *ℤ m)) hl
    (sum_positive (k *ℤ ((c *ℤ l) -ℤ (b *ℤ m))) (m *ℤ ((b *ℤ k) -ℤ (a *ℤ l))) _
    (ring (a ∷ k ∷ b ∷ l ∷ c ∷ m ∷ [])
    (var 3 ⊗ ((var 4 ⊗ var 1) ⊖ (var 0 ⊗ var 5)))
    ((var 1 ⊗ ((var 4 ⊗ var 3) ⊖ (var 2 ⊗ var 5))) ⊕ (var 5 ⊗ ((var 2 ⊗ var 1) ⊖ (var 0 ⊗ var 3)))) refl)
    (mul_nonneg k _ (not_negative_of_positive k hk) (gap_of_at_most _ _ most)) (mul_pos m _ hm (gap_of_less _ _ less))))
