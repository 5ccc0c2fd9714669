-- What is linear along an edge: where it is first at least 0, or 0, and that it stays so up to another such place.
use Rattle.std.proofs.Common.{◌≡◌, ℕ, zero, suc, ◌+◌, ◌*◌, ◌<◌, ◌≤◌, [], ◌∷◌, unsigned_abs, refl, sym, subst, ◌∙◌, arith}
use Rattle.std.specs.Prelude.{ℤ, pos, negsuc, neg_ℤ, ◌+ℤ◌, ◌-ℤ◌, ◌*ℤ◌, ◌<ℤ◌, ◌≤ℤ◌}
use Rattle.std.proofs.Math.Nat.{mul-le-mul_left, mul-le-mul_right, le_of_mul-le-mul_left}
use Rattle.std.proofs.lemmas.Int.{ints, by_lt_z}
use Rattle.integers.proofs.Ring.{var, con, ◌⊕◌, ◌⊖◌, ◌⊗◌, ring}
use Rattle.fault_place.specs.inner.Meetings.{IsNoLater}

-- ---- the order of places
-- fractions m / n, k / l and i / j, or with divisors of 0: of the first and the second, and of the second and the third
through : (i j k l m n : ℕ) → 0 < k + l → l * m ≤ k * n → j * k ≤ l * i → j * m ≤ n * i
through i zero k l m n some h g = omega arith
through i (suc j) k zero m n some h g = absurd (omega arith)
through i j k (suc l) m n some h g =
    let first : j * (suc l * m) ≤ j * (k * n) = mul-le-mul_left j h in
    let second : (j * k) * n ≤ (suc l * i) * n = mul-le-mul_right n g in
    le_of_mul-le-mul_left {m = j * m} {n = n * i} {k = suc l} (omega (arith, first, second)) (omega arith)

pub no_later_through : (i j k l m n : ℕ) → 0 < k + l → IsNoLater i j k l → IsNoLater k l m n → IsNoLater i j m n
no_later_through i j k l m n some g h = through i j k l m n some (omega (arith, h)) g

-- ---- what is s at the first corner and e at the second
abbrev pub value : ℤ → ℤ → ℕ → ℕ → ℤ
value s e i j = (pos i *ℤ s) +ℤ (pos j *ℤ e)

-- where it is below 0 at both it is so everywhere
never : (s e k l : ℕ) → 0 < k + l → pos 0 ≤ℤ value (negsuc s) (negsuc e) k l → ⊥
never s e zero zero some h = omega arith
never s e zero (suc l) some h = omega (arith, ints)
never s e (suc k) l some h = omega (arith, ints)

-- the place at which it comes up to 0 is no later than one at which it isn't below, and from there on it isn't below
pub entry_no_later : (s e : ℤ) (k l : ℕ) → 0 < k + l → s <ℤ pos 0 → pos 0 ≤ℤ value s e k l → IsNoLater (unsigned_abs e) (unsigned_abs s) k l
entry_no_later (pos s) e k l some less h = absurd (omega (arith, ints))
entry_no_later (negsuc s) (pos e) k l some less h = omega (arith, ints)
entry_no_later (negsuc s) (negsuc e) k l some less h = absurd (never s e k l some h)

pub not_below_behind : (s e : ℤ) (i j k l : ℕ) → 0 < k + l → s <ℤ pos 0 → pos 0 ≤ℤ value s e k l → IsNoLater (unsigned_abs e) (unsigned_abs s) i j → pos 0 ≤ℤ value s e i j
not_below_behind (pos s) e i j k l some less h g = absurd (omega (arith, ints))
not_below_behind (negsuc s) (pos e) i j k l some less h g = omega (arith, ints)
not_below_behind (negsuc s) (negsuc e) i j k l some less h g = absurd (never s e k l some h)

-- and where it begins at 0 or above, it isn't below up to there
pub not_below_before : (s e : ℤ) (i j k l : ℕ) → 0 < k + l → pos 0 ≤ℤ s → pos 0 ≤ℤ value s e k l → IsNoLater i j k l → pos 0 ≤ℤ value s e i j
not_below_before (negsuc s) e i j k l some least h g = absurd (omega (arith, ints))
not_below_before (pos s) (pos e) i j k l some least h g = omega (arith, ints)
not_below_before (pos s) (negsuc e) i j k l some least h g =
    let falls : l * suc e ≤ k * s = omega (arith, ints) in
    let less : j * suc e ≤ s * i = through i j k l (suc e) s some falls g in
    omega (arith, ints, less)

-- ---- the same with the other sign
negation_is : (z : ℤ) → neg_ℤ z ≡ pos 0 -ℤ z
negation_is z = omega (arith, ints)

negated : (s e : ℤ) (i j : ℕ) → value (neg_ℤ s) (neg_ℤ e) i j ≡ neg_ℤ (value s e i j)
negated s e i j =
    (λ t. (pos i *ℤ negation_is s t) +ℤ (pos j *ℤ negation_is e t))
    ∙ ring (pos i ∷ pos j ∷ s ∷ e ∷ []) ((var 0 ⊗ (con (pos 0) ⊖ var 2)) ⊕ (var 1 ⊗ (con (pos 0) ⊖ var 3))) (con (pos 0) ⊖ ((var 0 ⊗ var 2) ⊕ (var 1 ⊗ var 3))) refl
    ∙ sym (negation_is (value s e i j))

same_size : (e : ℤ) → unsigned_abs (neg_ℤ e) ≡ unsigned_abs e
same_size e = omega (arith, ints)

level_of_both : (v : ℤ) → pos 0 ≤ℤ v → pos 0 ≤ℤ neg_ℤ v → v ≡ pos 0
level_of_both v h g = omega (arith, ints)

above_of_level : (v : ℤ) → v ≡ pos 0 → pos 0 ≤ℤ v
above_of_level v h = omega (arith, ints)

below_of_level : (v : ℤ) → v ≡ pos 0 → pos 0 ≤ℤ neg_ℤ v
below_of_level v h = omega (arith, ints)

module _ (s e : ℤ) (k l : ℕ) (some : 0 < k + l) (level : value s e k l ≡ pos 0) where
  up : pos 0 ≤ℤ value s e k l
  up = above_of_level _ level

  down : pos 0 ≤ℤ value (neg_ℤ s) (neg_ℤ e) k l
  down = subst (λ (z : ℤ). pos 0 ≤ℤ z) (sym (negated s e k l)) (below_of_level _ level)

  falling : pos 0 <ℤ s → neg_ℤ s <ℤ pos 0
  falling h = omega (arith, ints)

  -- the place at which it is 0
  pub crossing_no_later : (s ≡ pos 0 → ⊥) → IsNoLater (unsigned_abs e) (unsigned_abs s) k l
  crossing_no_later off =
      by_lt_z s (pos 0) (λ h. entry_no_later s e k l some h up)
      (λ h. by_lt_z (pos 0) s
      (λ h. subst (λ (n : ℕ). n * k ≤ l * unsigned_abs e) (same_size s) (subst (λ (n : ℕ). unsigned_abs (neg_ℤ s) * k ≤ l * n) (same_size e)
      (entry_no_later (neg_ℤ s) (neg_ℤ e) k l some (falling h) down)))
      (λ g. absurd (off (zero_of_both s h g))))
    where
      zero_of_both : (s : ℤ) → pos 0 ≤ℤ s → s ≤ℤ pos 0 → s ≡ pos 0
      zero_of_both s h g = omega (arith, ints)

  module _ (i j : ℕ) (before : IsNoLater i j k l) where
    both : pos 0 ≤ℤ value s e i j → pos 0 ≤ℤ value (neg_ℤ s) (neg_ℤ e) i j → value s e i j ≡ pos 0
    both h g = level_of_both _ h (subst (λ (z : ℤ). pos 0 ≤ℤ z) (negated s e i j) g)

    -- it is 0 up to there where it begins with 0
    pub level_before : s ≡ pos 0 → value s e i j ≡ pos 0
    level_before at = both (not_below_before s e i j k l some (above_of_level s at) up before) (not_below_before (neg_ℤ s) (neg_ℤ e) i j k l some (below_of_level s at) down before)

    -- and else between the first place and the second
    pub level_between : (s ≡ pos 0 → ⊥) → IsNoLater (unsigned_abs e) (unsigned_abs s) i j → value s e i j ≡ pos 0
    level_between off behind =
        by_lt_z s (pos 0)
        (λ h. both (not_below_behind s e i j k l some h up behind) (not_below_before (neg_ℤ s) (neg_ℤ e) i j k l some (rising s h) down before))
        (λ h. both (not_below_before s e i j k l some h up before) (not_below_behind (neg_ℤ s) (neg_ℤ e) i j k l some (falling (positive s h off)) down
        (subst (λ (n : ℕ). n * i ≤ j * unsigned_abs (neg_ℤ e)) (sym (same_size s)) (subst (λ (n : ℕ). unsigned_abs s * i ≤ j * n) (sym (same_size e)) behind))))
      where
        rising : (s : ℤ) → s <ℤ pos 0 → pos 0 ≤ℤ neg_ℤ s
        rising s h = omega (arith, ints)

        positive : (s : ℤ) → pos 0 ≤ℤ s → (s ≡ pos 0 → ⊥) → pos 0 <ℤ s
        positive (pos zero) h off = absurd (off refl)
        positive (pos (suc s)) h off = omega (arith, ints)
        positive (negsuc s) h off = absurd (omega (arith, ints))
