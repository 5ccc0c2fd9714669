-- Comparisons of whole numbers: weaker ones, ones that can't both be, and what they say of differences, negations and sums.
use Rattle.std.proofs.Common.{◌≡◌, arith}
use Rattle.std.specs.Prelude.{ℤ, pos, ◌+ℤ◌, ◌-ℤ◌, ◌*ℤ◌, ◌≤ℤ◌, ◌<ℤ◌}
use Rattle.std.proofs.lemmas.Int.{ints}

pub at_most_of_less : (a b : ℤ) → a <ℤ b → a ≤ℤ b
at_most_of_less a b h = omega (arith, ints)

pub at_most_of_same : (a b : ℤ) → a ≡ b → a ≤ℤ b
at_most_of_same a b e = omega (arith, ints)

pub not_negative_of_positive : (a : ℤ) → pos 0 <ℤ a → pos 0 ≤ℤ a
not_negative_of_positive a h = omega (arith, ints)

pub not_positive_of_negative : (a : ℤ) → a <ℤ pos 0 → a ≤ℤ pos 0
not_positive_of_negative a h = omega (arith, ints)

pub at_most_itself : (a : ℤ) → a ≤ℤ a
at_most_itself a = omega (arith, ints)

pub same_of_both : (a b : ℤ) → a ≤ℤ b → b ≤ℤ a → a ≡ b
same_of_both a b h k = omega (arith, ints)

pub positive_of_more : (a b : ℤ) → pos 0 <ℤ a → a <ℤ b → pos 0 <ℤ b
positive_of_more a b h k = omega (arith, ints)

pub one_less_not_negative : (a : ℤ) → pos 0 <ℤ a → pos 0 ≤ℤ (a -ℤ pos 1)
one_less_not_negative a h = omega (arith, ints)

-- of 0 itself
pub zero_between : (a : ℤ) → pos 0 ≤ℤ a → a ≤ℤ pos 0 → a ≡ pos 0
zero_between a h k = omega (arith, ints)

pub not_negative_of_zero : (a : ℤ) → a ≡ pos 0 → pos 0 ≤ℤ a
not_negative_of_zero a e = omega (arith, ints)

-- of a number that equals another
pub positive_at : (a b : ℤ) → a ≡ b → pos 0 <ℤ b → pos 0 <ℤ a
positive_at a b e h = omega (arith, ints)

pub not_negative_at : (a b : ℤ) → a ≡ b → pos 0 ≤ℤ b → pos 0 ≤ℤ a
not_negative_at a b e h = omega (arith, ints)

-- what can't be
pub less_not_at_most : (a b : ℤ) → a <ℤ b → b ≤ℤ a → ⊥
less_not_at_most a b h k = omega (arith, ints)

pub less_not_same : (a b : ℤ) → a <ℤ b → a ≡ b → ⊥
less_not_same a b h e = omega (arith, ints)

pub positive_not_zero : (a : ℤ) → pos 0 <ℤ a → a ≡ pos 0 → ⊥
positive_not_zero a h e = omega (arith, ints)

pub negative_not_zero : (a : ℤ) → a <ℤ pos 0 → a ≡ pos 0 → ⊥
negative_not_zero a h e = omega (arith, ints)

pub positive_not_negative : (a : ℤ) → pos 0 <ℤ a → a <ℤ pos 0 → ⊥
positive_not_negative a h k = omega (arith, ints)

-- differences; `gap_of_less`, `less_by` and `same_of_gap` stand beside `ring`
pub less_of_gap : (a b : ℤ) → pos 0 <ℤ (b -ℤ a) → a <ℤ b
less_of_gap a b h = omega (arith, ints)

pub gap_of_at_most : (a b : ℤ) → a ≤ℤ b → pos 0 ≤ℤ (b -ℤ a)
gap_of_at_most a b h = omega (arith, ints)

pub at_most_of_gap : (a b : ℤ) → pos 0 ≤ℤ (b -ℤ a) → a ≤ℤ b
at_most_of_gap a b h = omega (arith, ints)

pub at_most_by : (a b c : ℤ) → b -ℤ a ≡ c → pos 0 ≤ℤ c → a ≤ℤ b
at_most_by a b c e h = omega (arith, ints)

pub gap_of_same : (a b : ℤ) → a ≡ b → a -ℤ b ≡ pos 0
gap_of_same a b e = omega (arith, ints)

pub same_of_gap_back : (a b : ℤ) → b -ℤ a ≡ pos 0 → a ≡ b
same_of_gap_back a b e = omega (arith, ints)

-- negations
pub negation_positive : (a : ℤ) → a <ℤ pos 0 → pos 0 <ℤ (pos 0 -ℤ a)
negation_positive a h = omega (arith, ints)

pub negation_not_negative : (a : ℤ) → a ≤ℤ pos 0 → pos 0 ≤ℤ (pos 0 -ℤ a)
negation_not_negative a h = omega (arith, ints)

pub negative_of_negation : (a : ℤ) → pos 0 <ℤ (pos 0 -ℤ a) → a <ℤ pos 0
negative_of_negation a h = omega (arith, ints)

pub zero_of_negation : (a b : ℤ) → a ≡ pos 0 -ℤ b → a ≡ pos 0 → b ≡ pos 0
zero_of_negation a b e z = omega (arith, ints)

pub positive_of_negated : (a b : ℤ) → b ≡ pos 0 -ℤ a → a <ℤ pos 0 → pos 0 <ℤ b
positive_of_negated a b e h = omega (arith, ints)

-- sums
pub sum_exchanged : (a b : ℤ) → a +ℤ b ≡ b +ℤ a
sum_exchanged a b = omega (arith, ints)

pub zero_plus : (a : ℤ) → a ≡ pos 0 +ℤ a
zero_plus a = omega (arith, ints)

pub plus_zero : (a : ℤ) → a ≡ a +ℤ pos 0
plus_zero a = omega (arith, ints)

pub sum_positive_first : (a b : ℤ) → pos 0 <ℤ a → pos 0 ≤ℤ b → pos 0 <ℤ (a +ℤ b)
sum_positive_first a b h k = omega (arith, ints)

pub sum_positive_last : (a b : ℤ) → pos 0 ≤ℤ a → pos 0 <ℤ b → pos 0 <ℤ (a +ℤ b)
sum_positive_last a b h k = omega (arith, ints)

pub sum_not_negative : (a b : ℤ) → pos 0 ≤ℤ a → pos 0 ≤ℤ b → pos 0 ≤ℤ (a +ℤ b)
sum_not_negative a b h k = omega (arith, ints)

pub sum_positive : (a b c : ℤ) → c ≡ a +ℤ b → pos 0 ≤ℤ a → pos 0 <ℤ b → pos 0 <ℤ c
sum_positive a b c e h k = omega (arith, ints)

pub twice_positive : (a : ℤ) → pos 0 <ℤ a → pos 0 <ℤ (pos 2 *ℤ a)
twice_positive a h = omega (arith, ints)

pub last_two_exchanged : (a b c : ℤ) → (a +ℤ b) +ℤ c ≡ (a +ℤ c) +ℤ b
last_two_exchanged a b c = omega (arith, ints)

-- products with 0 and 1
pub times_zero : (a : ℤ) → a *ℤ pos 0 ≡ pos 0
times_zero a = omega (arith, ints)

pub zero_times : (a : ℤ) → pos 0 *ℤ a ≡ pos 0
zero_times a = omega (arith, ints)

pub times_one : (a : ℤ) → a ≡ a *ℤ pos 1
times_one a = omega (arith, ints)
