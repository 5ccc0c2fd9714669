-- What a test of two whole numbers tells.
use Rattle.std.proofs.Common.{◌≡◌, Bool, true, false, refl, sym, ◌∙◌, arith}
use Rattle.std.specs.Prelude.{ℤ, ◌<ℤ◌, ◌≤ℤ◌}
use Rattle.std.specs.Int.Signed.{lt_z}
use Rattle.std.proofs.lemmas.Int.{ints}

pub less_of : (a b : ℤ) → lt_z a b ≡ true → a <ℤ b
less_of a b e = omega (arith, ints)

pub most_of : (a b : ℤ) → lt_z a b ≡ false → b ≤ℤ a
most_of a b e = omega (arith, ints)

-- two tests that say the same
pub same_test : (a b k l : ℤ) → (a <ℤ b → l ≤ℤ k → ⊥) → (k <ℤ l → b ≤ℤ a → ⊥) → lt_z a b ≡ lt_z k l
same_test a b k l there back = by (lt_z a b) (lt_z k l) refl refl
  where
    by : (v w : Bool) → lt_z a b ≡ v → lt_z k l ≡ w → lt_z a b ≡ lt_z k l
    by false false e g = e ∙ sym g
    by true true e g = e ∙ sym g
    by true false e g = absurd (there (less_of a b e) (most_of k l g))
    by false true e g = absurd (back (less_of k l g) (most_of a b e))
