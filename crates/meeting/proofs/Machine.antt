-- What the machine's tests say, and chains of three tests.
use Rattle.std.proofs.Common.{◌≡◌, Bool, true, false, sym, subst, ◌∙◌, arith}
use Rattle.std.specs.Prelude.{◌↔◌, ℤ, pos, ◌+ℤ◌, ◌≤ℤ◌, ◌<ℤ◌, IsTrue}
use Rattle.std.proofs.lemmas.Int.{ints}
use lib.Signed.{le_z, lt_z}

-- an order of numbers that the machine reads as they are
pub at_most_test : (x y a b : ℤ) → x ≡ a → y ≡ b → IsTrue (le_z x y) ↔ (a ≤ℤ b)
at_most_test x y a b e f = (λ h. to x y a b e f h, λ h. from x y a b e f h)
  where
    to : (x y a b : ℤ) → x ≡ a → y ≡ b → IsTrue (le_z x y) → a ≤ℤ b
    to x y a b e f h = omega (arith, ints)

    from : (x y a b : ℤ) → x ≡ a → y ≡ b → a ≤ℤ b → IsTrue (le_z x y)
    from x y a b e f h = let t : true ≡ le_z x y = omega (arith, ints) in sym t

pub less_test : (x y a b : ℤ) → x ≡ a → y ≡ b → IsTrue (lt_z x y) ↔ (a <ℤ b)
less_test x y a b e f = (λ h. to x y a b e f h, λ h. from x y a b e f h)
  where
    to : (x y a b : ℤ) → x ≡ a → y ≡ b → IsTrue (lt_z x y) → a <ℤ b
    to x y a b e f h = omega (arith, ints)

    from : (x y a b : ℤ) → x ≡ a → y ≡ b → a <ℤ b → IsTrue (lt_z x y)
    from x y a b e f h = let t : true ≡ lt_z x y = omega (arith, ints) in sym t

-- what holds where A, B and C do
module _ {A B C P : Type 0} (all : P ↔ (A × B × C)) where
  -- the first two hold, and the third is asked
  pub third_asked : {x y z : Bool} → IsTrue x ↔ A → IsTrue y ↔ B → IsTrue z ↔ C → x ≡ true → y ≡ true → IsTrue z ↔ P
  third_asked a b c e f = (λ h. all.1 (a.0 e, b.0 f, c.0 h), λ p. c.1 ((all.0 p).2))

  -- the first holds, and the second doesn't
  pub second_failed : {x y v : Bool} → IsTrue x ↔ A → IsTrue y ↔ B → v ≡ y → v ≡ false → IsTrue v ↔ P
  second_failed a b e f = (λ h. cc, λ p. e ∙ b.1 ((all.0 p).1))

  -- the first doesn't
  pub first_failed : {x v : Bool} → IsTrue x ↔ A → x ≡ false → v ≡ false → IsTrue v ↔ P
  first_failed a e f = (λ h. cc, λ p. let h = a.1 ((all.0 p).0) in cc)

pub swapped : {X Y : Type 0} → X ↔ Y → Y ↔ X
swapped f = (f.1, f.0)

-- two numbers, and their sum, that are read as others
pub signs_read : {X : Type 0} (k l m n : ℤ) → k ≡ m → l ≡ n → X ↔ ((pos 0 ≤ℤ m) × (pos 0 ≤ℤ n) × (pos 0 <ℤ (m +ℤ n))) → ((pos 0 ≤ℤ k) × (pos 0 ≤ℤ l) × (pos 0 <ℤ (k +ℤ l))) ↔ X
signs_read {X} k l m n e f h =
    subst (λ (z : ℤ). ((pos 0 ≤ℤ z) × (pos 0 ≤ℤ l) × (pos 0 <ℤ (z +ℤ l))) ↔ X) (sym e)
    (subst (λ (z : ℤ). ((pos 0 ≤ℤ m) × (pos 0 ≤ℤ z) × (pos 0 <ℤ (m +ℤ z))) ↔ X) (sym f) (swapped h))
