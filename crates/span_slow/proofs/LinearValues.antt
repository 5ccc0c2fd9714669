-- What is linear along an edge: its value at a share depends on the share alone, up to a positive factor.
use Rattle.std.proofs.Common.{◌≡◌, [], ◌∷◌, refl, sym, ap, ◌∙◌, arith}
use Rattle.std.specs.Prelude.{ℤ, pos, ◌+ℤ◌, ◌-ℤ◌, ◌*ℤ◌, ◌<ℤ◌, ◌≤ℤ◌}
use Rattle.std.proofs.lemmas.Int.{ints}
use Rattle.integers.proofs.Comparisons.{times_zero}
use Rattle.integers.proofs.Ring.{Expr, var, ◌⊕◌, ◌⊖◌, ◌⊗◌, ring, by_one, gap_of_less}
use Rattle.integers.proofs.Signs.{zero_of_mul, mul_nonpos}
use Rattle.hiding_laws.specs.Values.{value_at}

abbrev values : Expr → Expr → Expr
values n m = ((m ⊖ n) ⊗ var 0) ⊕ (n ⊗ var 1)

-- n / m and k / l have one value
pub same_value : (f g n m k l : ℤ) → n *ℤ l ≡ k *ℤ m → l *ℤ value_at f g n m ≡ m *ℤ value_at f g k l
same_value f g n m k l h =
    by_one (l *ℤ value_at f g n m) (m *ℤ value_at f g k l) (n *ℤ l) (k *ℤ m) (g -ℤ f)
    (ring (f ∷ g ∷ n ∷ m ∷ k ∷ l ∷ []) ((var 5 ⊗ values (var 2) (var 3)) ⊖ (var 3 ⊗ values (var 4) (var 5))) (((var 2 ⊗ var 5) ⊖ (var 4 ⊗ var 3)) ⊗ (var 1 ⊖ var 0)) refl) h

pub same_root : (f g n m k l : ℤ) → pos 0 <ℤ l → n *ℤ l ≡ k *ℤ m → value_at f g k l ≡ pos 0 → value_at f g n m ≡ pos 0
same_root f g n m k l positive h root = zero_of_mul l (value_at f g n m) positive (same_value f g n m k l h ∙ ap (λ (v : ℤ). m *ℤ v) root ∙ times_zero m)

-- a value that is at most 0 at both ends is at most 0 between them
pub at_most_between : (f g n m : ℤ) → pos 0 <ℤ n → n <ℤ m → f ≤ℤ pos 0 → g ≤ℤ pos 0 → value_at f g n m ≤ℤ pos 0
at_most_between f g n m least most hf hg = sum _ _ (mul_nonpos (m -ℤ n) f (gap_of_less n m most) hf) (mul_nonpos n g least hg)
  where
    sum : (a b : ℤ) → a ≤ℤ pos 0 → b ≤ℤ pos 0 → (a +ℤ b) ≤ℤ pos 0
    sum a b p q = omega (arith, ints)

-- a value that is the same at both ends is so many times it
pub level_value : (f g n m : ℤ) → f ≡ g → value_at f g n m ≡ m *ℤ f
level_value f g n m h =
    by_one (value_at f g n m) (m *ℤ f) g f n
    (ring (f ∷ g ∷ n ∷ m ∷ []) (values (var 2) (var 3) ⊖ (var 3 ⊗ var 0)) ((var 1 ⊖ var 0) ⊗ var 2) refl) (sym h)
