-- A line's value along an edge: at its ends, and where it changes its sign.
use Rattle.std.proofs.Common.{◌≡◌, ◌≤◌, ◌^◌, ◌⊎◌, true, [], ◌∷◌, refl, sym, subst, ◌∙◌, arith, to_z, of_z, unsigned_abs}
use Rattle.std.specs.Prelude.{ℤ, pos, ◌+ℤ◌, ◌-ℤ◌, ◌*ℤ◌, ◌<ℤ◌, ◌≤ℤ◌, Option, Some, None, IfNone}
use Rattle.std.specs.Int.{w128}
use Rattle.std.specs.Int.Signed.{lt_z}
use Rattle.std.proofs.lemmas.Int.{ints}
use Rattle.integers.proofs.Comparisons.{negation_positive}
use Rattle.integers.proofs.Ring.{var, con, ◌⊕◌, ◌⊖◌, ◌⊗◌, ring}
use Rattle.exact_frac.specs.declared.Frac.{Frac}
use Rattle.cut_plane.specs.inner.Crossings.{IsRootOf}
use Rattle.cut_plane.specs.Crossings.{IsShort}
use Rattle.cut_plane.proofs.FoundCrossings.{rising_root, falling_root, no_root}

-- ---- at the ends
-- a corner's divisor is 1
pub by_one_divisor : (x c : ℤ) → x -ℤ c ≡ x -ℤ (c *ℤ pos 1)
by_one_divisor x c = ring (x ∷ c ∷ []) (var 0 ⊖ var 1) (var 0 ⊖ (var 1 ⊗ con (pos 1))) refl

-- the value at the first corner and its change are the value at the second
pub value_after : (a b c u v x y : ℤ) → (((a *ℤ u) +ℤ (b *ℤ v)) -ℤ c) +ℤ ((a *ℤ (x -ℤ u)) +ℤ (b *ℤ (y -ℤ v))) ≡ ((a *ℤ x) +ℤ (b *ℤ y)) -ℤ (c *ℤ pos 1)
value_after a b c u v x y =
    ring (a ∷ b ∷ c ∷ u ∷ v ∷ x ∷ y ∷ [])
    ((((var 0 ⊗ var 3) ⊕ (var 1 ⊗ var 4)) ⊖ var 2) ⊕ ((var 0 ⊗ (var 5 ⊖ var 3)) ⊕ (var 1 ⊗ (var 6 ⊖ var 4))))
    (((var 0 ⊗ var 5) ⊕ (var 1 ⊗ var 6)) ⊖ (var 2 ⊗ con (pos 1))) refl

-- ---- where the value is 0
-- the sign of the change, as the machine reads it
pub rises : (k : ℤ) → unsigned_abs k ≤ 2 ^ 66 → lt_z (pos 0) (to_z w128 (of_z w128 k)) ≡ true → pos 0 <ℤ k
rises k h t = omega (arith, ints)

pub falls : (k : ℤ) → unsigned_abs k ≤ 2 ^ 66 → lt_z (to_z w128 (of_z w128 k)) (pos 0) ≡ true → k <ℤ pos 0
falls k h t = omega (arith, ints)

pub if_none : {X P Q : Type 0} (r : Option X) → (P → Q) → IfNone r P → IfNone r Q
if_none None f h = f h
if_none (Some x) f h = h

-- the root of a rising value is at the turned value over the change
module _ (x k : ℤ) (rise : pos 0 <ℤ k) (i j : ℤ) (over : i ≡ pos 0 -ℤ x) (under : j ≡ k) where
  pub rising_none : (i <ℤ pos 0) ⊎ (j <ℤ i) → (n m : ℤ) → pos 0 <ℤ m → pos 0 ≤ℤ n → n ≤ℤ m → ¬ IsRootOf x (x +ℤ k) n m
  rising_none outside n m there least most = no_root x (x +ℤ k) n m i j (subst (λ (z : ℤ). pos 0 <ℤ z) (sym under) rise) (rising_root x k i j rise over under) outside there least most

-- that of a falling one is at the value over the turned change
module _ (x k : ℤ) (fall : k <ℤ pos 0) (i j : ℤ) (over : i ≡ x) (under : j ≡ pos 0 -ℤ k) where
  pub falling_found : (r : Frac) → IsShort r × (r.num ≡ i) × (r.den ≡ j) → IsShort r × IsRootOf x (x +ℤ k) r.num r.den
  falling_found r (short, num, den) = (short, falling_root x k r.num r.den fall (num ∙ over) (den ∙ under))

  pub falling_none : (i <ℤ pos 0) ⊎ (j <ℤ i) → (n m : ℤ) → pos 0 <ℤ m → pos 0 ≤ℤ n → n ≤ℤ m → ¬ IsRootOf x (x +ℤ k) n m
  falling_none outside n m there least most = no_root x (x +ℤ k) n m i j (subst (λ (z : ℤ). pos 0 <ℤ z) (sym under) (negation_positive k fall)) (falling_root x k i j fall over under) outside there least most
