-- Expressions of vectors for `ring`, and squares of vectors.
use Rattle.std.proofs.Common.{◌≡◌, ℕ, zero, suc, ◌<◌, ◌+◌, refl, arith, unsigned_abs}
use Rattle.std.specs.Prelude.{ℤ, pos, negsuc, ◌+ℤ◌, ◌<ℤ◌, ◌≤ℤ◌}
use Rattle.std.proofs.lemmas.Int.{ints}
use Rattle.integers.proofs.Ring.{Expr, var, ◌⊕◌, ◌⊖◌, ◌⊗◌}
use Rattle.integers.proofs.Signs.{square_nonneg, square_pos}
use Rattle.lattice.specs.Triple.{Triple, dot, IsZero}

-- a vector of expressions
pub record Letters : Type 0 where
  pub x : Expr
  pub y : Expr
  pub z : Expr

-- three neighbouring values of the list, from place n on
abbrev pub letters : ℕ → Letters
letters n = record { x = var n; y = var (suc n); z = var (suc (suc n)) }

abbrev pub dots : Letters → Letters → Expr
dots s t = ((s.x ⊗ t.x) ⊕ (s.y ⊗ t.y)) ⊕ (s.z ⊗ t.z)

abbrev pub crosses : Letters → Letters → Letters
crosses s t = record {
  x = (s.y ⊗ t.z) ⊖ (s.z ⊗ t.y);
  y = (s.z ⊗ t.x) ⊖ (s.x ⊗ t.z);
  z = (s.x ⊗ t.y) ⊖ (s.y ⊗ t.x);
}

-- the square of a vector that isn't 0 is positive
pub dot_itself : (s : Triple) → 0 < unsigned_abs s.x + unsigned_abs s.y + unsigned_abs s.z → pos 0 <ℤ dot s s
dot_itself s h =
    sum _ _ _ _ _ _ h (square_nonneg s.x) (square_nonneg s.y) (square_nonneg s.z) (square_pos s.x) (square_pos s.y) (square_pos s.z)
  where
    sum : (a b c : ℕ) (x y z : ℤ) → 0 < a + b + c → pos 0 ≤ℤ x → pos 0 ≤ℤ y → pos 0 ≤ℤ z → (0 < a → pos 0 <ℤ x) → (0 < b → pos 0 <ℤ y) → (0 < c → pos 0 <ℤ z) → pos 0 <ℤ ((x +ℤ y) +ℤ z)
    sum zero zero zero x y z h hx hy hz px py pz = absurd (omega arith)
    sum (suc a) b c x y z h hx hy hz px py pz = let p = px (omega arith) in omega (arith, ints)
    sum zero (suc b) c x y z h hx hy hz px py pz = let p = py (omega arith) in omega (arith, ints)
    sum zero zero (suc c) x y z h hx hy hz px py pz = let p = pz (omega arith) in omega (arith, ints)

pub dot_somewhere : (s : Triple) → ¬ IsZero s → pos 0 <ℤ dot s s
dot_somewhere s somewhere = dot_itself s (counts s.x s.y s.z (λ x y z. somewhere (record { x = x; y = y; z = z })))
  where
    counts : (x y z : ℤ) → (x ≡ pos 0 → y ≡ pos 0 → z ≡ pos 0 → ⊥) → 0 < unsigned_abs x + unsigned_abs y + unsigned_abs z
    counts (pos zero) (pos zero) (pos zero) h = absurd (h refl refl refl)
    counts (pos zero) (pos zero) (pos (suc z)) h = omega arith
    counts (pos zero) (pos zero) (negsuc z) h = omega arith
    counts (pos zero) (pos (suc y)) z h = omega arith
    counts (pos zero) (negsuc y) z h = omega arith
    counts (pos (suc x)) y z h = omega arith
    counts (negsuc x) y z h = omega arith
