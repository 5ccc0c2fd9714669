-- Squares of whole numbers, and their sizes.
use Rattle.std.proofs.Common.{◌≡◌, ◌↔◌, ◌⊎◌, inl, inr, ℕ, suc, ◌+◌, ◌*◌, ◌<◌, ◌≤◌, refl, sym, subst, arith, mul-le-mul, unsigned_abs}
use Rattle.std.specs.Prelude.{ℤ, pos, negsuc, ◌+ℤ◌, ◌-ℤ◌, ◌≤ℤ◌, Bool, IsTrue}
use Rattle.std.proofs.lemmas.Int.{ints}
use Rattle.lattice.specs.Points.{Point}
use Rattle.sheet_plan.specs.Sheets.{IsShownAt}
use Rattle.sheet_plan.specs.declared.sheet.Sheet.{Sheet}
use Rattle.sheet_plan.specs.declared.sheet.Spread.{Spread}
use Rattle.section_look.specs.Thin.{AreNear, squared, x_on}

pub square_of_size : (a : ℤ) → squared a ≡ pos (unsigned_abs a * unsigned_abs a)
square_of_size (pos n) = refl
square_of_size (negsuc n) = refl

at_most : (x y n : ℕ) → ((pos x +ℤ pos y) ≤ℤ pos n) ↔ (x + y ≤ n)
at_most x y n = ((λ h. omega (arith, ints, h)), (λ h. omega (arith, ints, h)))

-- by sizes
abbrev AreNearBy : ℤ → ℤ → ℕ → ℕ → Type 0
AreNearBy a b k l = ((squared a +ℤ squared b) ≤ℤ squared (pos 215)) ↔ (k * k + l * l ≤ 46225)

pub near_by_sizes : (a b : ℤ) (m n : ℕ) → m ≡ unsigned_abs a → n ≡ unsigned_abs b → AreNearBy a b m n
near_by_sizes a b m n e f = subst (λ (k : ℕ). AreNearBy a b k n) (sym e) (subst (λ (k : ℕ). AreNearBy a b (unsigned_abs a) k) (sym f) by)
  where
    by : AreNearBy a b (unsigned_abs a) (unsigned_abs b)
    by = subst (λ (z : ℤ). ((z +ℤ squared b) ≤ℤ squared (pos 215)) ↔ (unsigned_abs a * unsigned_abs a + unsigned_abs b * unsigned_abs b ≤ 46225)) (sym (square_of_size a))
        (subst (λ (z : ℤ). ((pos (unsigned_abs a * unsigned_abs a) +ℤ z) ≤ℤ squared (pos 215)) ↔ (unsigned_abs a * unsigned_abs a + unsigned_abs b * unsigned_abs b ≤ 46225)) (sym (square_of_size b))
        (at_most (unsigned_abs a * unsigned_abs a) (unsigned_abs b * unsigned_abs b) 46225))

-- with a size above 215 they are not near
pub far_by_size : (a b : ℤ) (m n : ℕ) → m ≡ unsigned_abs a → n ≡ unsigned_abs b → (215 < m) ⊎ (215 < n) → ¬ ((squared a +ℤ squared b) ≤ℤ squared (pos 215))
far_by_size a b m n e f far near = by far ((near_by_sizes a b m n e f).0 near)
  where
    large : (k : ℕ) → 215 < k → 46225 < k * k
    large k h = let p : 216 * 216 ≤ k * k = mul-le-mul (let q : 216 ≤ k = omega arith in q) (let q : 216 ≤ k = omega arith in q) in omega (arith, p)

    by : (215 < m) ⊎ (215 < n) → m * m + n * n ≤ 46225 → ⊥
    by (inl h) k = let l = large m h in omega (arith, l, k)
    by (inr h) k = let l = large n h in omega (arith, l, k)

-- the distance of two points of the sheet, by where a view shows them
pub near_on : (sheet : Sheet) (place : Spread) (p q : Point) (x1 y1 x2 y2 : ℤ) → IsShownAt sheet place p x1 y1 → IsShownAt sheet place q x2 y2
    → (b : Bool) → IsTrue b ↔ ((squared (x2 -ℤ x1) +ℤ squared (y2 -ℤ y1)) ≤ℤ squared (pos 215)) → IsTrue b ↔ AreNear sheet place p q
near_on sheet place p q x1 y1 x2 y2 at_p at_q b told =
    subst (λ (z : ℤ). IsTrue b ↔ ((squared (x_on sheet place q -ℤ x_on sheet place p) +ℤ squared z) ≤ℤ squared (pos 215))) (λ i. at_q.down i -ℤ at_p.down i)
    (subst (λ (z : ℤ). IsTrue b ↔ ((squared z +ℤ squared (y2 -ℤ y1)) ≤ℤ squared (pos 215))) (λ i. at_q.right i -ℤ at_p.right i) told)
