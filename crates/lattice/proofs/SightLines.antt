-- Two points are on one line of sight exactly where their difference is a multiple of the direction.
use Rattle.std.proofs.Common.{◌≡◌, List, [], ◌∷◌, refl, ap, ◌∙◌, ◌<◌, ◌+◌, arith, unsigned_abs, Bool, true, false, zero, suc}
use Rattle.std.specs.Prelude.{ℤ, pos, negsuc, neg_ℤ, ◌+ℤ◌, ◌-ℤ◌, ◌*ℤ◌, ◌<ℤ◌, ◌↔◌, if◌then◌else◌, ◌&&◌}
use Rattle.std.specs.Ordering.{int_eq}
use Rattle.std.specs.Bool.{Decides}
use Rattle.std.specs.Cmp.{signed_Decides}
use Rattle.std.proofs.lemmas.Int.{ints}
use Rattle.integers.proofs.Comparisons.{times_zero}
use Rattle.integers.proofs.Ring.{Expr, var, con, ◌⊕◌, ◌⊖◌, ◌⊗◌, ring, by_two, by_three}
use Rattle.integers.proofs.Signs.{zero_of_mul}
use Rattle.lattice.specs.Triple.{Triple, dot, cross, right_axis, up_axis, IsZero}
use Rattle.lattice.specs.Points.{Point, scaled, OnOneSight, DifferAlong}
use Rattle.lattice.proofs.Vectors.{Letters, letters, dots, crosses, dot_itself}

-- ---- a vector with no part along an axis square to d, and none along d cross s, is along d, where s goes forward along the axis
abbrev values : Triple → Triple → Triple → Triple → List ℤ
values r e d s = r.x ∷ r.y ∷ r.z ∷ e.x ∷ e.y ∷ e.z ∷ d.x ∷ d.y ∷ d.z ∷ s.x ∷ s.y ∷ s.z ∷ []

abbrev R : Letters
R = letters 0

abbrev E : Letters
E = letters 3

abbrev D : Letters
D = letters 6

abbrev S : Letters
S = letters 9

-- one component of r (e . (d x s)) - (d x s) (r . e) - (s x e) (r . d), which is (r . s) (e x d)
abbrev parts : Expr → Expr → Expr → Expr
parts a b c =
    (((dots (crosses D S) E ⊖ con (pos 0)) ⊗ a) ⊕ ((dots R E ⊖ con (pos 0)) ⊗ (con (pos 0) ⊖ b))) ⊕ ((dots R D ⊖ con (pos 0)) ⊗ (con (pos 0) ⊖ c))

-- dot r s times a component of e cross d
abbrev products : Expr → Expr
products a = (dots R S ⊗ a) ⊖ con (pos 0)

module _ (r s e d : Triple) (forward : pos 0 <ℤ dot r s) (level : dot r d ≡ pos 0) (along : dot r e ≡ pos 0) (across : dot (cross d s) e ≡ pos 0) where
  pub alike : IsZero (cross e d)
  alike = record {
    x = zero_of_mul (dot r s) (cross e d).x forward (by_three (dot r s *ℤ (cross e d).x) (pos 0) (dot (cross d s) e) (pos 0) r.x (dot r e) (pos 0) (pos 0 -ℤ (cross d s).x) (dot r d) (pos 0) (pos 0 -ℤ (cross s e).x)
        (ring (values r e d s) (products (crosses E D).x) (parts R.x (crosses D S).x (crosses S E).x) refl) across along level);
    y = zero_of_mul (dot r s) (cross e d).y forward (by_three (dot r s *ℤ (cross e d).y) (pos 0) (dot (cross d s) e) (pos 0) r.y (dot r e) (pos 0) (pos 0 -ℤ (cross d s).y) (dot r d) (pos 0) (pos 0 -ℤ (cross s e).y)
        (ring (values r e d s) (products (crosses E D).y) (parts R.y (crosses D S).y (crosses S E).y) refl) across along level);
    z = zero_of_mul (dot r s) (cross e d).z forward (by_three (dot r s *ℤ (cross e d).z) (pos 0) (dot (cross d s) e) (pos 0) r.z (dot r e) (pos 0) (pos 0 -ℤ (cross d s).z) (dot r d) (pos 0) (pos 0 -ℤ (cross s e).z)
        (ring (values r e d s) (products (crosses E D).z) (parts R.z (crosses D S).z (crosses S E).z) refl) across along level);
  }

-- ---- the difference of two points, times both divisors
abbrev pub offset : Point → Point → Triple
offset p q = record { x = p.x *ℤ q.w -ℤ q.x *ℤ p.w; y = p.y *ℤ q.w -ℤ q.y *ℤ p.w; z = p.z *ℤ q.w -ℤ q.z *ℤ p.w }

abbrev pair : Triple → Point → Point → List ℤ
pair r p q = r.x ∷ r.y ∷ r.z ∷ p.x ∷ p.y ∷ p.z ∷ p.w ∷ q.x ∷ q.y ∷ q.z ∷ q.w ∷ []

abbrev offsets : Letters
offsets = record {
  x = (var 3 ⊗ var 10) ⊖ (var 7 ⊗ var 6);
  y = (var 4 ⊗ var 10) ⊖ (var 8 ⊗ var 6);
  z = (var 5 ⊗ var 10) ⊖ (var 9 ⊗ var 6);
}

-- two points agree in their product with r exactly where the offset has no part along r
dot_offset : (r : Triple) (p q : Point) → dot r (offset p q) ≡ dot r (scaled p) *ℤ q.w -ℤ dot r (scaled q) *ℤ p.w
dot_offset r p q = ring (pair r p q) (dots R offsets) ((dots R (letters 3) ⊗ var 10) ⊖ (dots R (letters 7) ⊗ var 6)) refl

pub nothing_along : (r : Triple) (p q : Point) → dot r (scaled p) *ℤ q.w ≡ dot r (scaled q) *ℤ p.w → dot r (offset p q) ≡ pos 0
nothing_along r p q h = zero_from _ _ _ (dot_offset r p q) h
  where
    zero_from : (x a b : ℤ) → x ≡ a -ℤ b → a ≡ b → x ≡ pos 0
    zero_from x a b e h = omega (arith, ints)

pub agree_along : (r : Triple) (p q : Point) → dot r (offset p q) ≡ pos 0 → dot r (scaled p) *ℤ q.w ≡ dot r (scaled q) *ℤ p.w
agree_along r p q h = equal_from _ _ _ (dot_offset r p q) h
  where
    equal_from : (x a b : ℤ) → x ≡ a -ℤ b → x ≡ pos 0 → a ≡ b
    equal_from x a b e h = omega (arith, ints)

-- ---- the axes of a direction
pub record IsRightAxis (d r : Triple) : Type 0 where
  pub square : pos 0 <ℤ dot r r
  pub level : dot r d ≡ pos 0

pub right_axis-is : (d : Triple) → IsRightAxis d (right_axis d)
right_axis-is d = go (int_eq d.x (pos 0)) (int_eq d.y (pos 0)) (signed_Decides d.x (pos 0)) (signed_Decides d.y (pos 0))
  where
    negated : (b : ℤ) → neg_ℤ b ≡ pos 0 -ℤ b
    negated b = omega (arith, ints)

    turned : (a b c : ℤ) → (neg_ℤ b *ℤ a +ℤ a *ℤ b) +ℤ pos 0 *ℤ c ≡ pos 0
    turned a b c =
        ap (λ (v : ℤ). (v *ℤ a +ℤ a *ℤ b) +ℤ pos 0 *ℤ c) (negated b)
        ∙ ring (a ∷ b ∷ c ∷ []) ((((con (pos 0) ⊖ var 1) ⊗ var 0) ⊕ (var 0 ⊗ var 1)) ⊕ (con (pos 0) ⊗ var 2)) (con (pos 0)) refl

    first_axis : (a b c : ℤ) → a ≡ pos 0 → (pos 1 *ℤ a +ℤ pos 0 *ℤ b) +ℤ pos 0 *ℤ c ≡ pos 0
    first_axis a b c h = omega (arith, ints)

    x_counts : (a b : ℤ) → (a ≡ pos 0 → ⊥) → 0 < unsigned_abs (neg_ℤ b) + unsigned_abs a + 0
    x_counts (pos zero) b h = absurd (h refl)
    x_counts (pos (suc n)) b h = omega arith
    x_counts (negsuc n) b h = omega arith

    y_counts : (a b : ℤ) → (b ≡ pos 0 → ⊥) → 0 < unsigned_abs (neg_ℤ b) + unsigned_abs a + 0
    y_counts a (pos zero) h = absurd (h refl)
    y_counts a (pos (suc n)) h = omega arith
    y_counts a (negsuc n) h = omega arith

    go : (s t : Bool) → Decides s (d.x ≡ pos 0) → Decides t (d.y ≡ pos 0) → IsRightAxis d (if s && t then record { x = pos 1; y = pos 0; z = pos 0 } else record { x = neg_ℤ d.y; y = d.x; z = pos 0 })
    go true true f g = record { square = omega (arith, ints); level = first_axis d.x d.y d.z (f.0 refl) }
    go true false f g = record { square = dot_itself (record { x = neg_ℤ d.y; y = d.x; z = pos 0 }) (y_counts d.x d.y (λ e. cc (g.1 e))); level = turned d.x d.y d.z }
    go false t f g = record { square = dot_itself (record { x = neg_ℤ d.y; y = d.x; z = pos 0 }) (x_counts d.x d.y (λ e. cc (f.1 e))); level = turned d.x d.y d.z }

-- the up axis is square to the direction
pub up_axis-level : (d r : Triple) → dot (cross d r) d ≡ pos 0
up_axis-level d r = ring (values r d d d) (dots (crosses E R) E) (con (pos 0)) refl

-- ---- multiples of a direction
-- d . d times e is d . e times d, where e cross d is 0: their difference is d x (e x d)
module _ (d e : Triple) (f : IsZero (cross e d)) where
  pub multiple_x : dot d d *ℤ e.x ≡ dot d e *ℤ d.x
  multiple_x = by_two (dot d d *ℤ e.x) (dot d e *ℤ d.x) (cross e d).z (pos 0) d.y (cross e d).y (pos 0) (pos 0 -ℤ d.z)
      (ring (values d e d d) ((dots D D ⊗ E.x) ⊖ (dots D E ⊗ D.x)) ((((crosses E D).z ⊖ con (pos 0)) ⊗ D.y) ⊕ (((crosses E D).y ⊖ con (pos 0)) ⊗ (con (pos 0) ⊖ D.z))) refl) f.z f.y

  pub multiple_y : dot d d *ℤ e.y ≡ dot d e *ℤ d.y
  multiple_y = by_two (dot d d *ℤ e.y) (dot d e *ℤ d.y) (cross e d).x (pos 0) d.z (cross e d).z (pos 0) (pos 0 -ℤ d.x)
      (ring (values d e d d) ((dots D D ⊗ E.y) ⊖ (dots D E ⊗ D.y)) ((((crosses E D).x ⊖ con (pos 0)) ⊗ D.z) ⊕ (((crosses E D).z ⊖ con (pos 0)) ⊗ (con (pos 0) ⊖ D.x))) refl) f.x f.z

  pub multiple_z : dot d d *ℤ e.z ≡ dot d e *ℤ d.z
  multiple_z = by_two (dot d d *ℤ e.z) (dot d e *ℤ d.z) (cross e d).y (pos 0) d.x (cross e d).x (pos 0) (pos 0 -ℤ d.y)
      (ring (values d e d d) ((dots D D ⊗ E.z) ⊖ (dots D E ⊗ D.z)) ((((crosses E D).y ⊖ con (pos 0)) ⊗ D.x) ⊕ (((crosses E D).x ⊖ con (pos 0)) ⊗ (con (pos 0) ⊖ D.y))) refl) f.y f.x

-- a multiple of d has no part along r where d has none
pub no_part : (r e d : Triple) (n m : ℤ) → pos 0 <ℤ m → m *ℤ e.x ≡ n *ℤ d.x → m *ℤ e.y ≡ n *ℤ d.y → m *ℤ e.z ≡ n *ℤ d.z → dot r d ≡ pos 0 → dot r e ≡ pos 0
no_part r e d n m positive x y z level =
    zero_of_mul m (dot r e) positive
    (by_three (m *ℤ dot r e) (n *ℤ dot r d) (m *ℤ e.x) (n *ℤ d.x) r.x (m *ℤ e.y) (n *ℤ d.y) r.y (m *ℤ e.z) (n *ℤ d.z) r.z
    (ring (r.x ∷ r.y ∷ r.z ∷ e.x ∷ e.y ∷ e.z ∷ d.x ∷ d.y ∷ d.z ∷ n ∷ m ∷ [])
    ((var 10 ⊗ dots R E) ⊖ (var 9 ⊗ dots R D))
    (((((var 10 ⊗ E.x) ⊖ (var 9 ⊗ D.x)) ⊗ R.x) ⊕ (((var 10 ⊗ E.y) ⊖ (var 9 ⊗ D.y)) ⊗ R.y)) ⊕ (((var 10 ⊗ E.z) ⊖ (var 9 ⊗ D.z)) ⊗ R.z)) refl) x y z
    ∙ ap (λ (a : ℤ). n *ℤ a) level ∙ times_zero n)

-- ---- both ways
module _ (d : Triple) (p q : Point) where
  pub along_of_sight : pos 0 <ℤ dot d d → OnOneSight d p q → DifferAlong d p q
  along_of_sight h s =
      let axis = right_axis-is d in
      let zero = alike (right_axis d) (right_axis d) (offset p q) d axis.square axis.level (nothing_along (right_axis d) p q s.across) (nothing_along (up_axis d) p q s.upward) in
      record {
        n = dot d (offset p q);
        m = dot d d;
        positive = h;
        x = multiple_x d (offset p q) zero;
        y = multiple_y d (offset p q) zero;
        z = multiple_z d (offset p q) zero;
      }

  pub sight_of_along : DifferAlong d p q → OnOneSight d p q
  sight_of_along a = record {
    across = agree_along (right_axis d) p q (no_part (right_axis d) (offset p q) d a.n a.m a.positive a.x a.y a.z (right_axis-is d).level);
    upward = agree_along (up_axis d) p q (no_part (up_axis d) (offset p q) d a.n a.m a.positive a.x a.y a.z (up_axis-level d (right_axis d)));
  }

  pub along_by_sight : {P : Type 0} → pos 0 <ℤ dot d d → P ↔ OnOneSight d p q → P ↔ DifferAlong d p q
  along_by_sight h f = (λ x. along_of_sight h (f.0 x), λ a. f.1 (sight_of_along a))
