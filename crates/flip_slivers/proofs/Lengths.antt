-- Lengths of vectors by their squares: of a multiple and of a sum.
use Rattle.std.proofs.Common.{◌≡◌, [], ◌∷◌, refl, ap, ◌∙◌, arith}
use Rattle.std.specs.Prelude.{ℤ, pos, ◌+ℤ◌, ◌-ℤ◌, ◌*ℤ◌, ◌≤ℤ◌, ◌<ℤ◌}
use Rattle.std.proofs.lemmas.Int.{ints, by_lt_z}
use Rattle.integers.proofs.Comparisons.{at_most_by, gap_of_at_most}
use Rattle.integers.proofs.Ring.{var, con, ◌⊕◌, ◌⊖◌, ◌⊗◌, ring, gap_of_less}
use Rattle.integers.proofs.Signs.{mul_pos, mul_nonneg, square_nonneg}
use Rattle.lattice.specs.Triple.{Triple, dot, cross}
use Rattle.lattice.proofs.Vectors.{Letters, letters, dots, crosses}
use Rattle.flip_slivers.specs.Near.{square}

abbrev pub plus : Triple → Triple → Triple
plus s t = record { x = s.x +ℤ t.x; y = s.y +ℤ t.y; z = s.z +ℤ t.z }

abbrev pub times : ℤ → Triple → Triple
times k s = record { x = k *ℤ s.x; y = k *ℤ s.y; z = k *ℤ s.z }

-- ---- orders of products and of squares
pub product_order : (k a b : ℤ) → pos 0 ≤ℤ k → a ≤ℤ b → (k *ℤ a) ≤ℤ (k *ℤ b)
product_order k a b hk h =
    at_most_by (k *ℤ a) (k *ℤ b) (k *ℤ (b -ℤ a)) (ring (k ∷ a ∷ b ∷ []) ((var 0 ⊗ var 2) ⊖ (var 0 ⊗ var 1)) (var 0 ⊗ (var 2 ⊖ var 1)) refl)
    (mul_nonneg k (b -ℤ a) hk (gap_of_at_most a b h))

pub products_order : (a b c d : ℤ) → pos 0 ≤ℤ a → a ≤ℤ b → pos 0 ≤ℤ d → c ≤ℤ d → (a *ℤ c) ≤ℤ (b *ℤ d)
products_order a b c d ha hab hd hcd =
    at_most_by (a *ℤ c) (b *ℤ d) ((d *ℤ (b -ℤ a)) +ℤ (a *ℤ (d -ℤ c)))
    (ring (a ∷ b ∷ c ∷ d ∷ []) ((var 1 ⊗ var 3) ⊖ (var 0 ⊗ var 2)) ((var 3 ⊗ (var 1 ⊖ var 0)) ⊕ (var 0 ⊗ (var 3 ⊖ var 2))) refl)
    (sum _ _ (mul_nonneg d (b -ℤ a) hd (gap_of_at_most a b hab)) (mul_nonneg a (d -ℤ c) ha (gap_of_at_most c d hcd)))
  where
    sum : (x y : ℤ) → pos 0 ≤ℤ x → pos 0 ≤ℤ y → pos 0 ≤ℤ (x +ℤ y)
    sum x y h k = omega (arith, ints)

pub squares_order : (a b : ℤ) → pos 0 ≤ℤ a → a ≤ℤ b → (a *ℤ a) ≤ℤ (b *ℤ b)
squares_order a b ha h = products_order a b a b ha h (through a b ha h) h
  where
    through : (a b : ℤ) → pos 0 ≤ℤ a → a ≤ℤ b → pos 0 ≤ℤ b
    through a b ha h = omega (arith, ints)

pub order_of_squares : (a b : ℤ) → pos 0 ≤ℤ b → (a *ℤ a) ≤ℤ (b *ℤ b) → a ≤ℤ b
order_of_squares a b hb h = by_lt_z b a (λ less. absurd (apart (a *ℤ a) (b *ℤ b) ((a -ℤ b) *ℤ (a +ℤ b)) (gap a b) (mul_pos (a -ℤ b) (a +ℤ b) (gap_of_less b a less) (sum a b hb less)) h)) (λ most. most)
  where
    apart : (x y z : ℤ) → x -ℤ y ≡ z → pos 0 <ℤ z → x ≤ℤ y → ⊥
    apart x y z e h k = omega (arith, ints)

    gap : (a b : ℤ) → (a *ℤ a) -ℤ (b *ℤ b) ≡ (a -ℤ b) *ℤ (a +ℤ b)
    gap a b = ring (a ∷ b ∷ []) ((var 0 ⊗ var 0) ⊖ (var 1 ⊗ var 1)) ((var 0 ⊖ var 1) ⊗ (var 0 ⊕ var 1)) refl

    sum : (a b : ℤ) → pos 0 ≤ℤ b → b <ℤ a → pos 0 <ℤ (a +ℤ b)
    sum a b h k = omega (arith, ints)

-- ---- squares of vectors
pub square_not_negative : (s : Triple) → pos 0 ≤ℤ square s
square_not_negative s = sum _ _ _ (square_nonneg s.x) (square_nonneg s.y) (square_nonneg s.z)
  where
    sum : (x y z : ℤ) → pos 0 ≤ℤ x → pos 0 ≤ℤ y → pos 0 ≤ℤ z → pos 0 ≤ℤ ((x +ℤ y) +ℤ z)
    sum x y z h k l = omega (arith, ints)

pub square-times : (k : ℤ) (s : Triple) → square (times k s) ≡ (k *ℤ k) *ℤ square s
square-times k s =
    let on = letters 1 in
    let more : Letters = record { x = var 0 ⊗ var 1; y = var 0 ⊗ var 2; z = var 0 ⊗ var 3 } in
    ring (k ∷ s.x ∷ s.y ∷ s.z ∷ []) (dots more more) ((var 0 ⊗ var 0) ⊗ dots on on) refl

pub square-plus : (s t : Triple) → square (plus s t) ≡ (square s +ℤ square t) +ℤ (pos 2 *ℤ dot s t)
square-plus s t =
    let on = letters 0 in
    let to = letters 3 in
    let both : Letters = record { x = var 0 ⊕ var 3; y = var 1 ⊕ var 4; z = var 2 ⊕ var 5 } in
    ring (s.x ∷ s.y ∷ s.z ∷ t.x ∷ t.y ∷ t.z ∷ []) (dots both both) ((dots on on ⊕ dots to to) ⊕ (con (pos 2) ⊗ dots on to)) refl

-- Lagrange's identity
pub square-cross : (s t : Triple) → (square s *ℤ square t) -ℤ (dot s t *ℤ dot s t) ≡ square (cross s t)
square-cross s t =
    let on = letters 0 in
    let to = letters 3 in
    let over = crosses on to in
    ring (s.x ∷ s.y ∷ s.z ∷ t.x ∷ t.y ∷ t.z ∷ []) ((dots on on ⊗ dots to to) ⊖ (dots on to ⊗ dots on to)) (dots over over) refl

-- ---- the length of a vector, times the root of k, is at most a
abbrev pub IsNoLonger : ℤ → Triple → ℤ → Type 0
IsNoLonger k s a = (k *ℤ square s) ≤ℤ (a *ℤ a)

module _ (k : ℤ) (some : pos 0 ≤ℤ k) where
  -- by Cauchy and Schwarz
  product_within : (s t : Triple) (a b : ℤ) → pos 0 ≤ℤ a → pos 0 ≤ℤ b → IsNoLonger k s a → IsNoLonger k t b → (k *ℤ dot s t) ≤ℤ (a *ℤ b)
  product_within s t a b ha hb hs ht =
      order_of_squares (k *ℤ dot s t) (a *ℤ b) (mul_nonneg a b ha hb)
      (chain _ _ _ _ (at_most_by _ _ _ (gap k (dot s t) (square s) (square t) _ (square-cross s t)) (mul_nonneg _ _ (square_nonneg k) (square_not_negative (cross s t))))
      (products_order (k *ℤ square s) (a *ℤ a) (k *ℤ square t) (b *ℤ b) (mul_nonneg k _ some (square_not_negative s)) hs (square_nonneg b) ht)
      (turn a b))
    where
      chain : (x y z w : ℤ) → x ≤ℤ y → y ≤ℤ z → z ≡ w → x ≤ℤ w
      chain x y z w h k e = omega (arith, ints)

      gap : (k m p q r : ℤ) → (p *ℤ q) -ℤ (m *ℤ m) ≡ r → ((k *ℤ p) *ℤ (k *ℤ q)) -ℤ ((k *ℤ m) *ℤ (k *ℤ m)) ≡ (k *ℤ k) *ℤ r
      gap k m p q r e =
          ring (k ∷ m ∷ p ∷ q ∷ []) (((var 0 ⊗ var 2) ⊗ (var 0 ⊗ var 3)) ⊖ ((var 0 ⊗ var 1) ⊗ (var 0 ⊗ var 1))) ((var 0 ⊗ var 0) ⊗ ((var 2 ⊗ var 3) ⊖ (var 1 ⊗ var 1))) refl
          ∙ ap (λ v. (k *ℤ k) *ℤ v) e

      turn : (a b : ℤ) → (a *ℤ a) *ℤ (b *ℤ b) ≡ (a *ℤ b) *ℤ (a *ℤ b)
      turn a b = ring (a ∷ b ∷ []) ((var 0 ⊗ var 0) ⊗ (var 1 ⊗ var 1)) ((var 0 ⊗ var 1) ⊗ (var 0 ⊗ var 1)) refl

  -- so a sum is no longer than the lengths together
  pub no_longer-plus : (s t : Triple) (a b : ℤ) → pos 0 ≤ℤ a → pos 0 ≤ℤ b → IsNoLonger k s a → IsNoLonger k t b → IsNoLonger k (plus s t) (a +ℤ b)
  no_longer-plus s t a b ha hb hs ht =
      add (k *ℤ square s) (k *ℤ square t) (k *ℤ dot s t) (a *ℤ a) (b *ℤ b) (a *ℤ b) _ _ (ap (λ v. k *ℤ v) (square-plus s t) ∙ spread k (square s) (square t) (dot s t)) (whole a b) hs ht
      (product_within s t a b ha hb hs ht)
    where
      spread : (k p q m : ℤ) → k *ℤ ((p +ℤ q) +ℤ (pos 2 *ℤ m)) ≡ ((k *ℤ p) +ℤ (k *ℤ q)) +ℤ (pos 2 *ℤ (k *ℤ m))
      spread k p q m =
          ring (k ∷ p ∷ q ∷ m ∷ []) (var 0 ⊗ ((var 1 ⊕ var 2) ⊕ (con (pos 2) ⊗ var 3))) (((var 0 ⊗ var 1) ⊕ (var 0 ⊗ var 2)) ⊕ (con (pos 2) ⊗ (var 0 ⊗ var 3))) refl

      whole : (a b : ℤ) → (a +ℤ b) *ℤ (a +ℤ b) ≡ ((a *ℤ a) +ℤ (b *ℤ b)) +ℤ (pos 2 *ℤ (a *ℤ b))
      whole a b = ring (a ∷ b ∷ []) ((var 0 ⊕ var 1) ⊗ (var 0 ⊕ var 1)) (((var 0 ⊗ var 0) ⊕ (var 1 ⊗ var 1)) ⊕ (con (pos 2) ⊗ (var 0 ⊗ var 1))) refl

      add : (p q m a b c x y : ℤ) → x ≡ (p +ℤ q) +ℤ (pos 2 *ℤ m) → y ≡ (a +ℤ b) +ℤ (pos 2 *ℤ c) → p ≤ℤ a → q ≤ℤ b → m ≤ℤ c → x ≤ℤ y
      add p q m a b c x y e f h k l = omega (arith, ints)

  -- a multiple
  pub no_longer-times : (c : ℤ) (s : Triple) (a : ℤ) → IsNoLonger k s a → IsNoLonger k (times c s) (c *ℤ a)
  no_longer-times c s a h =
      same _ _ _ _ (ap (λ v. k *ℤ v) (square-times c s) ∙ turn k c (square s)) (turn_square c a) (product_order (c *ℤ c) (k *ℤ square s) (a *ℤ a) (square_nonneg c) h)
    where
      same : (x y z w : ℤ) → x ≡ y → z ≡ w → y ≤ℤ w → x ≤ℤ z
      same x y z w e f h = omega (arith, ints)

      turn : (k c p : ℤ) → k *ℤ ((c *ℤ c) *ℤ p) ≡ (c *ℤ c) *ℤ (k *ℤ p)
      turn k c p = ring (k ∷ c ∷ p ∷ []) (var 0 ⊗ ((var 1 ⊗ var 1) ⊗ var 2)) ((var 1 ⊗ var 1) ⊗ (var 0 ⊗ var 2)) refl

      turn_square : (c a : ℤ) → (c *ℤ a) *ℤ (c *ℤ a) ≡ (c *ℤ c) *ℤ (a *ℤ a)
      turn_square c a = ring (c ∷ a ∷ []) ((var 0 ⊗ var 1) ⊗ (var 0 ⊗ var 1)) ((var 0 ⊗ var 0) ⊗ (var 1 ⊗ var 1)) refl
