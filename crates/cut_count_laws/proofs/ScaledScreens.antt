-- Corners and points of sides in one larger scale: which sides cross, which places are clear and which corners are on a side does not change.
use Rattle.std.proofs.Common.{◌≡◌, ◌⊎◌, ℕ, inl, inr, List, [], ◌∷◌, refl, sym, ap, ◌∙◌, arith}
use Rattle.std.specs.Prelude.{◌↔◌, ℤ, pos, ◌+ℤ◌, ◌-ℤ◌, ◌*ℤ◌, ◌≤ℤ◌, ◌<ℤ◌}
use Rattle.std.proofs.lemmas.Int.{ints, by_lt_z}
use Rattle.integers.proofs.Comparisons.{positive_at, not_negative_at}
use Rattle.integers.proofs.Ring.{Expr, var, con, ◌⊕◌, ◌⊖◌, ◌⊗◌, ring, less_by, gap_of_less}
use Rattle.integers.proofs.Signs.{mul_pos, mul_nonpos, pos_of_mul, nonneg_of_mul, mul_nonneg, zero_of_mul}
use Rattle.hiding_laws.proofs.Screens.{Screen, area_of, turn_of}
use Rattle.hiding_laws.proofs.Places.{place_of}
use Rattle.hiding_laws.proofs.Shares.{numerator_of, denominator_of, depth_of, Crosses, IsClearOf}
use Rattle.hiding_laws.proofs.ScreenLetters.{ScreenPoint, area, turn}
use Rattle.hiding_laws.proofs.EdgeScreenLetters.{P, Q, A, B, M, One, numerator, denominator, at}
use Rattle.hiding_laws.proofs.Signs.{weak, clash}
use Rattle.hiding_laws.proofs.Sides.{denominator-reverse}
use Rattle.cut_count_laws.proofs.Rests.{grown}

-- the point of the side from a to b with j of t of the way's weights, in that scale
abbrev pub part : ℤ → ℤ → Screen → Screen → Screen
part t j a b = record {
  u = ((t -ℤ j) *ℤ a.u) +ℤ (j *ℤ b.u);
  v = ((t -ℤ j) *ℤ a.v) +ℤ (j *ℤ b.v);
  h = ((t -ℤ j) *ℤ a.h) +ℤ (j *ℤ b.h);
  w = pos 1;
}

abbrev pub grown_e : Expr → ScreenPoint → ScreenPoint
grown_e t a = record { u = t ⊗ a.u; v = t ⊗ a.v; h = t ⊗ a.h; w = One }

abbrev pub part_e : Expr → Expr → ScreenPoint → ScreenPoint → ScreenPoint
part_e t j a b = record {
  u = ((t ⊖ j) ⊗ a.u) ⊕ (j ⊗ b.u);
  v = ((t ⊖ j) ⊗ a.v) ⊕ (j ⊗ b.v);
  h = ((t ⊖ j) ⊗ a.h) ⊕ (j ⊗ b.h);
  w = One;
}

-- the side's own ends
pub first_end : (t : ℤ) (a b : Screen) → grown t a ≡ part t (pos 0) a b
first_end t a b = λ r. record { u = one a.u b.u r; v = one a.v b.v r; h = one a.h b.h r; w = pos 1 }
  where
    one : (x y : ℤ) → t *ℤ x ≡ ((t -ℤ pos 0) *ℤ x) +ℤ (pos 0 *ℤ y)
    one x y = ring (t ∷ x ∷ y ∷ []) (var 0 ⊗ var 1) (((var 0 ⊖ con (pos 0)) ⊗ var 1) ⊕ (con (pos 0) ⊗ var 2)) refl

pub second_end : (t : ℤ) (a b : Screen) → grown t b ≡ part t t a b
second_end t a b = λ r. record { u = one a.u b.u r; v = one a.v b.v r; h = one a.h b.h r; w = pos 1 }
  where
    one : (x y : ℤ) → t *ℤ y ≡ ((t -ℤ t) *ℤ x) +ℤ (t *ℤ y)
    one x y = ring (t ∷ x ∷ y ∷ []) (var 0 ⊗ var 2) (((var 0 ⊖ var 0) ⊗ var 1) ⊕ (var 0 ⊗ var 2)) refl

-- ---- crossings
module _ (p q a b p' q' a' b' : Screen) (k l : ℤ) (k_pos : pos 0 <ℤ k) (l_pos : pos 0 <ℤ l)
    (d : denominator_of p' q' a' b' ≡ k *ℤ denominator_of p q a b) (r : numerator_of p' a' b' ≡ k *ℤ numerator_of p a b)
    (h : depth_of p' q' a' b' ≡ l *ℤ depth_of p q a b) (n m n' m' : ℤ) where
  abbrev K : ℤ
  K = denominator_of p q a b

  abbrev R : ℤ
  R = numerator_of p a b

  abbrev H : ℤ
  H = depth_of p q a b

  square : pos 0 <ℤ (k *ℤ k)
  square = mul_pos k k k_pos k_pos

  afters : ((numerator_of p' a' b' *ℤ denominator_of p' q' a' b') *ℤ m) -ℤ (n *ℤ (denominator_of p' q' a' b' *ℤ denominator_of p' q' a' b'))
      ≡ (k *ℤ k) *ℤ (((R *ℤ K) *ℤ m) -ℤ (n *ℤ (K *ℤ K)))
  afters = (λ t. ((r t *ℤ d t) *ℤ m) -ℤ (n *ℤ (d t *ℤ d t)))
      ∙ ring (k ∷ R ∷ K ∷ n ∷ m ∷ []) ((((var 0 ⊗ var 1) ⊗ (var 0 ⊗ var 2)) ⊗ var 4) ⊖ (var 3 ⊗ ((var 0 ⊗ var 2) ⊗ (var 0 ⊗ var 2))))
      ((var 0 ⊗ var 0) ⊗ (((var 1 ⊗ var 2) ⊗ var 4) ⊖ (var 3 ⊗ (var 2 ⊗ var 2)))) refl

  befores : (n' *ℤ (denominator_of p' q' a' b' *ℤ denominator_of p' q' a' b')) -ℤ ((numerator_of p' a' b' *ℤ denominator_of p' q' a' b') *ℤ m')
      ≡ (k *ℤ k) *ℤ ((n' *ℤ (K *ℤ K)) -ℤ ((R *ℤ K) *ℤ m'))
  befores = (λ t. (n' *ℤ (d t *ℤ d t)) -ℤ ((r t *ℤ d t) *ℤ m'))
      ∙ ring (k ∷ R ∷ K ∷ n' ∷ m' ∷ []) ((var 3 ⊗ ((var 0 ⊗ var 2) ⊗ (var 0 ⊗ var 2))) ⊖ (((var 0 ⊗ var 1) ⊗ (var 0 ⊗ var 2)) ⊗ var 4))
      ((var 0 ⊗ var 0) ⊗ ((var 3 ⊗ (var 2 ⊗ var 2)) ⊖ ((var 1 ⊗ var 2) ⊗ var 4))) refl

  nearers : depth_of p' q' a' b' *ℤ denominator_of p' q' a' b' ≡ (l *ℤ k) *ℤ (H *ℤ K)
  nearers = (λ t. h t *ℤ d t) ∙ ring (k ∷ l ∷ H ∷ K ∷ []) ((var 1 ⊗ var 2) ⊗ (var 0 ⊗ var 3)) ((var 1 ⊗ var 0) ⊗ (var 2 ⊗ var 3)) refl

  pub scaled_crosses : Crosses p q a b n m n' m' ↔ Crosses p' q' a' b' n m n' m'
  scaled_crosses = (
    (λ x. record {
      after = less_by _ _ _ afters (mul_pos _ _ square (gap_of_less _ _ x.after));
      before = less_by _ _ _ befores (mul_pos _ _ square (gap_of_less _ _ x.before));
      nearer = positive_at _ _ nearers (mul_pos _ _ (mul_pos l k l_pos k_pos) x.nearer);
    }),
    (λ x. record {
      after = less_by _ _ _ refl (pos_of_mul _ _ square (positive_at _ _ (sym afters) (gap_of_less _ _ x.after)));
      before = less_by _ _ _ refl (pos_of_mul _ _ square (positive_at _ _ (sym befores) (gap_of_less _ _ x.before)));
      nearer = pos_of_mul _ _ (mul_pos l k l_pos k_pos) (positive_at _ _ (sym nearers) x.nearer);
    }),
  )

abbrev T : Expr
T = var 15

abbrev J : Expr
J = var 16

abbrev I : Expr
I = var 17

abbrev lines : Screen → Screen → Screen → Screen → ℤ → ℤ → ℤ → List ℤ
lines p q a b t j i = p.u ∷ p.v ∷ q.u ∷ q.v ∷ a.u ∷ a.v ∷ b.u ∷ b.v ∷ pos 0 ∷ pos 0 ∷ p.h ∷ q.h ∷ a.h ∷ b.h ∷ pos 0 ∷ t ∷ j ∷ i ∷ []

-- the determinant of three ways
abbrev pub box : ℤ → ℤ → ℤ → ℤ → ℤ → ℤ → ℤ → ℤ → ℤ → ℤ
box du dv dh eu ev eh fu fv fh = ((((dv *ℤ eh) -ℤ (dh *ℤ ev)) *ℤ fu) +ℤ (((dh *ℤ eu) -ℤ (du *ℤ eh)) *ℤ fv)) +ℤ (((du *ℤ ev) -ℤ (dv *ℤ eu)) *ℤ fh)

boxes : (t j s du dv dh eu ev eh fu fv fh : ℤ)
    → box (t *ℤ du) (t *ℤ dv) (t *ℤ dh) (s *ℤ eu) (s *ℤ ev) (s *ℤ eh) ((t *ℤ fu) +ℤ (j *ℤ eu)) ((t *ℤ fv) +ℤ (j *ℤ ev)) ((t *ℤ fh) +ℤ (j *ℤ eh))
    ≡ (t *ℤ (t *ℤ s)) *ℤ box du dv dh eu ev eh fu fv fh
boxes t j s du dv dh eu ev eh fu fv fh =
    let e = λ (k : ℕ). var 2 ⊗ var k in
    let d = λ (k : ℕ). var 0 ⊗ var k in
    let f = λ (k l : ℕ). (var 0 ⊗ var k) ⊕ (var 1 ⊗ var l) in
    ring (t ∷ j ∷ s ∷ du ∷ dv ∷ dh ∷ eu ∷ ev ∷ eh ∷ fu ∷ fv ∷ fh ∷ [])
    (((((d 4 ⊗ e 8) ⊖ (d 5 ⊗ e 7)) ⊗ f 9 6) ⊕ (((d 5 ⊗ e 6) ⊖ (d 3 ⊗ e 8)) ⊗ f 10 7)) ⊕ (((d 3 ⊗ e 7) ⊖ (d 4 ⊗ e 6)) ⊗ f 11 8))
    ((var 0 ⊗ (var 0 ⊗ var 2)) ⊗ (((((var 4 ⊗ var 8) ⊖ (var 5 ⊗ var 7)) ⊗ var 9) ⊕ (((var 5 ⊗ var 6) ⊖ (var 3 ⊗ var 8)) ⊗ var 10)) ⊕ (((var 3 ⊗ var 7) ⊖ (var 4 ⊗ var 6)) ⊗ var 11))) refl

-- two points of one line cross where the line does
denominator_part : (p q a b : Screen) (t j i : ℤ) → denominator_of (grown t p) (grown t q) (part t j a b) (part t i a b) ≡ (t *ℤ (i -ℤ j)) *ℤ denominator_of p q a b
denominator_part p q a b t j i = ring (lines p q a b t j i) (denominator (grown_e T P) (grown_e T Q) (part_e T J A B) (part_e T I A B)) ((T ⊗ (I ⊖ J)) ⊗ denominator P Q A B) refl

module _ (p q a b : Screen) (t j i : ℤ) (t_pos : pos 0 <ℤ t) (on : pos 0 <ℤ (i -ℤ j)) where
  numerator_part : numerator_of (grown t p) (part t j a b) (part t i a b) ≡ (t *ℤ (i -ℤ j)) *ℤ numerator_of p a b
  numerator_part = ring (lines p q a b t j i) (numerator (grown_e T P) (part_e T J A B) (part_e T I A B)) ((T ⊗ (I ⊖ J)) ⊗ numerator P A B) refl

  depth_part : depth_of (grown t p) (grown t q) (part t j a b) (part t i a b) ≡ (t *ℤ (t *ℤ (i -ℤ j))) *ℤ depth_of p q a b
  depth_part =
      (λ r. box (scales p.u q.u r) (scales p.v q.v r) (scales p.h q.h r) (climbs a.u b.u r) (climbs a.v b.v r) (climbs a.h b.h r) (leads p.u a.u b.u r) (leads p.v a.v b.v r) (leads p.h a.h b.h r))
      ∙ boxes t j (i -ℤ j) (q.u -ℤ p.u) (q.v -ℤ p.v) (q.h -ℤ p.h) (b.u -ℤ a.u) (b.v -ℤ a.v) (b.h -ℤ a.h) (a.u -ℤ p.u) (a.v -ℤ p.v) (a.h -ℤ p.h)
    where
      scales : (x y : ℤ) → (t *ℤ y) -ℤ (t *ℤ x) ≡ t *ℤ (y -ℤ x)
      scales x y = ring (t ∷ x ∷ y ∷ []) ((var 0 ⊗ var 2) ⊖ (var 0 ⊗ var 1)) (var 0 ⊗ (var 2 ⊖ var 1)) refl

      climbs : (x y : ℤ) → (((t -ℤ i) *ℤ x) +ℤ (i *ℤ y)) -ℤ (((t -ℤ j) *ℤ x) +ℤ (j *ℤ y)) ≡ (i -ℤ j) *ℤ (y -ℤ x)
      climbs x y = ring (t ∷ i ∷ j ∷ x ∷ y ∷ []) ((((var 0 ⊖ var 1) ⊗ var 3) ⊕ (var 1 ⊗ var 4)) ⊖ (((var 0 ⊖ var 2) ⊗ var 3) ⊕ (var 2 ⊗ var 4))) ((var 1 ⊖ var 2) ⊗ (var 4 ⊖ var 3)) refl

      leads : (x y z : ℤ) → (((t -ℤ j) *ℤ y) +ℤ (j *ℤ z)) -ℤ (t *ℤ x) ≡ (t *ℤ (y -ℤ x)) +ℤ (j *ℤ (z -ℤ y))
      leads x y z = ring (t ∷ j ∷ x ∷ y ∷ z ∷ []) ((((var 0 ⊖ var 1) ⊗ var 3) ⊕ (var 1 ⊗ var 4)) ⊖ (var 0 ⊗ var 2)) ((var 0 ⊗ (var 3 ⊖ var 2)) ⊕ (var 1 ⊗ (var 4 ⊖ var 3))) refl

  pub crosses_part : (n m n' m' : ℤ) → Crosses p q a b n m n' m' ↔ Crosses (grown t p) (grown t q) (part t j a b) (part t i a b) n m n' m'
  crosses_part = scaled_crosses p q a b (grown t p) (grown t q) (part t j a b) (part t i a b) (t *ℤ (i -ℤ j)) (t *ℤ (t *ℤ (i -ℤ j)))
      (mul_pos _ _ t_pos on) (mul_pos _ _ t_pos (mul_pos _ _ t_pos on)) (denominator_part p q a b t j i) numerator_part depth_part

-- ---- sides of the edge's line
pub area_part : (p q a b : Screen) (t j : ℤ) → area_of (grown t p) (grown t q) (part t j a b) ≡ t *ℤ (((t -ℤ j) *ℤ area_of p q a) +ℤ (j *ℤ area_of p q b))
area_part p q a b t j = ring (lines p q a b t j (pos 0)) (area (grown_e T P) (grown_e T Q) (part_e T J A B)) (T ⊗ (((T ⊖ J) ⊗ area P Q A) ⊕ (J ⊗ area P Q B))) refl

pub area_grown : (p q a : Screen) (t : ℤ) → area_of (grown t p) (grown t q) (grown t a) ≡ (t *ℤ t) *ℤ area_of p q a
area_grown p q a t = ring (lines p q a a t (pos 0) (pos 0)) (area (grown_e T P) (grown_e T Q) (grown_e T A)) ((T ⊗ T) ⊗ area P Q A) refl

-- ---- clear places
abbrev at_e : ScreenPoint → ScreenPoint → ScreenPoint
at_e x y = record { u = at x.u y.u; v = at x.v y.v; h = One; w = M }

turn_part : (p q a b : Screen) (n m t j : ℤ) → turn_of (place_of (grown t p) (grown t q) n m) (grown t a) (part t j a b) ≡ (t *ℤ j) *ℤ turn_of (place_of p q n m) a b
turn_part p q a b n m t j = ring (p.u ∷ p.v ∷ q.u ∷ q.v ∷ a.u ∷ a.v ∷ b.u ∷ b.v ∷ pos 0 ∷ pos 0 ∷ n ∷ m ∷ pos 0 ∷ pos 0 ∷ pos 0 ∷ t ∷ j ∷ [])
    (turn (at_e (grown_e T P) (grown_e T Q)) (grown_e T A) (part_e T J A B)) ((T ⊗ J) ⊗ turn (at_e P Q) A B) refl

turn_back : (s a b : Screen) → turn_of s b a ≡ pos 0 -ℤ turn_of s a b
turn_back s a b = ring (s.u ∷ s.v ∷ s.w ∷ pos 0 ∷ a.u ∷ a.v ∷ b.u ∷ b.v ∷ [])
    (at (var 6) (var 7) (var 4) (var 5)) (con (pos 0) ⊖ at (var 4) (var 5) (var 6) (var 7)) refl
  where
    at : Expr → Expr → Expr → Expr → Expr
    at bu bv cu cv = ((var 0 ⊗ (bv ⊖ cv)) ⊖ (var 1 ⊗ (bu ⊖ cu))) ⊕ (var 2 ⊗ ((bu ⊗ cv) ⊖ (cu ⊗ bv)))

zero_back : (x y : ℤ) → x ≡ pos 0 -ℤ y → x ≡ pos 0 → y ≡ pos 0
zero_back x y e h = omega (arith, ints)

less_nothing : (x y : ℤ) → x ≡ pos 0 -ℤ y → y ≡ pos 0 → x ≡ pos 0
less_nothing x y e h = omega (arith, ints)

exchanged : {A B : Type 0} → A ⊎ B → B ⊎ A
exchanged (inl a) = inr a
exchanged (inr b) = inl b

pub clear_back : (p q a b : Screen) (n m : ℤ) → IsClearOf p q a b n m → IsClearOf p q b a n m
clear_back p q a b n m clear turn signs =
    less_nothing _ _ (denominator-reverse p q a b) (clear (zero_back _ _ (turn_back (place_of p q n m) a b) turn) (exchanged signs))

module _ (p q a b : Screen) (n m t j : ℤ) (t_pos : pos 0 <ℤ t) (j_pos : pos 0 <ℤ j) (rest : pos 0 <ℤ (t -ℤ j)) where
  most_of : (k x : ℤ) → pos 0 <ℤ k → (k *ℤ x) ≤ℤ pos 0 → x ≤ℤ pos 0
  most_of k x k_pos h = by_lt_z (pos 0) x (λ l. absurd (clash _ (mul_pos k x k_pos l) h)) (λ l. l)

  -- a mean of two values, one of them at most 0, is at least 0: the other is
  other_least : (x y : ℤ) → x ≤ℤ pos 0 → pos 0 ≤ℤ (((t -ℤ j) *ℤ x) +ℤ (j *ℤ y)) → pos 0 ≤ℤ y
  other_least x y h k = nonneg_of_mul j y j_pos (at _ _ (mul_nonpos (t -ℤ j) x rest h) k)
    where
      at : (f g : ℤ) → f ≤ℤ pos 0 → pos 0 ≤ℤ (f +ℤ g) → pos 0 ≤ℤ g
      at f g h k = omega (arith, ints)

  other_most : (x y : ℤ) → pos 0 ≤ℤ x → (((t -ℤ j) *ℤ x) +ℤ (j *ℤ y)) ≤ℤ pos 0 → y ≤ℤ pos 0
  other_most x y h k = most_of j y j_pos (at _ _ (mul_nonneg (t -ℤ j) x (weak _ rest) h) k)
    where
      at : (f g : ℤ) → pos 0 ≤ℤ f → (f +ℤ g) ≤ℤ pos 0 → g ≤ℤ pos 0
      at f g h k = omega (arith, ints)

  most_at : (x y : ℤ) → x ≡ y → x ≤ℤ pos 0 → y ≤ℤ pos 0
  most_at x y e h = omega (arith, ints)

  corner_most : area_of (grown t p) (grown t q) (grown t a) ≤ℤ pos 0 → area_of p q a ≤ℤ pos 0
  corner_most h = most_of _ _ (mul_pos t t t_pos t_pos) (most_at _ _ (area_grown p q a t) h)

  corner_least : pos 0 ≤ℤ area_of (grown t p) (grown t q) (grown t a) → pos 0 ≤ℤ area_of p q a
  corner_least h = nonneg_of_mul _ _ (mul_pos t t t_pos t_pos) (not_negative_at _ _ (sym (area_grown p q a t)) h)

  signs_of : ((area_of (grown t p) (grown t q) (grown t a) ≤ℤ pos 0) × (pos 0 ≤ℤ area_of (grown t p) (grown t q) (part t j a b)))
      ⊎ ((area_of (grown t p) (grown t q) (part t j a b) ≤ℤ pos 0) × (pos 0 ≤ℤ area_of (grown t p) (grown t q) (grown t a)))
      → ((area_of p q a ≤ℤ pos 0) × (pos 0 ≤ℤ area_of p q b)) ⊎ ((area_of p q b ≤ℤ pos 0) × (pos 0 ≤ℤ area_of p q a))
  signs_of (inl (h, k)) = let u = corner_most h in inl (u, other_least _ _ u (nonneg_of_mul t _ t_pos (not_negative_at _ _ (sym (area_part p q a b t j)) k)))
  signs_of (inr (k, h)) = let u = corner_least h in inr (other_most _ _ u (most_of t _ t_pos (most_at _ _ (area_part p q a b t j) k)), u)

  -- what is left of a side at one of its ends is clear where the side is
  pub clear_part : IsClearOf p q a b n m → IsClearOf (grown t p) (grown t q) (grown t a) (part t j a b) n m
  clear_part clear turn signs =
      (λ r. denominator_of (grown t p) (grown t q) (first_end t a b r) (part t j a b))
      ∙ denominator_part p q a b t (pos 0) j
      ∙ ap (λ v. (t *ℤ (j -ℤ pos 0)) *ℤ v) (clear (zero_of_mul _ _ (mul_pos t j t_pos j_pos) (sym (turn_part p q a b n m t j) ∙ turn)) (signs_of signs))
      ∙ ring (t ∷ j ∷ []) ((var 0 ⊗ (var 1 ⊖ con (pos 0))) ⊗ con (pos 0)) (con (pos 0)) refl
