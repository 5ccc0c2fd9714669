-- A border as it is seen, by its two ends: that it is to the right of a sight and goes on above it, and how it lies to two sights.
use Rattle.std.proofs.Common.{◌≡◌, ℕ, suc, Bool, true, false, [], ◌∷◌, List, refl, sym, ◌∙◌, arith, unsigned_abs}
use Rattle.std.specs.Prelude.{ℤ, pos, ◌+ℤ◌, ◌-ℤ◌, ◌*ℤ◌, ◌<ℤ◌, ◌≤ℤ◌}
use Rattle.std.specs.Int.Signed.{lt_z}
use Rattle.std.proofs.lemmas.Bool.{false≢true}
use Rattle.std.proofs.lemmas.Int.{ints, by_lt_z}
use Rattle.integers.proofs.Absolutes.{natural_not_negative, abs_of_positive, abs_of_not_positive}
use Rattle.integers.proofs.Comparisons.{at_most_of_less, positive_at, negation_positive, positive_not_negative}
use Rattle.integers.proofs.Orders.{lt_z_of_less, lt_z_of_at_most}
use Rattle.integers.proofs.Ring.{Expr, var, con, ◌⊕◌, ◌⊖◌, ◌⊗◌, ring, by_two}
use Rattle.integers.proofs.Signs.{mul_pos, mul_neg, mul_nonpos, pos_of_mul}
use Rattle.cut_plane.proofs.Sights.{Sight, right_by, above_by, turn_of, counts, counts_at}
use Rattle.cut_plane.proofs.Tested.{less_of, most_of}
use Rattle.cut_plane.proofs.Lies.{Lie, IsClear, neg_of_mul, pos_of_times, turned, up_down}

-- ---- expressions
pub record Seen : Type 0 where
  pub u : Expr
  pub v : Expr
  pub w : Expr

abbrev pub seen : ℕ → Seen
seen n = record { u = var n; v = var (suc n); w = var (suc (suc n)) }

abbrev pub rights : Seen → Seen → Expr
rights p q = (q.u ⊗ p.w) ⊖ (p.u ⊗ q.w)

abbrev pub aboves : Seen → Seen → Expr
aboves p q = (q.v ⊗ p.w) ⊖ (p.v ⊗ q.w)

abbrev pub turns : Seen → Seen → Seen → Expr
turns p q r = ((p.u ⊗ ((q.v ⊗ r.w) ⊖ (q.w ⊗ r.v))) ⊖ (p.v ⊗ ((q.u ⊗ r.w) ⊖ (q.w ⊗ r.u)))) ⊕ (p.w ⊗ ((q.u ⊗ r.v) ⊖ (q.v ⊗ r.u)))

abbrev K : Seen
K = seen 0

abbrev L : Seen
L = seen 3

abbrev P : Seen
P = seen 6

abbrev Q : Seen
Q = seen 9

-- ---- two ends and two sights
abbrev pub four : Sight → Sight → Sight → Sight → List ℤ
four k l p q = k.u ∷ k.v ∷ k.w ∷ l.u ∷ l.v ∷ l.w ∷ p.u ∷ p.v ∷ p.w ∷ q.u ∷ q.v ∷ q.w ∷ []

pub lever_up : (w r m a n b : ℤ) → pos 0 <ℤ w → pos 0 <ℤ m → pos 0 <ℤ n → w *ℤ r ≡ (m *ℤ a) -ℤ (n *ℤ b) → pos 0 <ℤ a → b ≤ℤ pos 0 → pos 0 <ℤ r
lever_up w r m a n b hw hm hn e h g = pos_of_mul w r hw (go (m *ℤ a) (n *ℤ b) (w *ℤ r) e (mul_pos m a hm h) (mul_nonpos n b hn g))
  where
    go : (x y z : ℤ) → z ≡ x -ℤ y → pos 0 <ℤ x → y ≤ℤ pos 0 → pos 0 <ℤ z
    go x y z e h g = omega (arith, ints)

pub lever_down : (w r m a n b : ℤ) → pos 0 <ℤ w → pos 0 <ℤ m → pos 0 <ℤ n → w *ℤ r ≡ (m *ℤ a) -ℤ (n *ℤ b) → a ≤ℤ pos 0 → pos 0 <ℤ b → r <ℤ pos 0
lever_down w r m a n b hw hm hn e h g = neg_of_mul w r (at_most_of_less _ _ hw) (go (m *ℤ a) (n *ℤ b) (w *ℤ r) e (mul_nonpos m a hm h) (mul_pos n b hn g))
  where
    go : (x y z : ℤ) → z ≡ x -ℤ y → x ≤ℤ pos 0 → pos 0 <ℤ y → z <ℤ pos 0
    go x y z e h g = omega (arith, ints)

-- the segment from k to l does not cross the way from p to q
abbrev pub IsClearOf : Sight → Sight → Sight → Sight → Type 0
IsClearOf k l p q = IsClear (turn_of k l p) (turn_of k l q) (turn_of p q k) (turn_of p q l)

module _ (k l p q : Sight) (k_there : pos 0 <ℤ k.w) (l_there : pos 0 <ℤ l.w) (p_there : pos 0 <ℤ p.w) (q_there : pos 0 <ℤ q.w) where
  pub rise : (x : Sight) → x.w *ℤ above_by p q ≡ (q.w *ℤ above_by p x) -ℤ (p.w *ℤ above_by q x)
  rise x = ring (four x x p q) (K.w ⊗ aboves P Q) ((Q.w ⊗ aboves P K) ⊖ (P.w ⊗ aboves Q K)) refl

  pub ascent : (x : Sight) → x.w *ℤ above_by k l ≡ (k.w *ℤ above_by x l) -ℤ (l.w *ℤ above_by x k)
  ascent x = ring (four k l x x) (P.w ⊗ aboves K L) ((K.w ⊗ aboves P L) ⊖ (L.w ⊗ aboves P K)) refl

  abbrev pub lie_of : IsClearOf k l p q → Lie
  lie_of clear = record {
    a = above_by p k;
    b = above_by p l;
    a' = above_by q k;
    b' = above_by q l;
    r = above_by p q;
    c = above_by k l;
    x = turn_of k l p;
    x' = turn_of k l q;
    y = turn_of p q k;
    y' = turn_of p q l;
    first_row = ring (four k l p q) (aboves P K ⊗ turns P Q L) ((aboves P Q ⊗ turns K L P) ⊕ (aboves P L ⊗ turns P Q K)) refl;
    second_row = ring (four k l p q) (aboves Q K ⊗ turns P Q L) ((aboves P Q ⊗ turns K L Q) ⊕ (aboves Q L ⊗ turns P Q K)) refl;
    first_column = ring (four k l p q) (aboves Q K ⊗ turns K L P) ((aboves K L ⊗ turns P Q K) ⊕ (aboves P K ⊗ turns K L Q)) refl;
    second_column = ring (four k l p q) (aboves Q L ⊗ turns K L P) ((aboves K L ⊗ turns P Q L) ⊕ (aboves P L ⊗ turns K L Q)) refl;
    rises = lever_up k.w _ q.w _ p.w _ k_there q_there p_there (rise k);
    falls = lever_down k.w _ q.w _ p.w _ k_there q_there p_there (rise k);
    rises' = lever_up l.w _ q.w _ p.w _ l_there q_there p_there (rise l);
    falls' = lever_down l.w _ q.w _ p.w _ l_there q_there p_there (rise l);
    ascends = λ h g. lever_up p.w _ k.w _ l.w _ p_there k_there l_there (ascent p) g h;
    descends = λ h g. lever_down p.w _ k.w _ l.w _ p_there k_there l_there (ascent p) g h;
    ascends' = λ h g. lever_up q.w _ k.w _ l.w _ q_there k_there l_there (ascent q) g h;
    descends' = λ h g. lever_down q.w _ k.w _ l.w _ q_there k_there l_there (ascent q) g h;
    clear = clear;
  }

-- ---- to the right of a sight
-- a sum of the two ends is at its V and to its right, and another is above it
pub record IsBeside (k l p : Sight) : Type 0 where
  pub i : ℕ
  pub j : ℕ
  pub m : ℕ
  pub n : ℕ
  pub level : (pos i *ℤ above_by p k) +ℤ (pos j *ℤ above_by p l) ≡ pos 0
  pub right : pos 0 <ℤ ((pos i *ℤ right_by p k) +ℤ (pos j *ℤ right_by p l))
  pub above : pos 0 <ℤ ((pos m *ℤ above_by p k) +ℤ (pos n *ℤ above_by p l))

turn_is : (k l p : Sight) → p.w *ℤ turn_of k l p ≡ (right_by p k *ℤ above_by p l) -ℤ (above_by p k *ℤ right_by p l)
turn_is k l p = ring (four k l p p) (P.w ⊗ turns K L P) ((rights P K ⊗ aboves P L) ⊖ (aboves P K ⊗ rights P L)) refl

-- what counts says, in words
pub data Counting (a b x : ℤ) : Type 0 where
  rising : a ≤ℤ pos 0 → pos 0 <ℤ b → pos 0 <ℤ x → Counting a b x
  falling : pos 0 <ℤ a → b ≤ℤ pos 0 → x <ℤ pos 0 → Counting a b x

pub counting_of : (a b x : ℤ) → counts (lt_z (pos 0) a) (lt_z (pos 0) b) x ≡ true → Counting a b x
counting_of a b x h = by (lt_z (pos 0) a) (lt_z (pos 0) b) refl refl h
  where
    by : (v w : Bool) → lt_z (pos 0) a ≡ v → lt_z (pos 0) b ≡ w → counts v w x ≡ true → Counting a b x
    by false false e f h = absurd (false≢true h)
    by false true e f h = rising (most_of (pos 0) a e) (less_of (pos 0) b f) (less_of (pos 0) x h)
    by true false e f h = falling (less_of (pos 0) a e) (most_of (pos 0) b f) (less_of x (pos 0) h)
    by true true e f h = absurd (false≢true h)

pub of_counting : (a b x : ℤ) → Counting a b x → counts (lt_z (pos 0) a) (lt_z (pos 0) b) x ≡ true
of_counting a b x (rising p q r) = (λ i. counts (lt_z_of_at_most (pos 0) a p i) (lt_z_of_less (pos 0) b q i) x) ∙ lt_z_of_less (pos 0) x r
of_counting a b x (falling p q r) = (λ i. counts (lt_z_of_less (pos 0) a p i) (lt_z_of_at_most (pos 0) b q i) x) ∙ lt_z_of_less x (pos 0) r

-- ---- one in the words of the other
sum_is_zero : (k l : ℤ) → pos 0 ≤ℤ k → pos 0 ≤ℤ l → k +ℤ l ≡ pos 0 → (k ≡ pos 0) × (l ≡ pos 0)
sum_is_zero k l h g e = (omega (arith, ints), omega (arith, ints))

nothing_of : (i : ℕ) (x : ℤ) → pos i ≡ pos 0 → pos i *ℤ x ≡ pos 0
nothing_of i x e = (λ t. e t *ℤ x) ∙ ring (x ∷ []) (con (pos 0) ⊗ var 0) (con (pos 0)) refl

-- a sum of a and b with these weights is 0, and one of f and g is positive
module _ (a b f g x w : ℤ) (there : pos 0 <ℤ w) (turn : w *ℤ x ≡ (f *ℤ b) -ℤ (a *ℤ g)) (i j : ℕ) (level : (pos i *ℤ a) +ℤ (pos j *ℤ b) ≡ pos 0)
    (right : pos 0 <ℤ ((pos i *ℤ f) +ℤ (pos j *ℤ g))) where
  not_none : pos i ≡ pos 0 → pos j ≡ pos 0 → ⊥
  not_none e e' = go (pos i *ℤ f) (pos j *ℤ g) right (nothing_of i f e) (nothing_of j g e')
    where
      go : (k l : ℤ) → pos 0 <ℤ (k +ℤ l) → k ≡ pos 0 → l ≡ pos 0 → ⊥
      go k l h e e' = omega (arith, ints)

  times_first : pos i *ℤ (w *ℤ x) ≡ b *ℤ ((pos i *ℤ f) +ℤ (pos j *ℤ g))
  times_first =
      by_two (pos i *ℤ (w *ℤ x)) (b *ℤ ((pos i *ℤ f) +ℤ (pos j *ℤ g))) (w *ℤ x) ((f *ℤ b) -ℤ (a *ℤ g)) (pos i) ((pos i *ℤ a) +ℤ (pos j *ℤ b)) (pos 0) (pos 0 -ℤ g)
      (ring (a ∷ b ∷ f ∷ g ∷ x ∷ w ∷ pos i ∷ pos j ∷ [])
      ((var 6 ⊗ (var 5 ⊗ var 4)) ⊖ (var 1 ⊗ ((var 6 ⊗ var 2) ⊕ (var 7 ⊗ var 3))))
      ((((var 5 ⊗ var 4) ⊖ ((var 2 ⊗ var 1) ⊖ (var 0 ⊗ var 3))) ⊗ var 6) ⊕ ((((var 6 ⊗ var 0) ⊕ (var 7 ⊗ var 1)) ⊖ con (pos 0)) ⊗ (con (pos 0) ⊖ var 3))) refl) turn level

  times_second : pos j *ℤ (w *ℤ x) ≡ (pos 0 -ℤ a) *ℤ ((pos i *ℤ f) +ℤ (pos j *ℤ g))
  times_second =
      by_two (pos j *ℤ (w *ℤ x)) ((pos 0 -ℤ a) *ℤ ((pos i *ℤ f) +ℤ (pos j *ℤ g))) (w *ℤ x) ((f *ℤ b) -ℤ (a *ℤ g)) (pos j) ((pos i *ℤ a) +ℤ (pos j *ℤ b)) (pos 0) f
      (ring (a ∷ b ∷ f ∷ g ∷ x ∷ w ∷ pos i ∷ pos j ∷ [])
      ((var 7 ⊗ (var 5 ⊗ var 4)) ⊖ ((con (pos 0) ⊖ var 0) ⊗ ((var 6 ⊗ var 2) ⊕ (var 7 ⊗ var 3))))
      ((((var 5 ⊗ var 4) ⊖ ((var 2 ⊗ var 1) ⊖ (var 0 ⊗ var 3))) ⊗ var 7) ⊕ ((((var 6 ⊗ var 0) ⊕ (var 7 ⊗ var 1)) ⊖ con (pos 0)) ⊗ var 2)) refl) turn level

  rise_of_first : pos 0 <ℤ b → pos 0 <ℤ x
  rise_of_first h = pos_of_mul w x there (pos_of_times (pos i) (w *ℤ x) (natural_not_negative i) (positive_at (pos i *ℤ (w *ℤ x)) _ times_first (mul_pos b ((pos i *ℤ f) +ℤ (pos j *ℤ g)) h right)))

  fall_of_second : pos 0 <ℤ a → x <ℤ pos 0
  fall_of_second h =
      neg_of_mul w x (at_most_of_less _ _ there) (neg_of_mul (pos j) (w *ℤ x) (natural_not_negative j)
      (less (pos j *ℤ (w *ℤ x)) _ _ times_second (turned a ((pos i *ℤ f) +ℤ (pos j *ℤ g))) (mul_pos a ((pos i *ℤ f) +ℤ (pos j *ℤ g)) h right)))
    where
      less : (k l m : ℤ) → k ≡ l → l ≡ pos 0 -ℤ m → pos 0 <ℤ m → k <ℤ pos 0
      less k l m e g h = omega (arith, ints)

  counting_of_weights : (m n : ℕ) → pos 0 <ℤ ((pos m *ℤ a) +ℤ (pos n *ℤ b)) → Counting a b x
  counting_of_weights m n above = by_lt_z (pos 0) b
      (λ q. by_lt_z (pos 0) a (λ p. absurd (positive_not_negative x (rise_of_first q) (fall_of_second p))) (λ p. rising p q (rise_of_first q)))
      (λ q.
      let p = pos_of_times (pos m) a (natural_not_negative m) (first (pos m *ℤ a) (pos n *ℤ b) above (up_down (pos n) b (natural_not_negative n) q)) in
      falling p q (fall_of_second p))
    where
      first : (k l : ℤ) → pos 0 <ℤ (k +ℤ l) → l ≤ℤ pos 0 → pos 0 <ℤ k
      first k l h g = omega (arith, ints)

pub counts_of_beside : (k l p : Sight) → pos 0 <ℤ p.w → IsBeside k l p → counts_at k l p ≡ true
counts_of_beside k l p there h =
    of_counting (above_by p k) (above_by p l) (turn_of k l p)
    (counting_of_weights (above_by p k) (above_by p l) (right_by p k) (right_by p l) (turn_of k l p) p.w there (turn_is k l p) h.i h.j h.level h.right h.m h.n h.above)

first_alone : (a b : ℤ) → (pos 1 *ℤ a) +ℤ (pos 0 *ℤ b) ≡ a
first_alone a b = ring (a ∷ b ∷ []) ((con (pos 1) ⊗ var 0) ⊕ (con (pos 0) ⊗ var 1)) (var 0) refl

second_alone : (a b : ℤ) → (pos 0 *ℤ a) +ℤ (pos 1 *ℤ b) ≡ b
second_alone a b = ring (a ∷ b ∷ []) ((con (pos 0) ⊗ var 0) ⊕ (con (pos 1) ⊗ var 1)) (var 1) refl

pub beside_of_counts : (k l p : Sight) → pos 0 <ℤ p.w → counts_at k l p ≡ true → IsBeside k l p
beside_of_counts k l p there h = by (above_by p k) (above_by p l) (right_by p k) (right_by p l) (turn_of k l p) (turn_is k l p) (counting_of (above_by p k) (above_by p l) (turn_of k l p) h)
    (λ i j m n level right above. record { i = i; j = j; m = m; n = n; level = level; right = right; above = above })
  where
    by : {R : Type 0} (a b f g x : ℤ) → p.w *ℤ x ≡ (f *ℤ b) -ℤ (a *ℤ g) → Counting a b x
        → ((i j m n : ℕ) → (pos i *ℤ a) +ℤ (pos j *ℤ b) ≡ pos 0 → pos 0 <ℤ ((pos i *ℤ f) +ℤ (pos j *ℤ g)) → pos 0 <ℤ ((pos m *ℤ a) +ℤ (pos n *ℤ b)) → R) → R
    by a b f g x e (rising p' q r) make =
        make (unsigned_abs b) (unsigned_abs a) 0 1
        ((λ t. (abs_of_positive b q t *ℤ a) +ℤ (abs_of_not_positive a p' t *ℤ b)) ∙ ring (a ∷ b ∷ []) ((var 1 ⊗ var 0) ⊕ ((con (pos 0) ⊖ var 0) ⊗ var 1)) (con (pos 0)) refl)
        (positive_at _ _
        ((λ t. (abs_of_positive b q t *ℤ f) +ℤ (abs_of_not_positive a p' t *ℤ g))
        ∙ ring (a ∷ b ∷ f ∷ g ∷ []) ((var 1 ⊗ var 2) ⊕ ((con (pos 0) ⊖ var 0) ⊗ var 3)) ((var 2 ⊗ var 1) ⊖ (var 0 ⊗ var 3)) refl ∙ sym e)
        (mul_pos p.w x there r))
        (positive_at _ _ (second_alone a b) q)
    by a b f g x e (falling p' q r) make =
        make (unsigned_abs b) (unsigned_abs a) 1 0
        ((λ t. (abs_of_not_positive b q t *ℤ a) +ℤ (abs_of_positive a p' t *ℤ b)) ∙ ring (a ∷ b ∷ []) (((con (pos 0) ⊖ var 1) ⊗ var 0) ⊕ (var 0 ⊗ var 1)) (con (pos 0)) refl)
        (positive_at _ _
        ((λ t. (abs_of_not_positive b q t *ℤ f) +ℤ (abs_of_positive a p' t *ℤ g))
        ∙ ring (a ∷ b ∷ f ∷ g ∷ []) (((con (pos 0) ⊖ var 1) ⊗ var 2) ⊕ (var 0 ⊗ var 3)) (con (pos 0) ⊖ ((var 2 ⊗ var 1) ⊖ (var 0 ⊗ var 3))) refl ∙ sym (λ t. pos 0 -ℤ e t))
        (negation_positive _ (mul_neg p.w x there r)))
        (positive_at _ _ (first_alone a b) p')
