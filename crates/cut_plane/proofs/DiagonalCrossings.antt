-- A border and the diagonal of a sight: it counts at the sight exactly where it crosses the diagonal to its left, but for its ends under the way along the diagonal.
use Rattle.std.proofs.Common.{◌≡◌, ℕ, inl, inr, Bool, true, false, refl, sym, ap, ◌∙◌, arith}
use Rattle.std.specs.Prelude.{ℤ, pos, ◌-ℤ◌, ◌*ℤ◌, ◌<ℤ◌, ◌≤ℤ◌}
use Rattle.std.specs.Bool.{Decides}
use Rattle.std.specs.Int.Signed.{lt_z}
use Rattle.std.proofs.lemmas.Int.{ints, by_lt_z}
use Rattle.integers.proofs.Comparisons.{at_most_of_less, positive_of_negated}
use Rattle.integers.proofs.Orders.{lt_z_of_less, lt_z_of_at_most}
use Rattle.integers.proofs.Ring.{con, var, ◌⊖◌, ◌⊗◌, ring}
use Rattle.integers.proofs.Signs.{mul_pos, mul_nonneg, nonneg_of_mul, pos_of_mul, mul_nonpos_first}
use Rattle.lattice.specs.Triple.{Triple}
use Rattle.lattice.specs.Points.{Point}
use Rattle.cut_plane.proofs.OverDiagonals.{GoesOver, CrossesLeftOf}
use Rattle.cut_plane.proofs.Sights.{Sight, sight_of, right_by, above_by, turn_of, counts, counts_at}
use Rattle.cut_plane.proofs.Tested.{less_of, most_of}
use Rattle.cut_plane.proofs.Xors.{xor, xor-none}
use Rattle.cut_plane.proofs.Lies.{up_down, down_down, nonpos_of_mul, neg_of_mul, counts-swapped}
use Rattle.cut_plane.proofs.Planes.{four, seen, rights, aboves, turns, Counting, rising, falling, counting_of, of_counting}

-- by how much q is beyond the diagonal of p, on the side of greater U - V, times both divisors
abbrev pub past_by : Sight → Sight → ℤ
past_by p q = right_by p q -ℤ above_by p q

-- not above a sight, and beyond its diagonal
abbrev pub is_under : Bool → Bool → Bool
is_under false past = past
is_under true past = false

-- x is to the right of the way from the sight down along its diagonal
abbrev pub under_way : Sight → Sight → Bool
under_way p x = is_under (lt_z (pos 0) (above_by p x)) (lt_z (pos 0) (past_by p x))

-- the segment from k to l goes over the diagonal of p to its left, one way or the other
abbrev pub crosses_left : Sight → Sight → Sight → Bool
crosses_left k l p = counts (lt_z (pos 0) (past_by p k)) (lt_z (pos 0) (past_by p l)) (turn_of k l p)

-- ---- by signs
above_zero : {y : ℤ} → pos 0 ≤ℤ y → (y ≡ pos 0 → ⊥) → pos 0 <ℤ y
above_zero {y} h n = go y h n
  where
    go : (y : ℤ) → pos 0 ≤ℤ y → (y ≡ pos 0 → ⊥) → pos 0 <ℤ y
    go y h n = by_lt_z (pos 0) y (λ q. q) (λ q. absurd (n (omega (arith, ints))))

below_zero : {y : ℤ} → y ≤ℤ pos 0 → (y ≡ pos 0 → ⊥) → y <ℤ pos 0
below_zero {y} h n = go y h n
  where
    go : (y : ℤ) → y ≤ℤ pos 0 → (y ≡ pos 0 → ⊥) → y <ℤ pos 0
    go y h n = by_lt_z y (pos 0) (λ q. q) (λ q. absurd (n (omega (arith, ints))))

-- off the line, one side or the other
other_up : (y : ℤ) → (y ≡ pos 0 → ⊥) → xor (lt_z (pos 0) y) true ≡ lt_z y (pos 0)
other_up y n = by_lt_z (pos 0) y
    (λ q. ap (λ v. xor v true) (lt_z_of_less (pos 0) y q) ∙ sym (lt_z_of_at_most y (pos 0) (at_most_of_less _ _ q)))
    (λ q. ap (λ v. xor v true) (lt_z_of_at_most (pos 0) y q) ∙ sym (lt_z_of_less y (pos 0) (below_zero q n)))

other_down : (y : ℤ) → (y ≡ pos 0 → ⊥) → xor (lt_z y (pos 0)) true ≡ lt_z (pos 0) y
other_down y n = by_lt_z y (pos 0)
    (λ q. ap (λ v. xor v true) (lt_z_of_less y (pos 0) q) ∙ sym (lt_z_of_at_most (pos 0) y (at_most_of_less _ _ q)))
    (λ q. ap (λ v. xor v true) (lt_z_of_at_most y (pos 0) q) ∙ sym (lt_z_of_less (pos 0) y (above_zero q n)))

-- The two ends are a and b above the sight and f and g beyond its diagonal, and x is the side of their line on which the sight is.
module _ (w x a b f g : ℤ) (there : pos 0 <ℤ w) (turn : w *ℤ x ≡ (f *ℤ b) -ℤ (a *ℤ g)) where
  not_right : (f *ℤ b) ≤ℤ pos 0 → pos 0 ≤ℤ (a *ℤ g) → x ≤ℤ pos 0
  not_right h k = nonpos_of_mul w x there (go (f *ℤ b) (a *ℤ g) (w *ℤ x) turn h k)
    where
      go : (k l m : ℤ) → m ≡ k -ℤ l → k ≤ℤ pos 0 → pos 0 ≤ℤ l → m ≤ℤ pos 0
      go k l m e h g = omega (arith, ints)

  not_left : pos 0 ≤ℤ (f *ℤ b) → (a *ℤ g) ≤ℤ pos 0 → pos 0 ≤ℤ x
  not_left h k = nonneg_of_mul w x there (go (f *ℤ b) (a *ℤ g) (w *ℤ x) turn h k)
    where
      go : (k l m : ℤ) → m ≡ k -ℤ l → pos 0 ≤ℤ k → l ≤ℤ pos 0 → pos 0 ≤ℤ m
      go k l m e h g = omega (arith, ints)

  left : pos 0 <ℤ (f *ℤ b) → (a *ℤ g) ≤ℤ pos 0 → pos 0 <ℤ x
  left h k = pos_of_mul w x there (go (f *ℤ b) (a *ℤ g) (w *ℤ x) turn h k)
    where
      go : (k l m : ℤ) → m ≡ k -ℤ l → pos 0 <ℤ k → l ≤ℤ pos 0 → pos 0 <ℤ m
      go k l m e h g = omega (arith, ints)

  right : (f *ℤ b) ≤ℤ pos 0 → pos 0 <ℤ (a *ℤ g) → x <ℤ pos 0
  right h k = neg_of_mul w x (at_most_of_less _ _ there) (go (f *ℤ b) (a *ℤ g) (w *ℤ x) turn h k)
    where
      go : (k l m : ℤ) → m ≡ k -ℤ l → k ≤ℤ pos 0 → pos 0 <ℤ l → m <ℤ pos 0
      go k l m e h g = omega (arith, ints)

  -- where an end is on each side of the diagonal, the sight is not on the segment's line
  module _ (off_up : f ≤ℤ pos 0 → pos 0 <ℤ g → x ≡ pos 0 → ⊥) (off_down : pos 0 <ℤ f → g ≤ℤ pos 0 → x ≡ pos 0 → ⊥) where
    abbrev Row : Bool → Bool → Bool → Bool → Type 0
    Row v v' m m' = xor (counts v v' x) (xor (is_under v m) (is_under v' m')) ≡ counts m m' x

    pub rows : Row (lt_z (pos 0) a) (lt_z (pos 0) b) (lt_z (pos 0) f) (lt_z (pos 0) g)
    rows = by (lt_z (pos 0) a) (lt_z (pos 0) b) (lt_z (pos 0) f) (lt_z (pos 0) g) refl refl refl refl
      where
        yes : {y : ℤ} → lt_z (pos 0) y ≡ true → pos 0 <ℤ y
        yes {y} e = less_of (pos 0) y e

        no : {y : ℤ} → lt_z (pos 0) y ≡ false → y ≤ℤ pos 0
        no {y} e = most_of (pos 0) y e

        by : (v v' m m' : Bool) → lt_z (pos 0) a ≡ v → lt_z (pos 0) b ≡ v' → lt_z (pos 0) f ≡ m → lt_z (pos 0) g ≡ m' → Row v v' m m'
        by false false false false h k p q = refl
        by false false true true h k p q = refl
        by true true false false h k p q = refl
        by true true true true h k p q = refl
        by false false false true h k p q =
            sym (lt_z_of_less (pos 0) x (above_zero (not_left (down_down f b (no p) (no k)) (mul_nonpos_first a g (no h) (at_most_of_less _ _ (yes q)))) (off_up (no p) (yes q))))
        by false false true false h k p q =
            sym (lt_z_of_less x (pos 0) (below_zero (not_right (up_down f b (at_most_of_less _ _ (yes p)) (no k)) (down_down a g (no h) (no q))) (off_down (yes p) (no q))))
        by false true false false h k p q = ap (λ v. xor v false) (lt_z_of_at_most (pos 0) x (not_right (mul_nonpos_first f b (no p) (at_most_of_less _ _ (yes k))) (down_down a g (no h) (no q))))
        by false true false true h k p q = xor-none (lt_z (pos 0) x)
        by false true true false h k p q = other_up x (off_down (yes p) (no q))
        by false true true true h k p q = ap (λ v. xor v true) (lt_z_of_less (pos 0) x (left (mul_pos f b (yes p) (yes k)) (mul_nonpos_first a g (no h) (at_most_of_less _ _ (yes q)))))
        by true false false false h k p q = ap (λ v. xor v false) (lt_z_of_at_most x (pos 0) (not_left (down_down f b (no p) (no k)) (up_down a g (at_most_of_less _ _ (yes h)) (no q))))
        by true false false true h k p q = other_down x (off_up (no p) (yes q))
        by true false true false h k p q = xor-none (lt_z x (pos 0))
        by true false true true h k p q = ap (λ v. xor v true) (lt_z_of_less x (pos 0) (right (up_down f b (at_most_of_less _ _ (yes p)) (no k)) (mul_pos a g (yes h) (yes q))))
        by true true false true h k p q = sym (lt_z_of_at_most (pos 0) x (not_right (mul_nonpos_first f b (no p) (at_most_of_less _ _ (yes k))) (mul_nonneg a g (at_most_of_less _ _ (yes h)) (at_most_of_less _ _ (yes q)))))
        by true true true false h k p q = sym (lt_z_of_at_most x (pos 0) (not_left (mul_nonneg f b (at_most_of_less _ _ (yes p)) (at_most_of_less _ _ (yes k))) (up_down a g (at_most_of_less _ _ (yes h)) (no q))))

-- ---- by sights
past_is : (k p : Sight) → past_by p k ≡ ((k.u -ℤ k.v) *ℤ p.w) -ℤ ((p.u -ℤ p.v) *ℤ k.w)
past_is k p = ring (four k k p p) (rights (seen 6) (seen 0) ⊖ aboves (seen 6) (seen 0)) (((var 0 ⊖ var 1) ⊗ var 8) ⊖ ((var 6 ⊖ var 7) ⊗ var 2)) refl

pub turn_by_past : (k l p : Sight) → p.w *ℤ turn_of k l p ≡ (past_by p k *ℤ above_by p l) -ℤ (above_by p k *ℤ past_by p l)
turn_by_past k l p =
    let past = λ (n : ℕ). rights (seen 6) (seen n) ⊖ aboves (seen 6) (seen n) in
    ring (four k l p p) (var 8 ⊗ turns (seen 0) (seen 3) (seen 6)) ((past 0 ⊗ aboves (seen 6) (seen 3)) ⊖ (aboves (seen 6) (seen 0) ⊗ past 3)) refl

other_turn : (k l p : Sight) → turn_of l k p ≡ pos 0 -ℤ turn_of k l p
other_turn k l p = ring (four k l p p) (turns (seen 3) (seen 0) (seen 6)) (con (pos 0) ⊖ turns (seen 0) (seen 3) (seen 6)) refl

-- the other way round
pub crosses_left-turned : (k l p : Sight) → crosses_left k l p ≡ crosses_left l k p
crosses_left-turned k l p =
    sym (counts-swapped (lt_z (pos 0) (past_by p l)) (lt_z (pos 0) (past_by p k)) (turn_of k l p))
    ∙ ap (counts (lt_z (pos 0) (past_by p l)) (lt_z (pos 0) (past_by p k))) (sym (other_turn k l p))

-- one end is beyond the diagonal, and the other is not
pub data AreApart (f g : ℤ) : Type 0 where
  over : f ≤ℤ pos 0 → pos 0 <ℤ g → AreApart f g
  back : pos 0 <ℤ f → g ≤ℤ pos 0 → AreApart f g

-- A border counts at a sight exactly if it crosses the diagonal to the sight's left, but for its ends under the way.
pub diagonal_balanced : (k l p : Sight) → pos 0 <ℤ p.w → (AreApart (past_by p k) (past_by p l) → turn_of k l p ≡ pos 0 → ⊥)
    → xor (counts_at k l p) (xor (under_way p k) (under_way p l)) ≡ crosses_left k l p
diagonal_balanced k l p there off =
    rows p.w (turn_of k l p) (above_by p k) (above_by p l) (past_by p k) (past_by p l) there (turn_by_past k l p)
    (λ h g. off (over h g)) (λ h g. off (back h g))

-- ---- in words
module _ (d : Triple) (k l p : Point) where
  abbrev K : Sight
  K = sight_of d k

  abbrev L : Sight
  L = sight_of d l

  abbrev P : Sight
  P = sight_of d p

  goes_over : past_by P K ≤ℤ pos 0 → pos 0 <ℤ past_by P L → pos 0 <ℤ turn_of K L P → GoesOver d k l p
  goes_over h g t = record { from = most _ _ _ (past_is K P) h; to = less _ _ _ (past_is L P) g; left = t }
    where
      most : (x y z : ℤ) → z ≡ x -ℤ y → z ≤ℤ pos 0 → x ≤ℤ y
      most x y z e h = omega (arith, ints)

      less : (x y z : ℤ) → z ≡ x -ℤ y → pos 0 <ℤ z → y <ℤ x
      less x y z e h = omega (arith, ints)

  counting_over : GoesOver d k l p → Counting (past_by P K) (past_by P L) (turn_of K L P)
  counting_over h = rising (most _ _ _ (past_is K P) h.from) (less _ _ _ (past_is L P) h.to) h.left
    where
      most : (x y z : ℤ) → z ≡ x -ℤ y → x ≤ℤ y → z ≤ℤ pos 0
      most x y z e h = omega (arith, ints)

      less : (x y z : ℤ) → z ≡ x -ℤ y → y <ℤ x → pos 0 <ℤ z
      less x y z e h = omega (arith, ints)

pub crosses_left_decides : (d : Triple) (k l p : Point) → Decides (crosses_left (sight_of d k) (sight_of d l) (sight_of d p)) (CrossesLeftOf d k l p)
crosses_left_decides d k l p = ((λ e. to (counting_of _ _ _ e)), from)
  where
    to : Counting (past_by (sight_of d p) (sight_of d k)) (past_by (sight_of d p) (sight_of d l)) (turn_of (sight_of d k) (sight_of d l) (sight_of d p)) → CrossesLeftOf d k l p
    to (rising h g t) = inl (goes_over d k l p h g t)
    to (falling h g t) = inr (goes_over d l k p g h (positive_of_negated _ _ (other_turn (sight_of d k) (sight_of d l) (sight_of d p)) t))

    from : CrossesLeftOf d k l p → crosses_left (sight_of d k) (sight_of d l) (sight_of d p) ≡ true
    from (inl h) = of_counting _ _ _ (counting_over d k l p h)
    from (inr h) = crosses_left-turned (sight_of d k) (sight_of d l) (sight_of d p) ∙ of_counting _ _ _ (counting_over d l k p h)
