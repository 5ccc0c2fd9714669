-- An edge passes nearer before a place of an edge exactly where it is seen to cross between a near place and that one.
use Rattle.std.proofs.Common.{◌≡◌, [], ◌∷◌, refl, sym, ap, ◌∙◌, arith}
use Rattle.std.specs.Prelude.{ℤ, pos, ◌-ℤ◌, ◌*ℤ◌, ◌≤ℤ◌, ◌<ℤ◌}
use Rattle.std.proofs.lemmas.Int.{ints}
use Rattle.lattice.proofs.Vectors.{dot_somewhere}
use Rattle.integers.proofs.Comparisons.{positive_at}
use Rattle.integers.proofs.Ring.{var, ◌⊕◌, ◌⊖◌, ◌⊗◌, ring, less_by, gap_of_less}
use Rattle.integers.proofs.Signs.{mul_pos, mul_nonneg, pos_of_mul, square_nonneg}
use Rattle.lattice.specs.Triple.{Triple, dot, IsZero}
use Rattle.geometry.specs.Parts.{Part, Edge}
use Rattle.geometry.specs.Views.{face_sign}
use Rattle.hiding_laws.proofs.Screens.{turn_of}
use Rattle.geometry.specs.Counts.{Side}
use Rattle.hiding_laws.proofs.Changed.{IsCrossedBefore, HasChanged}
use Rattle.geometry.specs.Shares.{denominator_of as denominator_between, numerator_of as numerator_between, height_numerator_of as height_numerator_between, change_of as change_between, PassesNearer}
use Rattle.hiding_laws.proofs.Changed.HasChanged.{passed, not_passed}
use Rattle.hiding_laws.specs.inner.Tallies.{IsTally}
use Rattle.hiding_laws.specs.inner.Tallies.{yes, no}
use Rattle.hiding_laws.proofs.Shares.{numerator_of, denominator_of, depth_of, change_of, Crosses}
use Rattle.hiding_laws.proofs.CornerLaws.{IsBelow, IsNear}
use Rattle.hiding_laws.proofs.Signs.{sum_pos_left}
use Rattle.hiding_laws.proofs.Seen.{on, scale, scale_pos, denominator_seen, numerator_seen, depth_seen, change_seen}
use Rattle.hiding_laws.proofs.NearPlace.{after_near, after_start}

-- ---- numbers that are all times a factor
module _ (s e R K D : ℤ) (s_pos : pos 0 <ℤ s) (e_pos : pos 0 <ℤ e) where
  square_pos : pos 0 <ℤ (s *ℤ s)
  square_pos = mul_pos s s s_pos s_pos

  scaled_product : (s *ℤ R) *ℤ (s *ℤ K) ≡ (s *ℤ s) *ℤ (R *ℤ K)
  scaled_product = ring (s ∷ R ∷ K ∷ []) ((var 0 ⊗ var 1) ⊗ (var 0 ⊗ var 2)) ((var 0 ⊗ var 0) ⊗ (var 1 ⊗ var 2)) refl

  scaled_height : ((s *ℤ e) *ℤ D) *ℤ (s *ℤ K) ≡ ((s *ℤ e) *ℤ s) *ℤ (D *ℤ K)
  scaled_height = ring (s ∷ e ∷ D ∷ K ∷ []) (((var 0 ⊗ var 1) ⊗ var 2) ⊗ (var 0 ⊗ var 3)) (((var 0 ⊗ var 1) ⊗ var 0) ⊗ (var 2 ⊗ var 3)) refl

  start_of_scaled : pos 0 <ℤ ((s *ℤ R) *ℤ (s *ℤ K)) → pos 0 <ℤ (R *ℤ K)
  start_of_scaled h = pos_of_mul (s *ℤ s) _ square_pos (positive_at _ _ (sym scaled_product) h)

  scaled_of_start : pos 0 <ℤ (R *ℤ K) → pos 0 <ℤ ((s *ℤ R) *ℤ (s *ℤ K))
  scaled_of_start h = positive_at _ _ scaled_product (mul_pos (s *ℤ s) _ square_pos h)

  height_of_scaled : pos 0 <ℤ (((s *ℤ e) *ℤ D) *ℤ (s *ℤ K)) → pos 0 <ℤ (D *ℤ K)
  height_of_scaled h = pos_of_mul ((s *ℤ e) *ℤ s) _ (mul_pos _ s (mul_pos s e s_pos e_pos) s_pos) (positive_at _ _ (sym scaled_height) h)

  scaled_of_height : pos 0 <ℤ (D *ℤ K) → pos 0 <ℤ (((s *ℤ e) *ℤ D) *ℤ (s *ℤ K))
  scaled_of_height h = positive_at _ _ scaled_height (mul_pos _ _ (mul_pos _ s (mul_pos s e s_pos e_pos) s_pos) h)

  module _ (n m : ℤ) where
    scaled_gap : (n *ℤ ((s *ℤ K) *ℤ (s *ℤ K))) -ℤ (((s *ℤ R) *ℤ (s *ℤ K)) *ℤ m) ≡ (s *ℤ s) *ℤ ((n *ℤ (K *ℤ K)) -ℤ ((R *ℤ K) *ℤ m))
    scaled_gap = ring (s ∷ R ∷ K ∷ n ∷ m ∷ []) ((var 3 ⊗ ((var 0 ⊗ var 2) ⊗ (var 0 ⊗ var 2))) ⊖ (((var 0 ⊗ var 1) ⊗ (var 0 ⊗ var 2)) ⊗ var 4)) ((var 0 ⊗ var 0) ⊗ ((var 3 ⊗ (var 2 ⊗ var 2)) ⊖ ((var 1 ⊗ var 2) ⊗ var 4))) refl

    pub before_of_scaled : (((s *ℤ R) *ℤ (s *ℤ K)) *ℤ m) <ℤ (n *ℤ ((s *ℤ K) *ℤ (s *ℤ K))) → ((R *ℤ K) *ℤ m) <ℤ (n *ℤ (K *ℤ K))
    before_of_scaled h = less_by _ _ _ refl (pos_of_mul (s *ℤ s) _ square_pos (positive_at _ _ (sym scaled_gap) (gap_of_less _ _ h)))

    pub scaled_of_before : ((R *ℤ K) *ℤ m) <ℤ (n *ℤ (K *ℤ K)) → (((s *ℤ R) *ℤ (s *ℤ K)) *ℤ m) <ℤ (n *ℤ ((s *ℤ K) *ℤ (s *ℤ K)))
    scaled_of_before h = less_by _ _ _ scaled_gap (mul_pos (s *ℤ s) _ square_pos (gap_of_less _ _ h))

-- what is crossed before an inner place is crossed before the end
inner_before : (R K n m : ℤ) → pos 0 <ℤ n → n <ℤ m → ((R *ℤ K) *ℤ m) <ℤ (n *ℤ (K *ℤ K)) → (R *ℤ K) <ℤ (K *ℤ K)
inner_before R K n m after before h =
    less_by _ _ _ refl (pos_of_mul m _ (divisor n m after before) (positive_at _ _
    (ring (R ∷ K ∷ n ∷ m ∷ []) (var 3 ⊗ ((var 1 ⊗ var 1) ⊖ (var 0 ⊗ var 1))) (((var 2 ⊗ (var 1 ⊗ var 1)) ⊖ ((var 0 ⊗ var 1) ⊗ var 3)) ⊕ ((var 3 ⊖ var 2) ⊗ (var 1 ⊗ var 1))) refl)
    (sum_pos_left _ _ (gap_of_less _ _ h) (mul_nonneg _ _ (least n m before) (square_nonneg K)))))
  where
    divisor : (n m : ℤ) → pos 0 <ℤ n → n <ℤ m → pos 0 <ℤ m
    divisor n m h l = omega (arith, ints)

    least : (n m : ℤ) → n <ℤ m → pos 0 ≤ℤ (m -ℤ n)
    least n m h = omega (arith, ints)

pub less_at : (x y x' y' : ℤ) → x ≡ x' → y ≡ y' → x <ℤ y → x' <ℤ y'
less_at x y x' y' e h l = omega (arith, ints)

-- ---- the numbers of an edge and another as they are seen
module _ (d : Triple) {s : Part} (e o : Edge s) where
  denominator_is : denominator_of (on d e.a) (on d e.b) (on d o.a) (on d o.b) ≡ scale d *ℤ denominator_between d e o
  denominator_is = denominator_seen d e.a e.b o.a o.b

  numerator_is : numerator_of (on d e.a) (on d o.a) (on d o.b) ≡ scale d *ℤ numerator_between d e o
  numerator_is = numerator_seen d e.a o.a o.b

  pub product_is : numerator_of (on d e.a) (on d o.a) (on d o.b) *ℤ denominator_of (on d e.a) (on d e.b) (on d o.a) (on d o.b) ≡ (scale d *ℤ numerator_between d e o) *ℤ (scale d *ℤ denominator_between d e o)
  product_is t = numerator_is t *ℤ denominator_is t

  pub square_is : denominator_of (on d e.a) (on d e.b) (on d o.a) (on d o.b) *ℤ denominator_of (on d e.a) (on d e.b) (on d o.a) (on d o.b) ≡ (scale d *ℤ denominator_between d e o) *ℤ (scale d *ℤ denominator_between d e o)
  square_is t = denominator_is t *ℤ denominator_is t

module _ (d : Triple) (somewhere : ¬ IsZero d) {s : Part} (e o : Edge s) (k i j n m : ℤ) (near : IsNear k i j) (small : IsBelow k (turn_of (on d e.b) (on d o.a) (on d o.b)))
    (after : pos 0 <ℤ n) (before : n <ℤ m) where
  abbrev IsCrossed : Type 0
  IsCrossed = Crosses (on d e.a) (on d e.b) (on d o.a) (on d o.b) i j n m

  abbrev IsPassed : Type 0
  IsPassed = PassesNearer d e o × IsCrossedBefore d e o n m

  abbrev K : ℤ
  K = denominator_between d e o

  abbrev R : ℤ
  R = numerator_between d e o

  abbrev D : ℤ
  D = height_numerator_between e o

  height_is : depth_of (on d e.a) (on d e.b) (on d o.a) (on d o.b) ≡ (scale d *ℤ dot d d) *ℤ D
  height_is = depth_seen d e.a e.b o.a o.b

  long : pos 0 <ℤ dot d d
  long = dot_somewhere d somewhere

  passed_of_crossed : IsCrossed → IsPassed
  passed_of_crossed x =
      let crossed = before_of_scaled (scale d) (dot d d) R K D (scale_pos d) long n m (less_at _ _ _ _ (ap (λ v. v *ℤ m) (product_is d e o)) (ap (λ v. n *ℤ v) (square_is d e o)) x.before) in (
        record {
          after = start_of_scaled (scale d) (dot d d) R K D (scale_pos d) long
              (positive_at _ _ (sym (product_is d e o)) (after_start (on d e.a) (on d e.b) (on d o.a) (on d o.b) k i j refl refl near small x.after));
          before = inner_before R K n m after before crossed;
          nearer = height_of_scaled (scale d) (dot d d) R K D (scale_pos d) long (positive_at _ _ (sym (λ t. height_is t *ℤ denominator_is d e o t)) x.nearer);
        },
        crossed,
      )

  pub crossed_of_passed : IsPassed → IsCrossed
  crossed_of_passed (x, crossed) = record {
    after = after_near (on d e.a) (on d e.b) (on d o.a) (on d o.b) k i j refl refl near small
        (positive_at _ _ (product_is d e o) (scaled_of_start (scale d) (dot d d) R K D (scale_pos d) long x.after));
    before = less_at _ _ _ _ (sym (ap (λ v. v *ℤ m) (product_is d e o))) (sym (ap (λ v. n *ℤ v) (square_is d e o))) (scaled_of_before (scale d) (dot d d) R K D (scale_pos d) long n m crossed);
    nearer = positive_at _ _ (λ t. height_is t *ℤ denominator_is d e o t) (scaled_of_height (scale d) (dot d d) R K D (scale_pos d) long x.nearer);
  }

  -- what an edge changes as it is seen
  pub change_is : (c : Side) → change_of c (face_sign d o.left -ℤ face_sign d o.right) (on d e.a) (on d e.b) (on d o.a) (on d o.b) ≡ change_between c d e o
  change_is c = change_seen d c (face_sign d o.left -ℤ face_sign d o.right) e.a e.b o.a o.b

  -- what it has changed by a place
  pub changed_is : (c : Side) {z x : ℤ} → HasChanged c d e o n m z → IsTally IsCrossed x
      → z ≡ change_of c (face_sign d o.left -ℤ face_sign d o.right) (on d e.a) (on d e.b) (on d o.a) (on d o.b) *ℤ x
  changed_is c (passed p q) (yes h) = sym (change_is c) ∙ once _
    where
      once : (x : ℤ) → x ≡ x *ℤ pos 1
      once x = omega (arith, ints)
  changed_is c (passed p q) (no h) = absurd (h (crossed_of_passed (p, q)))
  changed_is c (not_passed p) (yes h) = absurd (p (passed_of_crossed h))
  changed_is c (not_passed p) (no h) = none (change_of c (face_sign d o.left -ℤ face_sign d o.right) (on d e.a) (on d e.b) (on d o.a) (on d o.b))
    where
      none : (x : ℤ) → pos 0 ≡ x *ℤ pos 0
      none x = omega (arith, ints)

  pub passes_of_crossed : IsCrossed → PassesNearer d e o
  passes_of_crossed x = (passed_of_crossed x).0
