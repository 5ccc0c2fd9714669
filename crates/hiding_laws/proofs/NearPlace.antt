-- Places next to an edge's first end: they are clear, no side crosses before them, and a face covers all of them or none.
use Rattle.std.proofs.Common.{◌≡◌, ◌⊎◌, inl, inr, [], ◌∷◌, refl, sym, ap, ◌∙◌, arith}
use Rattle.std.specs.Prelude.{ℤ, pos, ◌-ℤ◌, ◌*ℤ◌, ◌≤ℤ◌, ◌<ℤ◌}
use Rattle.std.proofs.lemmas.Int.{ints, by_lt_z}
use Rattle.integers.proofs.Comparisons.{positive_at, not_negative_at}
use Rattle.integers.proofs.Ring.{var, con, ◌⊖◌, ◌⊗◌, ring, less_by, mul_comm, gap_of_less}
use Rattle.integers.proofs.Signs.{mul_pos, mul_nonneg, pos_of_mul, nonneg_of_mul, zero_of_mul, square_nonneg, mul_two_neg}
use Rattle.hiding_laws.proofs.Screens.{Screen, area_of, turn_of, lead_of, Covers}
use Rattle.hiding_laws.specs.Values.{value_at}
use Rattle.hiding_laws.proofs.Places.{place_of}
use Rattle.hiding_laws.proofs.Shares.{numerator_of, denominator_of, IsClearOf, IsClear}
use Rattle.hiding_laws.proofs.CornerLaws.{IsBelow, IsNear}
use Rattle.hiding_laws.proofs.ScreenLetters.{turn}
use Rattle.hiding_laws.proofs.EdgeScreenLetters.{P, Q, A, B, flat_values, denominator, numerator}
use Rattle.hiding_laws.proofs.Linear.{turn-place}
use Rattle.hiding_laws.proofs.Signs.{weak, up, clash_neg, clash_zero, clash_both, sign_cases, neg_of_mul_neg}
use Rattle.hiding_laws.proofs.Sides.{turn-numerator}
use Rattle.hiding_laws.proofs.Faces.{covers_at, at_covers}
use Rattle.hiding_laws.proofs.OneFace.{covers_swap, turn-reverse, area-swap}
use Rattle.hiding_laws.proofs.AllCorner.{below_back, lead-swap}
use Rattle.hiding_laws.proofs.Near.{near_pos, near_neg, near_zero}

-- above 0, below 0 or 0
pub sign_three : (x : ℤ) → (pos 0 <ℤ x) ⊎ (x <ℤ pos 0) ⊎ (x ≡ pos 0)
sign_three x = by_lt_z (pos 0) x inl (λ low. by_lt_z x (pos 0) (λ r. inr (inl r)) (λ high. inr (inr (omega (arith, ints)))))

-- ---- what is linear has one sign at all near places
module _ (f g k n m n' m' : ℤ) (near : IsNear k n m) (near' : IsNear k n' m') (small : IsBelow k g) where
  pub least_near : pos 0 ≤ℤ value_at f g n m → pos 0 ≤ℤ value_at f g n' m'
  least_near h = by (sign_three f)
    where
      by : (pos 0 <ℤ f) ⊎ (f <ℤ pos 0) ⊎ (f ≡ pos 0) → pos 0 ≤ℤ value_at f g n' m'
      by (inl r) = weak _ (near_pos f g k n' m' near' r small.least)
      by (inr (inl r)) = absurd (clash_neg _ h (near_neg f g k n m near r small.most))
      by (inr (inr e)) = not_negative_at _ _ (near_zero f g k n' m' near' e) (mul_nonneg n' g (weak n' near'.after) (nonneg_of_mul n g near.after (not_negative_at _ _ (sym (near_zero f g k n m near e)) h)))

  pub some_near : pos 0 <ℤ value_at f g n m → pos 0 <ℤ value_at f g n' m'
  some_near h = by (sign_three f)
    where
      by : (pos 0 <ℤ f) ⊎ (f <ℤ pos 0) ⊎ (f ≡ pos 0) → pos 0 <ℤ value_at f g n' m'
      by (inl r) = near_pos f g k n' m' near' r small.least
      by (inr (inl r)) = absurd (clash_both _ h (near_neg f g k n m near r small.most))
      by (inr (inr e)) = positive_at _ _ (near_zero f g k n' m' near' e) (mul_pos n' g near'.after (pos_of_mul n g near.after (positive_at _ _ (sym (near_zero f g k n m near e)) h)))

-- ---- faces
-- k is above the values of a face at the edge's other end
pub record IsAbove (q a b c : Screen) (k : ℤ) : Type 0 where
  pub ab : IsBelow k (turn_of q a b)
  pub bc : IsBelow k (turn_of q b c)
  pub ca : IsBelow k (turn_of q c a)
  pub lead : IsBelow k (lead_of a b c q)

above_back : (q a b c : Screen) (k : ℤ) → q.w ≡ pos 1 → IsAbove q a b c k → IsAbove q a c b k
above_back q a b c k qw s = record {
  ab = below_back k _ _ (turn-reverse q c a) s.ca;
  bc = below_back k _ _ (turn-reverse q b c) s.bc;
  ca = below_back k _ _ (turn-reverse q a b) s.ab;
  lead = below_back k _ _ (lead-swap a b c q qw) s.lead;
}

module _ (p q : Screen) (k n m n' m' : ℤ) (pw : p.w ≡ pos 1) (qw : q.w ≡ pos 1) (near : IsNear k n m) (near' : IsNear k n' m') where
  divisor : (n m : ℤ) → pos 0 <ℤ n → n <ℤ m → pos 0 <ℤ m
  divisor n m h l = omega (arith, ints)

  front_near : (a b c : Screen) → IsAbove q a b c k → pos 0 <ℤ area_of a b c → Covers a b c (place_of p q n m) → Covers a b c (place_of p q n' m')
  front_near a b c s area_up x =
      let t = at_covers p q a b c n m pw qw (divisor n m near.after near.before) area_up x in
      covers_at p q a b c n' m' pw qw (divisor n' m' near'.after near'.before) area_up
      (least_near _ _ k n m n' m' near near' s.bc t.0) (least_near _ _ k n m n' m' near near' s.ca t.1) (least_near _ _ k n m n' m' near near' s.ab t.2)
      (some_near _ _ k n m n' m' near near' s.lead t.3)

  -- a face that is not edge-on covers a near place where it covers another
  pub covers_near : (a b c : Screen) → IsAbove q a b c k → ¬ (area_of a b c ≡ pos 0) → Covers a b c (place_of p q n m) → Covers a b c (place_of p q n' m')
  covers_near a b c s some x = by (sign_cases (area_of a b c) some)
    where
      by : (area_of a b c <ℤ pos 0) ⊎ (pos 0 <ℤ area_of a b c) → Covers a b c (place_of p q n' m')
      by (inl down) =
          covers_swap a b c (place_of p q n' m')
          (front_near a c b (above_back q a b c k qw s) (positive_at _ _ (area-swap a b c) (up _ down)) (covers_swap a c b (place_of p q n m) x))
      by (inr high) = front_near a b c s high x

-- ---- crossings
-- what climbs from f to g passes 0 after the place 0 exactly where it passes it after a near place
module _ (f g k n m : ℤ) (near : IsNear k n m) (small : IsBelow k g) where
  abbrev V : ℤ
  V = value_at f g n m

  pub passed_near : pos 0 <ℤ (f *ℤ (f -ℤ g)) → pos 0 <ℤ (V *ℤ (f -ℤ g))
  passed_near h = by (sign_three f)
    where
      by : (pos 0 <ℤ f) ⊎ (f <ℤ pos 0) ⊎ (f ≡ pos 0) → pos 0 <ℤ (V *ℤ (f -ℤ g))
      by (inl r) = mul_pos V (f -ℤ g) (near_pos f g k n m near r small.least) (pos_of_mul f (f -ℤ g) r h)
      by (inr (inl r)) = mul_two_neg V (f -ℤ g) (near_neg f g k n m near r small.most) (neg_of_mul_neg (f -ℤ g) f r (positive_at _ _ (mul_comm (f -ℤ g) f) h))
      by (inr (inr e)) = absurd (clash_zero _ h (ap (λ v. v *ℤ (f -ℤ g)) e ∙ ring (f ∷ g ∷ []) (con (pos 0) ⊗ (var 0 ⊖ var 1)) (con (pos 0)) refl))

  pub passed_start : pos 0 <ℤ (V *ℤ (f -ℤ g)) → pos 0 <ℤ (f *ℤ (f -ℤ g))
  passed_start h = by (sign_three f)
    where
      turned : V ≡ n *ℤ g → f ≡ pos 0 → V *ℤ (f -ℤ g) ≡ pos 0 -ℤ (n *ℤ (g *ℤ g))
      turned e z = (λ t. e t *ℤ (z t -ℤ g)) ∙ ring (n ∷ g ∷ []) ((var 0 ⊗ var 1) ⊗ (con (pos 0) ⊖ var 1)) (con (pos 0) ⊖ (var 0 ⊗ (var 1 ⊗ var 1))) refl

      none : (x y : ℤ) → pos 0 <ℤ x → x ≡ pos 0 -ℤ y → pos 0 ≤ℤ y → ⊥
      none x y h e l = omega (arith, ints)

      by : (pos 0 <ℤ f) ⊎ (f <ℤ pos 0) ⊎ (f ≡ pos 0) → pos 0 <ℤ (f *ℤ (f -ℤ g))
      by (inl r) = mul_pos f (f -ℤ g) r (pos_of_mul V (f -ℤ g) (near_pos f g k n m near r small.least) h)
      by (inr (inl r)) = mul_two_neg f (f -ℤ g) r (neg_of_mul_neg (f -ℤ g) V (near_neg f g k n m near r small.most) (positive_at _ _ (mul_comm (f -ℤ g) V) h))
      by (inr (inr e)) = absurd (none _ _ h (turned (near_zero f g k n m near e) e) (mul_nonneg n (g *ℤ g) (weak n near.after) (square_nonneg g)))

module _ (p q a b : Screen) (k n m : ℤ) (pw : p.w ≡ pos 1) (qw : q.w ≡ pos 1) (near : IsNear k n m) (small : IsBelow k (turn_of q a b)) where
  abbrev Start : ℤ
  Start = turn_of p a b

  abbrev Finish : ℤ
  Finish = turn_of q a b

  start_is : Start ≡ numerator_of p a b
  start_is =
      (λ t. turn_of record { u = p.u; v = p.v; h = p.h; w = pw t } a b)
      ∙ ring (flat_values p q a b a (pos 0) (pos 0)) (turn P A B) (numerator P A B) refl

  falls : Start -ℤ Finish ≡ denominator_of p q a b
  falls =
      (λ t. turn_of record { u = p.u; v = p.v; h = p.h; w = pw t } a b -ℤ turn_of record { u = q.u; v = q.v; h = q.h; w = qw t } a b)
      ∙ ring (flat_values p q a b a (pos 0) (pos 0)) (turn P A B ⊖ turn Q A B) (denominator P Q A B) refl

  abbrev R : ℤ
  R = numerator_of p a b

  abbrev K : ℤ
  K = denominator_of p q a b

  start_product : Start *ℤ (Start -ℤ Finish) ≡ R *ℤ K
  start_product = λ t. start_is t *ℤ falls t

  near_product : value_at Start Finish n m *ℤ (Start -ℤ Finish) ≡ ((R *ℤ K) *ℤ m) -ℤ (n *ℤ (K *ℤ K))
  near_product =
      (λ t. turn-numerator p q a b n m pw qw t *ℤ falls t)
      ∙ ring (R ∷ K ∷ n ∷ m ∷ []) (((var 0 ⊗ var 3) ⊖ (var 2 ⊗ var 1)) ⊗ var 1) (((var 0 ⊗ var 1) ⊗ var 3) ⊖ (var 2 ⊗ (var 1 ⊗ var 1))) refl

  -- a crossing behind a near place is one behind the edge's end, and the other way round
  pub after_near : pos 0 <ℤ (R *ℤ K) → (n *ℤ (K *ℤ K)) <ℤ ((R *ℤ K) *ℤ m)
  after_near h = less_by _ _ _ (sym near_product) (passed_near Start Finish k n m near small (positive_at _ _ start_product h))

  pub after_start : (n *ℤ (K *ℤ K)) <ℤ ((R *ℤ K) *ℤ m) → pos 0 <ℤ (R *ℤ K)
  after_start h = positive_at _ _ (sym start_product) (passed_start Start Finish k n m near small (positive_at _ _ near_product (gap_of_less _ _ h)))

  -- no side that is not along the edge has a near place
  pub clear_near : IsClearOf p q a b n m
  clear_near e sides = sym falls ∙ none Start Finish (by (sign_three Start)) (finish (by (sign_three Start)))
    where
      here : value_at Start Finish n m ≡ pos 0
      here = sym (turn-place p q a b n m pw qw) ∙ e

      by : (pos 0 <ℤ Start) ⊎ (Start <ℤ pos 0) ⊎ (Start ≡ pos 0) → Start ≡ pos 0
      by (inl r) = absurd (clash_zero _ (near_pos Start Finish k n m near r small.least) here)
      by (inr (inl r)) = absurd (below_zero _ (near_neg Start Finish k n m near r small.most) here)
        where
          below_zero : (x : ℤ) → x <ℤ pos 0 → x ≡ pos 0 → ⊥
          below_zero x h e = omega (arith, ints)
      by (inr (inr z)) = z

      finish : Start ≡ pos 0 → Finish ≡ pos 0
      finish z = zero_of_mul n Finish near.after (sym (near_zero Start Finish k n m near z) ∙ here)

      none : (x y : ℤ) → x ≡ pos 0 → y ≡ pos 0 → x -ℤ y ≡ pos 0
      none x y e h = omega (arith, ints)

pub clear_face_near : (p q a b c : Screen) (k n m : ℤ) → p.w ≡ pos 1 → q.w ≡ pos 1 → IsNear k n m → IsAbove q a b c k → IsClear p q a b c n m
clear_face_near p q a b c k n m pw qw near s = record {
  after = near.after;
  before = near.before;
  ab = clear_near p q a b k n m pw qw near s.ab;
  bc = clear_near p q b c k n m pw qw near s.bc;
  ca = clear_near p q c a k n m pw qw near s.ca;
}
