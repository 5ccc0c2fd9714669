-- A face's border counts at a point exactly where the face's corners say so, and at two points alike, but for the sides that cross the plane to the right of the way between them.
use Rattle.std.proofs.Common.{◌≡◌, ℕ, zero, suc, ◌+◌, ◌<◌, Bool, true, false, refl, sym, subst, ap, ◌∙◌, arith, unsigned_abs, inl, inr}
use Rattle.std.specs.Prelude.{ℤ, pos, ◌+ℤ◌, ◌*ℤ◌, ◌<ℤ◌, ◌≤ℤ◌, ◌⊎◌}
use Rattle.std.specs.Bool.{Decides}
use Rattle.std.specs.Int.Signed.{lt_z}
use Rattle.std.proofs.lemmas.Bool.{false≢true}
use Rattle.std.proofs.lemmas.Int.{ints}
use Rattle.integers.proofs.Absolutes.{natural_not_negative}
use Rattle.integers.proofs.Comparisons.{not_negative_of_positive, not_positive_of_negative, positive_not_zero}
use Rattle.integers.proofs.Signs.{mul_nonneg, mul_pos, mul_neg}
use Rattle.lattice.specs.declared.points.Corner.{Corner}
use Rattle.lattice.specs.Points.{Point, IsPoint, point_of}
use Rattle.lattice.specs.Cuts.{Plane, toward_of, IsBeyond, IsOnPlane, IsBeforePlane}
use Rattle.geometry.specs.Faces.{face_sum, IsPointOfFace}
use Rattle.geometry.specs.Parts.{Part, Face}
use Rattle.geometry.specs.Cuts.{over_of, IsLeftOfBorder}
use Rattle.geometry.proofs.Borders.{face_rise, rise_on, over_beyond, over_before, side_of_corner}
use Rattle.geometry.proofs.FacePoints.{face_point-round}
use Rattle.geometry.proofs.Shares.{edge_turned}
use Rattle.cut_plane.proofs.Sights.{Sight, sight_of, crossing_sight, counts_at, is_before, left_of_border, left_by, beside_way, if_apart, crosses_beside}
use Rattle.cut_plane.proofs.Tested.{less_of}
use Rattle.cut_plane.proofs.Xors.{xor, xor-none, xor-comm}
use Rattle.cut_plane.proofs.Lies.{up_down, balanced}
use Rattle.cut_plane.proofs.Planes.{IsClearOf, counts_of_beside, beside_of_counts, lie_of}
use Rattle.cut_plane.proofs.LoneCorners.{IsAlone, before, beyond, beside_of_left, left_of_beside}

-- ---- the corners in another order
pub crossing_turned : (c : Plane) (k l : Corner) → crossing_sight c k l ≡ crossing_sight c l k
crossing_turned c k l = ap (sight_of (toward_of c)) (edge_turned k l (unsigned_abs (over_of c l)) (unsigned_abs (over_of c k)))

-- ---- the sides of the plane
module _ (c : Plane) (k : Corner) where
  pub beyond_of : is_before c k ≡ false → over_of c k <ℤ pos 0
  beyond_of e = by (side_of_corner c k)
    where
      clash : (x : ℤ) → lt_z (pos 0) x ≡ false → pos 0 <ℤ x → ⊥
      clash x e h = omega (arith, ints)

      by : IsBeyond c (point_of k) ⊎ IsBeforePlane c (point_of k) → over_of c k <ℤ pos 0
      by (inl h) = over_beyond c k h
      by (inr h) = absurd (clash (over_of c k) e (over_before c k h))

  pub before_of : is_before c k ≡ true → pos 0 <ℤ over_of c k
  before_of e = less_of (pos 0) (over_of c k) e

-- no sum of three corners on one side of the plane is on it
sum_up : (i j n : ℕ) (x y z : ℤ) → 0 < i + j + n → pos 0 <ℤ x → pos 0 <ℤ y → pos 0 <ℤ z → pos 0 <ℤ (((pos i *ℤ x) +ℤ (pos j *ℤ y)) +ℤ (pos n *ℤ z))
sum_up zero zero zero x y z some p q r = absurd (omega arith)
sum_up (suc i) j n x y z some p q r = go _ _ _ (mul_pos (pos (suc i)) x (omega (arith, ints)) p) (mul_nonneg (pos j) y (natural_not_negative j) (not_negative_of_positive _ q)) (mul_nonneg (pos n) z (natural_not_negative n) (not_negative_of_positive _ r))
  where
    go : (a b c : ℤ) → pos 0 <ℤ a → pos 0 ≤ℤ b → pos 0 ≤ℤ c → pos 0 <ℤ ((a +ℤ b) +ℤ c)
    go a b c p q r = omega (arith, ints)
sum_up zero (suc j) n x y z some p q r = go _ _ _ (mul_nonneg (pos zero) x (natural_not_negative zero) (not_negative_of_positive _ p)) (mul_pos (pos (suc j)) y (omega (arith, ints)) q) (mul_nonneg (pos n) z (natural_not_negative n) (not_negative_of_positive _ r))
  where
    go : (a b c : ℤ) → pos 0 ≤ℤ a → pos 0 <ℤ b → pos 0 ≤ℤ c → pos 0 <ℤ ((a +ℤ b) +ℤ c)
    go a b c p q r = omega (arith, ints)
sum_up zero zero (suc n) x y z some p q r = go _ _ _ (mul_nonneg (pos zero) x (natural_not_negative zero) (not_negative_of_positive _ p)) (mul_nonneg (pos zero) y (natural_not_negative zero) (not_negative_of_positive _ q)) (mul_pos (pos (suc n)) z (omega (arith, ints)) r)
  where
    go : (a b c : ℤ) → pos 0 ≤ℤ a → pos 0 ≤ℤ b → pos 0 <ℤ c → pos 0 <ℤ ((a +ℤ b) +ℤ c)
    go a b c p q r = omega (arith, ints)

sum_down : (i j n : ℕ) (x y z : ℤ) → 0 < i + j + n → x <ℤ pos 0 → y <ℤ pos 0 → z <ℤ pos 0 → (((pos i *ℤ x) +ℤ (pos j *ℤ y)) +ℤ (pos n *ℤ z)) <ℤ pos 0
sum_down zero zero zero x y z some p q r = absurd (omega arith)
sum_down (suc i) j n x y z some p q r = go _ _ _ (mul_neg (pos (suc i)) x (omega (arith, ints)) p) (up_down (pos j) y (natural_not_negative j) (not_positive_of_negative _ q)) (up_down (pos n) z (natural_not_negative n) (not_positive_of_negative _ r))
  where
    go : (a b c : ℤ) → a <ℤ pos 0 → b ≤ℤ pos 0 → c ≤ℤ pos 0 → ((a +ℤ b) +ℤ c) <ℤ pos 0
    go a b c p q r = omega (arith, ints)
sum_down zero (suc j) n x y z some p q r = go _ _ _ (up_down (pos zero) x (natural_not_negative zero) (not_positive_of_negative _ p)) (mul_neg (pos (suc j)) y (omega (arith, ints)) q) (up_down (pos n) z (natural_not_negative n) (not_positive_of_negative _ r))
  where
    go : (a b c : ℤ) → a ≤ℤ pos 0 → b <ℤ pos 0 → c ≤ℤ pos 0 → ((a +ℤ b) +ℤ c) <ℤ pos 0
    go a b c p q r = omega (arith, ints)
sum_down zero zero (suc n) x y z some p q r = go _ _ _ (up_down (pos zero) x (natural_not_negative zero) (not_positive_of_negative _ p)) (up_down (pos zero) y (natural_not_negative zero) (not_positive_of_negative _ q)) (mul_neg (pos (suc n)) z (omega (arith, ints)) r)
  where
    go : (a b c : ℤ) → a ≤ℤ pos 0 → b ≤ℤ pos 0 → c <ℤ pos 0 → ((a +ℤ b) +ℤ c) <ℤ pos 0
    go a b c p q r = omega (arith, ints)

not_zero_down : (x : ℤ) → x ≡ pos 0 → x <ℤ pos 0 → ⊥
not_zero_down x e h = omega (arith, ints)

module _ (c : Plane) (a b k : Corner) (r : Point) (there : IsPointOfFace a b k r) (on : IsOnPlane c r) where
  over_sum : (i : ℕ) × (j : ℕ) × (n : ℕ) × (0 < i + j + n) × (((pos i *ℤ over_of c a) +ℤ (pos j *ℤ over_of c b)) +ℤ (pos n *ℤ over_of c k) ≡ pos 0)
  over_sum =
      let (i, j, n, some, is) = there in
      (i, j, n, some, sym (face_rise c a b k i j n) ∙ rise_on c (face_sum a b k i j n) (subst (IsOnPlane c) is on))

  pub not_all_before : pos 0 <ℤ over_of c a → pos 0 <ℤ over_of c b → pos 0 <ℤ over_of c k → ⊥
  not_all_before p q t =
      let (i, j, n, some, e) = over_sum in
      positive_not_zero _ (sum_up i j n (over_of c a) (over_of c b) (over_of c k) some p q t) e

  pub not_all_beyond : over_of c a <ℤ pos 0 → over_of c b <ℤ pos 0 → over_of c k <ℤ pos 0 → ⊥
  not_all_beyond p q t =
      let (i, j, n, some, e) = over_sum in
      not_zero_down _ e (sum_down i j n (over_of c a) (over_of c b) (over_of c k) some p q t)

-- ---- the border to the right of a point
module _ (c : Plane) {s : Part} (f : Face s) (p : Point) (there : IsPoint p) where
  abbrev P : Sight
  P = sight_of (toward_of c) p

  -- where a corner of the face is alone on its side
  alone_decides : (k l m : Corner) → IsAlone c k l m → ((r : Point) → IsPointOfFace f.a f.b f.c r → IsPointOfFace k l m r) → ((r : Point) → IsPointOfFace k l m r → IsPointOfFace f.a f.b f.c r)
      → Decides (counts_at (crossing_sight c k l) (crossing_sight c m k) P) (IsLeftOfBorder c f p)
  alone_decides k l m alone of_face on_face = (
    (λ e. left_of_beside c k l m alone p f of_face on_face (beside_of_counts (crossing_sight c k l) (crossing_sight c k m) P there (sym turned ∙ e))),
    (λ left. turned ∙ counts_of_beside (crossing_sight c k l) (crossing_sight c k m) P there (beside_of_left c k l m alone p f of_face on_face left)),
  )
    where
      turned : counts_at (crossing_sight c k l) (crossing_sight c m k) P ≡ counts_at (crossing_sight c k l) (crossing_sight c k m) P
      turned = ap (λ x. counts_at (crossing_sight c k l) x P) (crossing_turned c m k)

  first_alone : IsAlone c f.a f.b f.c → Decides (counts_at (crossing_sight c f.a f.b) (crossing_sight c f.c f.a) P) (IsLeftOfBorder c f p)
  first_alone alone = alone_decides f.a f.b f.c alone (λ r h. h) (λ r h. h)

  second_alone : IsAlone c f.b f.c f.a → Decides (counts_at (crossing_sight c f.b f.c) (crossing_sight c f.a f.b) P) (IsLeftOfBorder c f p)
  second_alone alone = alone_decides f.b f.c f.a alone (face_point-round f.a f.b f.c) (λ r h. face_point-round f.c f.a f.b r (face_point-round f.b f.c f.a r h))

  third_alone : IsAlone c f.c f.a f.b → Decides (counts_at (crossing_sight c f.c f.a) (crossing_sight c f.b f.c) P) (IsLeftOfBorder c f p)
  third_alone alone = alone_decides f.c f.a f.b alone (λ r h. face_point-round f.b f.c f.a r (face_point-round f.a f.b f.c r h)) (face_point-round f.c f.a f.b)

  never : ¬ IsLeftOfBorder c f p → Decides false (IsLeftOfBorder c f p)
  never none = ((λ e. absurd (false≢true e)), (λ left. absurd (none left)))

  pub left_decides : Decides (left_of_border c f.a f.b f.c P) (IsLeftOfBorder c f p)
  left_decides = by (is_before c f.a) (is_before c f.b) (is_before c f.c) refl refl refl
    where
      by : (u v w : Bool) → is_before c f.a ≡ u → is_before c f.b ≡ v → is_before c f.c ≡ w
          → Decides (left_by u v w (crossing_sight c f.a f.b) (crossing_sight c f.b f.c) (crossing_sight c f.c f.a) P) (IsLeftOfBorder c f p)
      by false false false e g h =
          never (λ left. not_all_beyond c f.a f.b f.c left.right left.right_on.0 left.right_on.1 (beyond_of c f.a e) (beyond_of c f.b g) (beyond_of c f.c h))
      by true true true e g h =
          never (λ left. not_all_before c f.a f.b f.c left.right left.right_on.0 left.right_on.1 (before_of c f.a e) (before_of c f.b g) (before_of c f.c h))
      by true false false e g h = first_alone (before (before_of c f.a e) (beyond_of c f.b g) (beyond_of c f.c h))
      by false true true e g h = first_alone (beyond (beyond_of c f.a e) (before_of c f.b g) (before_of c f.c h))
      by false true false e g h = second_alone (before (before_of c f.b g) (beyond_of c f.c h) (beyond_of c f.a e))
      by true false true e g h = second_alone (beyond (beyond_of c f.b g) (before_of c f.c h) (before_of c f.a e))
      by false false true e g h = third_alone (before (before_of c f.c h) (beyond_of c f.a e) (beyond_of c f.b g))
      by true true false e g h = third_alone (beyond (beyond_of c f.c h) (before_of c f.a e) (before_of c f.b g))

-- ---- at two points
pub in_first : (n x y : Bool) → xor n (xor x y) ≡ false → xor n (xor (xor x false) y) ≡ false
in_first n x y e = ap (λ z. xor n (xor z y)) (xor-none x) ∙ e

pub in_second : (n x y : Bool) → xor n (xor x y) ≡ false → xor n (xor (xor y x) false) ≡ false
in_second n x y e = ap (xor n) (xor-none (xor y x) ∙ xor-comm y x) ∙ e

pub in_third : (n x y : Bool) → xor n (xor x y) ≡ false → xor n (xor y x) ≡ false
in_third n x y e = ap (xor n) (xor-comm y x) ∙ e

-- the border, if there is one, does not cross the way from p to q
pub record IsFaceClear (c : Plane) (a b k : Corner) (p q : Sight) : Type 0 where
  pub first : IsAlone c a b k → IsClearOf (crossing_sight c a b) (crossing_sight c k a) p q
  pub second : IsAlone c b k a → IsClearOf (crossing_sight c b k) (crossing_sight c a b) p q
  pub third : IsAlone c k a b → IsClearOf (crossing_sight c k a) (crossing_sight c b k) p q

module _ (c : Plane) (a b k : Corner) (p q : Sight) (p_there : pos 0 <ℤ p.w) (q_there : pos 0 <ℤ q.w) where
  some_weight : (x y : ℤ) → pos 0 <ℤ x → pos 0 <ℤ pos (unsigned_abs y + unsigned_abs x)
  some_weight x y h = omega (arith, ints)

  some_weight_back : (x y : ℤ) → x <ℤ pos 0 → pos 0 <ℤ pos (unsigned_abs y + unsigned_abs x)
  some_weight_back x y h = omega (arith, ints)

  other_weight : (x y : ℤ) → pos 0 <ℤ y → pos 0 <ℤ pos (unsigned_abs y + unsigned_abs x)
  other_weight x y h = omega (arith, ints)

  other_weight_back : (x y : ℤ) → y <ℤ pos 0 → pos 0 <ℤ pos (unsigned_abs y + unsigned_abs x)
  other_weight_back x y h = omega (arith, ints)

  -- of the corner alone, its two sides
  alone_balanced : (k l m : Corner) → IsAlone c k l m → IsClearOf (crossing_sight c k l) (crossing_sight c m k) p q
      → xor (xor (counts_at (crossing_sight c k l) (crossing_sight c m k) p) (counts_at (crossing_sight c k l) (crossing_sight c m k) q))
      (xor (beside_way p q (crossing_sight c k l)) (beside_way p q (crossing_sight c m k))) ≡ false
  alone_balanced k l m alone clear = by alone
    where
      with : pos 0 <ℤ (crossing_sight c k l).w → pos 0 <ℤ (crossing_sight c m k).w
          → xor (xor (counts_at (crossing_sight c k l) (crossing_sight c m k) p) (counts_at (crossing_sight c k l) (crossing_sight c m k) q))
          (xor (beside_way p q (crossing_sight c k l)) (beside_way p q (crossing_sight c m k))) ≡ false
      with h g = balanced (lie_of (crossing_sight c k l) (crossing_sight c m k) p q h g p_there q_there clear)

      by : IsAlone c k l m
          → xor (xor (counts_at (crossing_sight c k l) (crossing_sight c m k) p) (counts_at (crossing_sight c k l) (crossing_sight c m k) q))
          (xor (beside_way p q (crossing_sight c k l)) (beside_way p q (crossing_sight c m k))) ≡ false
      by (before u v w) = with (some_weight (over_of c k) (over_of c l) u) (other_weight (over_of c m) (over_of c k) u)
      by (beyond u v w) = with (some_weight_back (over_of c k) (over_of c l) u) (other_weight_back (over_of c m) (over_of c k) u)

  -- the border counts at both points or at neither, but for the sides that cross the plane to the right of the way
  abbrev Sides : Bool → Bool → Bool → Bool
  Sides u v w = xor (xor (if_apart u v (beside_way p q (crossing_sight c a b))) (if_apart v w (beside_way p q (crossing_sight c b k)))) (if_apart w u (beside_way p q (crossing_sight c k a)))

  abbrev AB : Bool
  AB = beside_way p q (crossing_sight c a b)

  abbrev BK : Bool
  BK = beside_way p q (crossing_sight c b k)

  abbrev KA : Bool
  KA = beside_way p q (crossing_sight c k a)

  abbrev Borders : Bool → Bool → Bool → Bool
  Borders u v w = xor (left_by u v w (crossing_sight c a b) (crossing_sight c b k) (crossing_sight c k a) p) (left_by u v w (crossing_sight c a b) (crossing_sight c b k) (crossing_sight c k a) q)

  pub face_balanced : IsFaceClear c a b k p q
      → xor (xor (left_of_border c a b k p) (left_of_border c a b k q)) (xor (xor (crosses_beside c a b p q) (crosses_beside c b k p q)) (crosses_beside c k a p q)) ≡ false
  face_balanced clear = by (is_before c a) (is_before c b) (is_before c k) refl refl refl
    where
      by : (u v w : Bool) → is_before c a ≡ u → is_before c b ≡ v → is_before c k ≡ w → xor (Borders u v w) (Sides u v w) ≡ false
      by false false false e g h = refl
      by true true true e g h = refl
      by true false false e g h = in_first (Borders true false false) AB KA (let alone = before (before_of c a e) (beyond_of c b g) (beyond_of c k h) in alone_balanced a b k alone (clear.first alone))
      by false true true e g h = in_first (Borders false true true) AB KA (let alone = beyond (beyond_of c a e) (before_of c b g) (before_of c k h) in alone_balanced a b k alone (clear.first alone))
      by false true false e g h = in_second (Borders false true false) BK AB (let alone = before (before_of c b g) (beyond_of c k h) (beyond_of c a e) in alone_balanced b k a alone (clear.second alone))
      by true false true e g h = in_second (Borders true false true) BK AB (let alone = beyond (beyond_of c b g) (before_of c k h) (before_of c a e) in alone_balanced b k a alone (clear.second alone))
      by false false true e g h = in_third (Borders false false true) KA BK (let alone = before (before_of c k h) (beyond_of c a e) (beyond_of c b g) in alone_balanced k a b alone (clear.third alone))
      by true true false e g h = in_third (Borders true true false) KA BK (let alone = beyond (beyond_of c k h) (before_of c a e) (before_of c b g) in alone_balanced k a b alone (clear.third alone))
