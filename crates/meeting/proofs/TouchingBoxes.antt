-- Where an edge and a triangle touch, their boxes meet, and where boxes meet, so do their ranges along x.
use Rattle.std.proofs.Common.{◌≡◌, ℕ, ◌+◌, ◌<◌, [], ◌∷◌, refl, sym, ap, ◌∙◌, arith}
use Rattle.std.specs.Prelude.{ℤ, pos, negsuc, ◌+ℤ◌, ◌-ℤ◌, ◌*ℤ◌, ◌≤ℤ◌, ◌<ℤ◌}
use Rattle.std.specs.Int.{int_min, int_max}
use Rattle.std.proofs.lemmas.Int.{ints, clamps, by_lt_z}
use Rattle.integers.proofs.Absolutes.{natural_not_negative, natural_positive}
use Rattle.integers.proofs.Ring.{var, con, ◌⊕◌, ◌⊖◌, ◌⊗◌, ring, by_two}
use Rattle.integers.proofs.Signs.{mul_nonneg, mul_pos}
use Rattle.lattice.specs.declared.points.Corner.{Corner}
use Rattle.lattice.specs.Points.{Point}
use Rattle.geometry.specs.Faces.{edge_sum, face_sum}
use Rattle.meeting.specs.declared.range.Range.{Range}
use Rattle.meeting.specs.Touching.{Touch}
use Rattle.meeting.specs.Ranges.{RangesMeet, IsEdgeRange, IsTriangleRange}
use Rattle.meeting.specs.Boxes.{CoordinatesMeet, BoxesMeet}
use Rattle.meeting.proofs.Ranges.{coordinates-by-ends, coordinates-by-ranges}

-- ---- the ends of ranges
pub edge_low : (x y : ℤ) → (int_min x y ≤ℤ x) × (int_min x y ≤ℤ y)
edge_low x y = (omega (arith, ints, clamps), omega (arith, ints, clamps))

pub edge_high : (x y : ℤ) → (x ≤ℤ int_max x y) × (y ≤ℤ int_max x y)
edge_high x y = (omega (arith, ints, clamps), omega (arith, ints, clamps))

pub face_low : (x y z : ℤ) → (int_min (int_min x y) z ≤ℤ x) × (int_min (int_min x y) z ≤ℤ y) × (int_min (int_min x y) z ≤ℤ z)
face_low x y z = (omega (arith, ints, clamps), omega (arith, ints, clamps), omega (arith, ints, clamps))

pub face_high : (x y z : ℤ) → (x ≤ℤ int_max (int_max x y) z) × (y ≤ℤ int_max (int_max x y) z) × (z ≤ℤ int_max (int_max x y) z)
face_high x y z = (omega (arith, ints, clamps), omega (arith, ints, clamps), omega (arith, ints, clamps))

-- a gap times 1 and times -1
pub above : (x y : ℤ) → y <ℤ x → pos 0 <ℤ (pos 1 *ℤ (x -ℤ y))
above x y h = omega (arith, ints)

pub least : (x y : ℤ) → y ≤ℤ x → pos 0 ≤ℤ (pos 1 *ℤ (x -ℤ y))
least x y h = omega (arith, ints)

pub below : (x y : ℤ) → x <ℤ y → pos 0 <ℤ (negsuc 0 *ℤ (x -ℤ y))
below x y h = omega (arith, ints)

pub most : (x y : ℤ) → x ≤ℤ y → pos 0 ≤ℤ (negsuc 0 *ℤ (x -ℤ y))
most x y h = omega (arith, ints)

-- ---- equal sums with weights, along one axis
module _ (i j k l m : ℕ) (a b c p q : ℤ) (some : 0 < i + j) (weights : pos i +ℤ pos j ≡ (pos k +ℤ pos l) +ℤ pos m) (same : (pos i *ℤ p) +ℤ (pos j *ℤ q) ≡ ((pos k *ℤ a) +ℤ (pos l *ℤ b)) +ℤ (pos m *ℤ c)) where
  -- the ends are not all on one side of a gap and the corners on the other; s is 1 where the ends are above it, and -1 where they are below
  no-gap : (s near far : ℤ) → pos 0 <ℤ (s *ℤ (near -ℤ far)) → pos 0 ≤ℤ (s *ℤ (p -ℤ near)) → pos 0 ≤ℤ (s *ℤ (q -ℤ near))
      → pos 0 ≤ℤ (s *ℤ (far -ℤ a)) → pos 0 ≤ℤ (s *ℤ (far -ℤ b)) → pos 0 ≤ℤ (s *ℤ (far -ℤ c)) → ⊥
  no-gap s near far wide at_p at_q at_a at_b at_c =
      none _ _ _ _ _ _
      (mul_nonneg (pos i) _ (natural_not_negative i) at_p) (mul_nonneg (pos j) _ (natural_not_negative j) at_q)
      (mul_nonneg (pos k) _ (natural_not_negative k) at_a) (mul_nonneg (pos l) _ (natural_not_negative l) at_b) (mul_nonneg (pos m) _ (natural_not_negative m) at_c)
      (mul_pos (pos i +ℤ pos j) _ (natural_positive (i + j) some) wide) balance
    where
      none : (u v w x y z : ℤ) → pos 0 ≤ℤ u → pos 0 ≤ℤ v → pos 0 ≤ℤ w → pos 0 ≤ℤ x → pos 0 ≤ℤ y → pos 0 <ℤ z → ((((u +ℤ v) +ℤ w) +ℤ x) +ℤ y) +ℤ z ≡ pos 0 → ⊥
      none u v w x y z hu hv hw hx hy hz e = omega (arith, ints)

      balance : (((((pos i *ℤ (s *ℤ (p -ℤ near))) +ℤ (pos j *ℤ (s *ℤ (q -ℤ near)))) +ℤ (pos k *ℤ (s *ℤ (far -ℤ a)))) +ℤ (pos l *ℤ (s *ℤ (far -ℤ b)))) +ℤ (pos m *ℤ (s *ℤ (far -ℤ c)))) +ℤ ((pos i +ℤ pos j) *ℤ (s *ℤ (near -ℤ far))) ≡ pos 0
      balance =
          by_two _ _ ((pos i *ℤ p) +ℤ (pos j *ℤ q)) (((pos k *ℤ a) +ℤ (pos l *ℤ b)) +ℤ (pos m *ℤ c)) s (pos i +ℤ pos j) ((pos k +ℤ pos l) +ℤ pos m) (pos 0 -ℤ (s *ℤ far))
          (ring (pos i ∷ pos j ∷ pos k ∷ pos l ∷ pos m ∷ p ∷ q ∷ a ∷ b ∷ c ∷ s ∷ near ∷ far ∷ [])
          (((((((var 0 ⊗ (var 10 ⊗ (var 5 ⊖ var 11))) ⊕ (var 1 ⊗ (var 10 ⊗ (var 6 ⊖ var 11)))) ⊕ (var 2 ⊗ (var 10 ⊗ (var 12 ⊖ var 7)))) ⊕ (var 3 ⊗ (var 10 ⊗ (var 12 ⊖ var 8)))) ⊕ (var 4 ⊗ (var 10 ⊗ (var 12 ⊖ var 9))))
          ⊕ ((var 0 ⊕ var 1) ⊗ (var 10 ⊗ (var 11 ⊖ var 12)))) ⊖ con (pos 0))
          (((((var 0 ⊗ var 5) ⊕ (var 1 ⊗ var 6)) ⊖ (((var 2 ⊗ var 7) ⊕ (var 3 ⊗ var 8)) ⊕ (var 4 ⊗ var 9))) ⊗ var 10)
          ⊕ (((var 0 ⊕ var 1) ⊖ ((var 2 ⊕ var 3) ⊕ var 4)) ⊗ (con (pos 0) ⊖ (var 10 ⊗ var 12)))) refl) same weights

  -- the triangle reaches up to where the edge begins
  face_reaches : int_min p q ≤ℤ int_max (int_max a b) c
  face_reaches =
      let near = int_min p q in
      let far = int_max (int_max a b) c in
      let (over_p, over_q) = edge_low p q in
      let (over_a, over_b, over_c) = face_high a b c in
      by_lt_z far near
      (λ h. absurd (no-gap (pos 1) near far (above near far h) (least p near over_p) (least q near over_q) (least far a over_a) (least far b over_b) (least far c over_c)))
      (λ h. h)

  -- and down to where it ends
  edge_reaches : int_min (int_min a b) c ≤ℤ int_max p q
  edge_reaches =
      let near = int_max p q in
      let far = int_min (int_min a b) c in
      let (under_p, under_q) = edge_high p q in
      let (under_a, under_b, under_c) = face_low a b c in
      by_lt_z near far
      (λ h. absurd (no-gap (negsuc 0) near far (below near far h) (most p near under_p) (most q near under_q) (most far a under_a) (most far b under_b) (most far c under_c)))
      (λ h. h)

  coordinates-of-sums : CoordinatesMeet a b c p q
  coordinates-of-sums = coordinates-by-ends a b c p q face_reaches edge_reaches

pub boxes-of-touch : (a b c p q : Corner) → Touch a b c p q → BoxesMeet a b c p q
boxes-of-touch a b c p q t =
    let (i, j, some, e) = t.on_edge in
    let (k, l, m, some_face, f) = t.on_face in
    let same : edge_sum p q i j ≡ face_sum a b c k l m = sym e ∙ f in
    let weights = ap (λ (s : Point). s.w) same in
    record {
      x = coordinates-of-sums i j k l m a.x b.x c.x p.x q.x some weights (ap (λ (s : Point). s.x) same);
      y = coordinates-of-sums i j k l m a.y b.y c.y p.y q.y some weights (ap (λ (s : Point). s.y) same);
      z = coordinates-of-sums i j k l m a.z b.z c.z p.z q.z some weights (ap (λ (s : Point). s.z) same);
    }

-- ---- the differences of two coordinates
pub difference : (i j k l m : ℕ) (a b c p q a' b' c' p' q' : ℤ) → (pos i *ℤ p) +ℤ (pos j *ℤ q) ≡ ((pos k *ℤ a) +ℤ (pos l *ℤ b)) +ℤ (pos m *ℤ c) → (pos i *ℤ p') +ℤ (pos j *ℤ q') ≡ ((pos k *ℤ a') +ℤ (pos l *ℤ b')) +ℤ (pos m *ℤ c')
    → (pos i *ℤ (p -ℤ p')) +ℤ (pos j *ℤ (q -ℤ q')) ≡ ((pos k *ℤ (a -ℤ a')) +ℤ (pos l *ℤ (b -ℤ b'))) +ℤ (pos m *ℤ (c -ℤ c'))
difference i j k l m a b c p q a' b' c' p' q' h h' =
    by_two _ _ ((pos i *ℤ p) +ℤ (pos j *ℤ q)) (((pos k *ℤ a) +ℤ (pos l *ℤ b)) +ℤ (pos m *ℤ c)) (pos 1)
    ((pos i *ℤ p') +ℤ (pos j *ℤ q')) (((pos k *ℤ a') +ℤ (pos l *ℤ b')) +ℤ (pos m *ℤ c')) (pos 0 -ℤ pos 1)
    (ring (pos i ∷ pos j ∷ pos k ∷ pos l ∷ pos m ∷ p ∷ q ∷ a ∷ b ∷ c ∷ p' ∷ q' ∷ a' ∷ b' ∷ c' ∷ [])
    (((var 0 ⊗ (var 5 ⊖ var 10)) ⊕ (var 1 ⊗ (var 6 ⊖ var 11))) ⊖ (((var 2 ⊗ (var 7 ⊖ var 12)) ⊕ (var 3 ⊗ (var 8 ⊖ var 13))) ⊕ (var 4 ⊗ (var 9 ⊖ var 14))))
    (((((var 0 ⊗ var 5) ⊕ (var 1 ⊗ var 6)) ⊖ (((var 2 ⊗ var 7) ⊕ (var 3 ⊗ var 8)) ⊕ (var 4 ⊗ var 9))) ⊗ con (pos 1))
    ⊕ ((((var 0 ⊗ var 10) ⊕ (var 1 ⊗ var 11)) ⊖ (((var 2 ⊗ var 12) ⊕ (var 3 ⊗ var 13)) ⊕ (var 4 ⊗ var 14))) ⊗ (con (pos 0) ⊖ con (pos 1)))) refl) h h'

-- where an edge and a triangle touch, their differences of two coordinates meet too
pub record DifferencesMeet (a b c p q : Corner) : Type 0 where
  pub xy : CoordinatesMeet (a.x -ℤ a.y) (b.x -ℤ b.y) (c.x -ℤ c.y) (p.x -ℤ p.y) (q.x -ℤ q.y)
  pub yz : CoordinatesMeet (a.y -ℤ a.z) (b.y -ℤ b.z) (c.y -ℤ c.z) (p.y -ℤ p.z) (q.y -ℤ q.z)
  pub zx : CoordinatesMeet (a.z -ℤ a.x) (b.z -ℤ b.x) (c.z -ℤ c.x) (p.z -ℤ p.x) (q.z -ℤ q.x)

pub differences-of-touch : (a b c p q : Corner) → Touch a b c p q → DifferencesMeet a b c p q
differences-of-touch a b c p q t =
    let (i, j, some, e) = t.on_edge in
    let (k, l, m, some_face, f) = t.on_face in
    let same : edge_sum p q i j ≡ face_sum a b c k l m = sym e ∙ f in
    let weights = ap (λ (s : Point). s.w) same in
    let x = ap (λ (s : Point). s.x) same in
    let y = ap (λ (s : Point). s.y) same in
    let z = ap (λ (s : Point). s.z) same in
    record {
      xy = coordinates-of-sums i j k l m (a.x -ℤ a.y) (b.x -ℤ b.y) (c.x -ℤ c.y) (p.x -ℤ p.y) (q.x -ℤ q.y) some weights (difference i j k l m a.x b.x c.x p.x q.x a.y b.y c.y p.y q.y x y);
      yz = coordinates-of-sums i j k l m (a.y -ℤ a.z) (b.y -ℤ b.z) (c.y -ℤ c.z) (p.y -ℤ p.z) (q.y -ℤ q.z) some weights (difference i j k l m a.y b.y c.y p.y q.y a.z b.z c.z p.z q.z y z);
      zx = coordinates-of-sums i j k l m (a.z -ℤ a.x) (b.z -ℤ b.x) (c.z -ℤ c.x) (p.z -ℤ p.x) (q.z -ℤ q.x) some weights (difference i j k l m a.z b.z c.z p.z q.z a.x b.x c.x p.x q.x z x);
    }

pub x-of-boxes : (a b c p q : Corner) (t e : Range) → IsTriangleRange a.x b.x c.x t → IsEdgeRange p.x q.x e → BoxesMeet a b c p q → RangesMeet t e
x-of-boxes a b c p q t e triangle edge h = (coordinates-by-ranges a.x b.x c.x p.x q.x t e triangle edge).1 h.x
