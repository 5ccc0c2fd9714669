-- The points of a face on the plane are the sums of the two ends of its border.
use Rattle.std.proofs.Common.{◌≡◌, ℕ, zero, suc, ◌+◌, ◌*◌, ◌<◌, [], ◌∷◌, refl, sym, subst, ◌∙◌, unsigned_abs, arith}
use Rattle.std.specs.Prelude.{ℤ, pos, ◌+ℤ◌, ◌-ℤ◌, ◌*ℤ◌, ◌<ℤ◌}
use Rattle.std.proofs.lemmas.Int.{ints}
use Rattle.integers.proofs.Absolutes.{abs_of_positive, pos-sum, some_abs_of_positive, some_abs_of_negative, pos-sum_of_three, abs_of_negative, pos-sum_of_products, pos-product}
use Rattle.integers.proofs.Ring.{var, con, ◌⊕◌, ◌⊖◌, ◌⊗◌, ring, by_one, by_two}
use Rattle.lattice.specs.declared.points.Corner.{Corner}
use Rattle.lattice.specs.Points.{Point, point_of, height_of}
use Rattle.lattice.specs.Cuts.{Plane, toward_of, plane_height, IsOnPlane}
use Rattle.lattice.proofs.OnLines.{weighted_sum, product_of_sum}
use Rattle.geometry.specs.Faces.{face_sum, IsPointOfFace}
use Rattle.geometry.specs.Parts.{Part, Face}
use Rattle.geometry.specs.Cuts.{over_of, GoesBeyond, crossing_of, start_corner, end_corner, IsBorderOf}
use Rattle.geometry.proofs.Shares.{edge_turned}
use Rattle.geometry.proofs.Borders.{face_rise, rise_on, over_beyond, over_before, not_both_sides, crossing_on_plane}
use Rattle.geometry.proofs.FacePoints.{face_point-turned}

-- a positive multiple of r is a sum of p and q with whole weights that are not both 0
pub record IsMixOf (p q r : Point) : Type 0 where
  pub i : ℕ
  pub j : ℕ
  pub k : ℤ
  pub some : 0 < i + j
  pub positive : pos 0 <ℤ k
  pub x : (pos i *ℤ p.x) +ℤ (pos j *ℤ q.x) ≡ k *ℤ r.x
  pub y : (pos i *ℤ p.y) +ℤ (pos j *ℤ q.y) ≡ k *ℤ r.y
  pub z : (pos i *ℤ p.z) +ℤ (pos j *ℤ q.z) ≡ k *ℤ r.z
  pub w : (pos i *ℤ p.w) +ℤ (pos j *ℤ q.w) ≡ k *ℤ r.w

-- the points of the triangle of k, l and m on the plane are the sums of p and q
pub record AreEnds (c : Plane) (k l m : Corner) (p q : Point) : Type 0 where
  pub within : (r : Point) → IsPointOfFace k l m r → IsOnPlane c r → IsMixOf p q r
  pub on_face : (i j : ℕ) → 0 < i + j → IsPointOfFace k l m (weighted_sum (pos i) p (pos j) q)
  pub on_plane : (i j : ℕ) → IsOnPlane c (weighted_sum (pos i) p (pos j) q)

-- ---- sums of points on the plane
on_plane_of_sum : (c : Plane) (i j : ℤ) (p q : Point) → IsOnPlane c p → IsOnPlane c q → IsOnPlane c (weighted_sum i p j q)
on_plane_of_sum c i j p q first second =
    (λ t. pos 2 *ℤ product_of_sum (toward_of c) i j p q t)
    ∙ by_two _ _ (pos 2 *ℤ height_of (toward_of c) p) (plane_height c *ℤ p.w) i (pos 2 *ℤ height_of (toward_of c) q) (plane_height c *ℤ q.w) j
    (ring (i ∷ j ∷ height_of (toward_of c) p ∷ height_of (toward_of c) q ∷ plane_height c ∷ p.w ∷ q.w ∷ [])
    ((con (pos 2) ⊗ ((var 0 ⊗ var 2) ⊕ (var 1 ⊗ var 3))) ⊖ (var 4 ⊗ ((var 0 ⊗ var 5) ⊕ (var 1 ⊗ var 6))))
    ((((con (pos 2) ⊗ var 2) ⊖ (var 4 ⊗ var 5)) ⊗ var 0) ⊕ (((con (pos 2) ⊗ var 3) ⊖ (var 4 ⊗ var 6)) ⊗ var 1)) refl) first second

-- ---- one corner on one side, two on the other
abbrev size : Plane → Corner → ℕ
size c k = unsigned_abs (over_of c k)

module _ (c : Plane) (k l m : Corner) (far : 0 < size c k)
    (balance : (i j n : ℕ) → IsOnPlane c (face_sum k l m i j n) → pos i *ℤ pos (size c k) ≡ (pos j *ℤ pos (size c l)) +ℤ (pos n *ℤ pos (size c m))) where
  within_ends : (r : Point) → IsPointOfFace k l m r → IsOnPlane c r → IsMixOf (crossing_of c k l) (crossing_of c k m) r
  within_ends r (i, j, n, some, is) on =
      let e = balance i j n (subst (IsOnPlane c) is on) in
      let Mix : Point → Type 0 = λ q. IsMixOf (crossing_of c k l) (crossing_of c k m) q in
      subst Mix (sym is) (record {
        i = j;
        j = n;
        k = pos (size c k);
        some = weights i j n (size c k) (size c l) (size c m) far some e;
        positive = positive (size c k) far;
        x = coordinate i j n k.x l.x m.x e;
        y = coordinate i j n k.y l.y m.y e;
        z = coordinate i j n k.z l.z m.z e;
        w = (λ t. (pos j *ℤ pos-sum (size c l) (size c k) t) +ℤ (pos n *ℤ pos-sum (size c m) (size c k) t))
            ∙ divisor (pos i) (pos j) (pos n) (pos (size c k)) (pos (size c l)) (pos (size c m)) e
            ∙ (λ t. pos (size c k) *ℤ sym (pos-sum_of_three i j n) t);
      })
    where
      positive : (x : ℕ) → 0 < x → pos 0 <ℤ pos x
      positive x h = omega (arith, ints)

      weights : (i j n x y z : ℕ) → 0 < x → 0 < i + j + n → pos i *ℤ pos x ≡ (pos j *ℤ pos y) +ℤ (pos n *ℤ pos z) → 0 < j + n
      weights zero zero zero x y z h some e = absurd (omega arith)
      weights (suc i) zero zero x y z h some e = absurd (none i x y z h (pos-product (suc i) x ∙ e ∙ nothing (pos y) (pos z)))
        where
          nothing : (y z : ℤ) → (pos 0 *ℤ y) +ℤ (pos 0 *ℤ z) ≡ pos 0
          nothing y z = ring (y ∷ z ∷ []) ((con (pos 0) ⊗ var 0) ⊕ (con (pos 0) ⊗ var 1)) (con (pos 0)) refl

          none : (i x y z : ℕ) → 0 < x → pos (suc i * x) ≡ pos 0 → ⊥
          none i zero y z h e = omega arith
          none i (suc x) y z h e = omega (arith, ints, e)
      weights i (suc j) n x y z h some e = omega arith
      weights i zero (suc n) x y z h some e = omega arith

      coordinate : (i j n : ℕ) (a b d : ℤ) → pos i *ℤ pos (size c k) ≡ (pos j *ℤ pos (size c l)) +ℤ (pos n *ℤ pos (size c m))
          → (pos j *ℤ ((pos (size c l) *ℤ a) +ℤ (pos (size c k) *ℤ b))) +ℤ (pos n *ℤ ((pos (size c m) *ℤ a) +ℤ (pos (size c k) *ℤ d))) ≡ pos (size c k) *ℤ (((pos i *ℤ a) +ℤ (pos j *ℤ b)) +ℤ (pos n *ℤ d))
      coordinate i j n a b d e =
          by_one _ _ (pos i *ℤ pos (size c k)) ((pos j *ℤ pos (size c l)) +ℤ (pos n *ℤ pos (size c m))) (pos 0 -ℤ a)
          (ring (pos i ∷ pos j ∷ pos n ∷ a ∷ b ∷ d ∷ pos (size c k) ∷ pos (size c l) ∷ pos (size c m) ∷ [])
          (((var 1 ⊗ ((var 7 ⊗ var 3) ⊕ (var 6 ⊗ var 4))) ⊕ (var 2 ⊗ ((var 8 ⊗ var 3) ⊕ (var 6 ⊗ var 5)))) ⊖ (var 6 ⊗ (((var 0 ⊗ var 3) ⊕ (var 1 ⊗ var 4)) ⊕ (var 2 ⊗ var 5))))
          (((var 0 ⊗ var 6) ⊖ ((var 1 ⊗ var 7) ⊕ (var 2 ⊗ var 8))) ⊗ (con (pos 0) ⊖ var 3)) refl) e

      divisor : (i j n x y z : ℤ) → i *ℤ x ≡ (j *ℤ y) +ℤ (n *ℤ z) → (j *ℤ (y +ℤ x)) +ℤ (n *ℤ (z +ℤ x)) ≡ x *ℤ ((i +ℤ j) +ℤ n)
      divisor i j n x y z e =
          by_one _ _ (i *ℤ x) ((j *ℤ y) +ℤ (n *ℤ z)) (pos 0 -ℤ pos 1)
          (ring (i ∷ j ∷ n ∷ x ∷ y ∷ z ∷ [])
          (((var 1 ⊗ (var 4 ⊕ var 3)) ⊕ (var 2 ⊗ (var 5 ⊕ var 3))) ⊖ (var 3 ⊗ ((var 0 ⊕ var 1) ⊕ var 2)))
          (((var 0 ⊗ var 3) ⊖ ((var 1 ⊗ var 4) ⊕ (var 2 ⊗ var 5))) ⊗ (con (pos 0) ⊖ con (pos 1))) refl) e

  sum_on_face : (i j : ℕ) → 0 < i + j → IsPointOfFace k l m (weighted_sum (pos i) (crossing_of c k l) (pos j) (crossing_of c k m))
  sum_on_face i j some = (
    i * size c l + j * size c m,
    i * size c k,
    j * size c k,
    weights i j (size c k) (size c l) (size c m) far some,
    λ t. record {
      x = coordinate k.x l.x m.x t;
      y = coordinate k.y l.y m.y t;
      z = coordinate k.z l.z m.z t;
      w = divisor t;
    },
  )
    where
      product_some : (i x : ℕ) → 0 < i → 0 < x → 0 < i * x
      product_some zero x h g = absurd (omega arith)
      product_some (suc i) zero h g = absurd (omega arith)
      product_some (suc i) (suc x) h g = omega arith

      weights : (i j x y z : ℕ) → 0 < x → 0 < i + j → 0 < i * y + j * z + i * x + j * x
      weights zero zero x y z h some = absurd (omega arith)
      weights (suc i) j x y z h some = let g = product_some (suc i) x (omega arith) h in omega arith
      weights zero (suc j) x y z h some = let g = product_some (suc j) x (omega arith) h in omega arith

      coordinate : (a b d : ℤ) → (pos i *ℤ ((pos (size c l) *ℤ a) +ℤ (pos (size c k) *ℤ b))) +ℤ (pos j *ℤ ((pos (size c m) *ℤ a) +ℤ (pos (size c k) *ℤ d)))
          ≡ ((pos (i * size c l + j * size c m) *ℤ a) +ℤ (pos (i * size c k) *ℤ b)) +ℤ (pos (j * size c k) *ℤ d)
      coordinate a b d =
          ring (pos i ∷ pos j ∷ a ∷ b ∷ d ∷ pos (size c k) ∷ pos (size c l) ∷ pos (size c m) ∷ [])
          ((var 0 ⊗ ((var 6 ⊗ var 2) ⊕ (var 5 ⊗ var 3))) ⊕ (var 1 ⊗ ((var 7 ⊗ var 2) ⊕ (var 5 ⊗ var 4))))
          (((((var 0 ⊗ var 6) ⊕ (var 1 ⊗ var 7)) ⊗ var 2) ⊕ ((var 0 ⊗ var 5) ⊗ var 3)) ⊕ ((var 1 ⊗ var 5) ⊗ var 4)) refl
          ∙ (λ t. ((sym (pos-sum_of_products i (size c l) j (size c m)) t *ℤ a) +ℤ (sym (pos-product i (size c k)) t *ℤ b)) +ℤ (sym (pos-product j (size c k)) t *ℤ d))

      divisor : (pos i *ℤ pos (size c l + size c k)) +ℤ (pos j *ℤ pos (size c m + size c k)) ≡ pos (i * size c l + j * size c m + i * size c k + j * size c k)
      divisor =
          (λ t. (pos i *ℤ pos-sum (size c l) (size c k) t) +ℤ (pos j *ℤ pos-sum (size c m) (size c k) t))
          ∙ ring (pos i ∷ pos j ∷ pos (size c k) ∷ pos (size c l) ∷ pos (size c m) ∷ [])
          ((var 0 ⊗ (var 3 ⊕ var 2)) ⊕ (var 1 ⊗ (var 4 ⊕ var 2)))
          ((((var 0 ⊗ var 3) ⊕ (var 1 ⊗ var 4)) ⊕ (var 0 ⊗ var 2)) ⊕ (var 1 ⊗ var 2)) refl
          ∙ (λ t. (sym (pos-sum_of_products i (size c l) j (size c m)) t +ℤ sym (pos-product i (size c k)) t) +ℤ sym (pos-product j (size c k)) t)
          ∙ sym (pos-sum_of_three (i * size c l + j * size c m) (i * size c k) (j * size c k))

  -- the two crossings are the ends
  lone_ends : IsOnPlane c (crossing_of c k l) → IsOnPlane c (crossing_of c k m) → AreEnds c k l m (crossing_of c k l) (crossing_of c k m)
  lone_ends first second = record {
    within = within_ends;
    on_face = sum_on_face;
    on_plane = λ i j. on_plane_of_sum c (pos i) (pos j) (crossing_of c k l) (crossing_of c k m) first second;
  }

-- ---- the order of the corners
turned : (x y z : ℤ) → (y +ℤ z) +ℤ x ≡ (x +ℤ y) +ℤ z
turned x y z = omega (arith, ints)

round : (k l m : Corner) (p : Point) → IsPointOfFace l m k p → IsPointOfFace k l m p
round k l m p (j, n, i, some, is) = (
  i,
  j,
  n,
  omega arith,
  is ∙ (λ t. record {
    x = turned (pos i *ℤ k.x) (pos j *ℤ l.x) (pos n *ℤ m.x) t;
    y = turned (pos i *ℤ k.y) (pos j *ℤ l.y) (pos n *ℤ m.y) t;
    z = turned (pos i *ℤ k.z) (pos j *ℤ l.z) (pos n *ℤ m.z) t;
    w = pos (sum i j n t);
  }),
)
  where
    sum : (i j n : ℕ) → j + n + i ≡ i + j + n
    sum i j n = omega arith

-- the same triangle with its corners in another order
reordered : (c : Plane) (k l m k' l' m' : Corner) (p q : Point) → ((r : Point) → IsPointOfFace k' l' m' r → IsPointOfFace k l m r) → ((r : Point) → IsPointOfFace k l m r → IsPointOfFace k' l' m' r)
    → AreEnds c k l m p q → AreEnds c k' l' m' p q
reordered c k l m k' l' m' p q back on h = record {
  within = λ r there plane. h.within r (back r there) plane;
  on_face = λ i j some. on _ (h.on_face i j some);
  on_plane = h.on_plane;
}

-- ---- by the signs of the heights
module _ (c : Plane) (k l m : Corner) where
  height_sum : (i j n : ℕ) → IsOnPlane c (face_sum k l m i j n) → ((pos i *ℤ over_of c k) +ℤ (pos j *ℤ over_of c l)) +ℤ (pos n *ℤ over_of c m) ≡ pos 0
  height_sum i j n on = sym (face_rise c k l m i j n) ∙ rise_on c (face_sum k l m i j n) on

  -- k is before the plane, l and m are beyond it
  before_ends : GoesBeyond c k l → GoesBeyond c k m → AreEnds c k l m (crossing_of c k l) (crossing_of c k m)
  before_ends first second =
      lone_ends c k l m (some_abs_of_positive (over_of c k) (over_before c k first.0)) balance (crossing_on_plane c k l first) (crossing_on_plane c k m second)
    where
      balance : (i j n : ℕ) → IsOnPlane c (face_sum k l m i j n) → pos i *ℤ pos (size c k) ≡ (pos j *ℤ pos (size c l)) +ℤ (pos n *ℤ pos (size c m))
      balance i j n on =
          (λ t. pos i *ℤ abs_of_positive (over_of c k) (over_before c k first.0) t)
          ∙ by_one _ _ (((pos i *ℤ over_of c k) +ℤ (pos j *ℤ over_of c l)) +ℤ (pos n *ℤ over_of c m)) (pos 0) (pos 1)
          (ring (pos i ∷ pos j ∷ pos n ∷ over_of c k ∷ over_of c l ∷ over_of c m ∷ [])
          ((var 0 ⊗ var 3) ⊖ ((var 1 ⊗ (con (pos 0) ⊖ var 4)) ⊕ (var 2 ⊗ (con (pos 0) ⊖ var 5))))
          (((((var 0 ⊗ var 3) ⊕ (var 1 ⊗ var 4)) ⊕ (var 2 ⊗ var 5)) ⊖ con (pos 0)) ⊗ con (pos 1)) refl) (height_sum i j n on)
          ∙ (λ t. (pos j *ℤ sym (abs_of_negative (over_of c l) (over_beyond c l first.1)) t) +ℤ (pos n *ℤ sym (abs_of_negative (over_of c m) (over_beyond c m second.1)) t))

  -- k is beyond the plane, l and m are before it
  beyond_ends : GoesBeyond c l k → GoesBeyond c m k → AreEnds c k l m (crossing_of c l k) (crossing_of c m k)
  beyond_ends first second =
      subst (λ (p : Point). AreEnds c k l m p (crossing_of c m k)) (edge_turned k l (size c l) (size c k))
      (subst (λ (q : Point). AreEnds c k l m (crossing_of c k l) q) (edge_turned k m (size c m) (size c k))
      (lone_ends c k l m (some_abs_of_negative (over_of c k) (over_beyond c k first.1)) balance
      (subst (IsOnPlane c) (edge_turned l k (size c k) (size c l)) (crossing_on_plane c l k first)) (subst (IsOnPlane c) (edge_turned m k (size c k) (size c m)) (crossing_on_plane c m k second))))
    where
      balance : (i j n : ℕ) → IsOnPlane c (face_sum k l m i j n) → pos i *ℤ pos (size c k) ≡ (pos j *ℤ pos (size c l)) +ℤ (pos n *ℤ pos (size c m))
      balance i j n on =
          (λ t. pos i *ℤ abs_of_negative (over_of c k) (over_beyond c k first.1) t)
          ∙ by_one _ _ (((pos i *ℤ over_of c k) +ℤ (pos j *ℤ over_of c l)) +ℤ (pos n *ℤ over_of c m)) (pos 0) (pos 0 -ℤ pos 1)
          (ring (pos i ∷ pos j ∷ pos n ∷ over_of c k ∷ over_of c l ∷ over_of c m ∷ [])
          ((var 0 ⊗ (con (pos 0) ⊖ var 3)) ⊖ ((var 1 ⊗ var 4) ⊕ (var 2 ⊗ var 5)))
          (((((var 0 ⊗ var 3) ⊕ (var 1 ⊗ var 4)) ⊕ (var 2 ⊗ var 5)) ⊖ con (pos 0)) ⊗ (con (pos 0) ⊖ con (pos 1))) refl) (height_sum i j n on)
          ∙ (λ t. (pos j *ℤ sym (abs_of_positive (over_of c l) (over_before c l first.0)) t) +ℤ (pos n *ℤ sym (abs_of_positive (over_of c m) (over_before c m second.0)) t))

-- ---- the border of a face
module _ (c : Plane) {s : Part} (f : Face s) where
  by_sides : (first second : ℕ) → first < 3 → second < 3 → GoesBeyond c (start_corner f first) (end_corner f first) → GoesBeyond c (end_corner f second) (start_corner f second)
      → AreEnds c f.a f.b f.c (crossing_of c (start_corner f first) (end_corner f first)) (crossing_of c (end_corner f second) (start_corner f second))
  by_sides zero zero h g p q = absurd (not_both_sides c (point_of f.a) q.1 p.0)
  by_sides zero (suc zero) h g p q =
      reordered c f.b f.a f.c f.a f.b f.c _ _ (λ r there. face_point-turned f.b f.c f.a r (round f.b f.c f.a r (round f.c f.a f.b r there))) (λ r there. face_point-turned f.a f.c f.b r (round f.a f.c f.b r (round f.c f.b f.a r there)))
      (beyond_ends c f.b f.a f.c p q)
  by_sides zero (suc (suc n)) h g p q = before_ends c f.a f.b f.c p q
  by_sides (suc zero) zero h g p q =
      reordered c f.b f.c f.a f.a f.b f.c _ _ (λ r there. round f.b f.c f.a r (round f.c f.a f.b r there)) (λ r there. round f.a f.b f.c r there)
      (before_ends c f.b f.c f.a p q)
  by_sides (suc zero) (suc zero) h g p q = absurd (not_both_sides c (point_of f.b) q.1 p.0)
  by_sides (suc zero) (suc (suc n)) h g p q =
      reordered c f.c f.b f.a f.a f.b f.c _ _ (λ r there. face_point-turned f.c f.a f.b r (round f.c f.a f.b r there)) (λ r there. face_point-turned f.a f.c f.b r (round f.a f.c f.b r there))
      (beyond_ends c f.c f.b f.a p q)
  by_sides (suc (suc m)) zero h g p q =
      reordered c f.a f.c f.b f.a f.b f.c _ _ (λ r there. face_point-turned f.a f.b f.c r there) (λ r there. face_point-turned f.a f.c f.b r there)
      (beyond_ends c f.a f.c f.b p q)
  by_sides (suc (suc m)) (suc zero) h g p q =
      reordered c f.c f.a f.b f.a f.b f.c _ _ (λ r there. round f.c f.a f.b r there) (λ r there. round f.a f.b f.c r (round f.b f.c f.a r there))
      (before_ends c f.c f.a f.b p q)
  by_sides (suc (suc m)) (suc (suc n)) h g p q = absurd (not_both_sides c (point_of f.c) q.1 p.0)

  pub border_ends : (p q : Point) → IsBorderOf c f p q → AreEnds c f.a f.b f.c p q
  border_ends p q h =
      subst (λ (x : Point). AreEnds c f.a f.b f.c x q) (sym h.from)
      (subst (λ (y : Point). AreEnds c f.a f.b f.c (crossing_of c (start_corner f h.first) (end_corner f h.first)) y) (sym h.to) (by_sides h.first h.second h.first_side h.second_side h.goes h.returns))
