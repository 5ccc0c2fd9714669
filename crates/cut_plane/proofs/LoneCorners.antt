-- The points of a face's border are the sums of its two ends, and the border is to the right of a point exactly where the ends say so.
use Rattle.std.proofs.Common.{◌≡◌, ℕ, zero, suc, ◌+◌, ◌*◌, ◌<◌, [], ◌∷◌, refl, sym, subst, ◌∙◌, arith, unsigned_abs}
use Rattle.std.specs.Prelude.{ℤ, pos, ◌+ℤ◌, ◌-ℤ◌, ◌*ℤ◌, ◌<ℤ◌}
use Rattle.std.proofs.lemmas.Int.{ints}
use Rattle.std.proofs.Math.Nat.{mul-pos}
use Rattle.integers.proofs.Absolutes.{abs_of_positive, pos-sum, pos-sum_of_three, abs_of_negative, pos-sum_of_products, pos-product, some_abs_of_positive, some_abs_of_negative, natural_positive}
use Rattle.integers.proofs.Comparisons.{less_of_gap, positive_not_zero}
use Rattle.integers.proofs.Ring.{var, con, ◌⊕◌, ◌⊖◌, ◌⊗◌, ring, by_one, by_three, same_of_gap}
use Rattle.integers.proofs.Signs.{mul_pos, zero_of_mul}
use Rattle.lattice.specs.declared.points.Corner.{Corner}
use Rattle.lattice.specs.Triple.{Triple, dot, right_axis, up_axis}
use Rattle.lattice.specs.Points.{Point, point_of, scaled, across_of, upward_of}
use Rattle.lattice.specs.Cuts.{Plane, toward_of, IsOnPlane}
use Rattle.geometry.specs.Faces.{face_sum, edge_sum, IsPointOfFace}
use Rattle.geometry.specs.Parts.{Part, Face}
use Rattle.geometry.specs.Cuts.{over_of, IsLeftOfBorder}
use Rattle.geometry.proofs.Borders.{face_rise, rise_on, on_of_rise}
use Rattle.geometry.proofs.FacePoints.{dot-face_sum, dot-edge_sum}
use Rattle.cut_plane.proofs.Sights.{Sight, sight_of, right_by, above_by, crossing_sight}
use Rattle.cut_plane.proofs.Planes.{IsBeside}

-- ---- values of sums
-- with values x, y and z at three corners, v at a point of divisor w, and g, h and k the distances of the corners from the plane
lever : (i j n g h k x y z v w : ℤ) → i *ℤ g ≡ (j *ℤ h) +ℤ (n *ℤ k)
    → g *ℤ (((((i *ℤ x) +ℤ (j *ℤ y)) +ℤ (n *ℤ z)) *ℤ w) -ℤ (v *ℤ ((i +ℤ j) +ℤ n)))
    ≡ (j *ℤ ((((h *ℤ x) +ℤ (g *ℤ y)) *ℤ w) -ℤ (v *ℤ (h +ℤ g)))) +ℤ (n *ℤ ((((k *ℤ x) +ℤ (g *ℤ z)) *ℤ w) -ℤ (v *ℤ (k +ℤ g))))
lever i j n g h k x y z v w e =
    by_one _ _ (i *ℤ g) ((j *ℤ h) +ℤ (n *ℤ k)) ((x *ℤ w) -ℤ v)
    (ring (i ∷ j ∷ n ∷ g ∷ h ∷ k ∷ x ∷ y ∷ z ∷ v ∷ w ∷ [])
    ((var 3 ⊗ (((((var 0 ⊗ var 6) ⊕ (var 1 ⊗ var 7)) ⊕ (var 2 ⊗ var 8)) ⊗ var 10) ⊖ (var 9 ⊗ ((var 0 ⊕ var 1) ⊕ var 2))))
    ⊖ ((var 1 ⊗ ((((var 4 ⊗ var 6) ⊕ (var 3 ⊗ var 7)) ⊗ var 10) ⊖ (var 9 ⊗ (var 4 ⊕ var 3)))) ⊕ (var 2 ⊗ ((((var 5 ⊗ var 6) ⊕ (var 3 ⊗ var 8)) ⊗ var 10) ⊖ (var 9 ⊗ (var 5 ⊕ var 3))))))
    (((var 0 ⊗ var 3) ⊖ ((var 1 ⊗ var 4) ⊕ (var 2 ⊗ var 5))) ⊗ ((var 6 ⊗ var 10) ⊖ var 9)) refl) e

-- along an axis, by how much a sum of three corners is past a value, and by how much the sums of the first with each of the others are
module _ (s : Triple) (k l m : Corner) (v w : ℤ) (i j n g h t : ℕ) (balance : pos i *ℤ pos g ≡ (pos j *ℤ pos h) +ℤ (pos n *ℤ pos t)) where
  past : Point → ℤ
  past r = (dot s (scaled r) *ℤ w) -ℤ (v *ℤ r.w)

  levered : pos g *ℤ ((dot s (scaled (face_sum k l m i j n)) *ℤ w) -ℤ (v *ℤ pos (i + j + n)))
      ≡ (pos j *ℤ ((dot s (scaled (edge_sum k l h g)) *ℤ w) -ℤ (v *ℤ pos (h + g)))) +ℤ (pos n *ℤ ((dot s (scaled (edge_sum k m t g)) *ℤ w) -ℤ (v *ℤ pos (t + g))))
  levered =
      (λ q. pos g *ℤ ((dot-face_sum s k l m i j n q *ℤ w) -ℤ (v *ℤ pos-sum_of_three i j n q)))
      ∙ lever (pos i) (pos j) (pos n) (pos g) (pos h) (pos t) (dot s (scaled (point_of k))) (dot s (scaled (point_of l))) (dot s (scaled (point_of m))) v w balance
      ∙ sym (λ q. (pos j *ℤ ((dot-edge_sum s k l h g q *ℤ w) -ℤ (v *ℤ pos-sum h g q))) +ℤ (pos n *ℤ ((dot-edge_sum s k m t g q *ℤ w) -ℤ (v *ℤ pos-sum t g q))))

cancel : (g x j n a b q r : ℤ) → pos 0 <ℤ g → q ≡ j *ℤ g → r ≡ n *ℤ g → g *ℤ x ≡ (q *ℤ a) +ℤ (r *ℤ b) → x ≡ (j *ℤ a) +ℤ (n *ℤ b)
cancel g x j n a b q r there e f h =
    same_of_gap x ((j *ℤ a) +ℤ (n *ℤ b))
    (zero_of_mul g (x -ℤ ((j *ℤ a) +ℤ (n *ℤ b))) there
    (by_three (g *ℤ (x -ℤ ((j *ℤ a) +ℤ (n *ℤ b)))) (pos 0) (g *ℤ x) ((q *ℤ a) +ℤ (r *ℤ b)) (pos 1) q (j *ℤ g) a r (n *ℤ g) b
    (ring (g ∷ x ∷ j ∷ n ∷ a ∷ b ∷ q ∷ r ∷ [])
    ((var 0 ⊗ (var 1 ⊖ ((var 2 ⊗ var 4) ⊕ (var 3 ⊗ var 5)))) ⊖ con (pos 0))
    (((((var 0 ⊗ var 1) ⊖ ((var 6 ⊗ var 4) ⊕ (var 7 ⊗ var 5))) ⊗ con (pos 1)) ⊕ ((var 6 ⊖ (var 2 ⊗ var 0)) ⊗ var 4)) ⊕ ((var 7 ⊖ (var 3 ⊗ var 0)) ⊗ var 5)) refl) h e f))

-- a positive sum has a weight
some : (j n : ℕ) (a b : ℤ) → pos 0 <ℤ ((pos j *ℤ a) +ℤ (pos n *ℤ b)) → 0 < j + n
some zero zero a b h = absurd (positive_not_zero _ h (ring (a ∷ b ∷ []) ((con (pos 0) ⊗ var 0) ⊕ (con (pos 0) ⊗ var 1)) (con (pos 0)) refl))
some (suc j) n a b h = omega arith
some zero (suc n) a b h = omega arith

-- ---- a corner alone on its side of the plane
pub data IsAlone (c : Plane) (k l m : Corner) : Type 0 where
  before : pos 0 <ℤ over_of c k → over_of c l <ℤ pos 0 → over_of c m <ℤ pos 0 → IsAlone c k l m
  beyond : over_of c k <ℤ pos 0 → pos 0 <ℤ over_of c l → pos 0 <ℤ over_of c m → IsAlone c k l m

balanced : (x y z i j n : ℤ) → ((i *ℤ x) +ℤ (j *ℤ y)) +ℤ (n *ℤ z) ≡ pos 0 → i *ℤ x ≡ (j *ℤ (pos 0 -ℤ y)) +ℤ (n *ℤ (pos 0 -ℤ z))
balanced x y z i j n e =
    by_one _ _ (((i *ℤ x) +ℤ (j *ℤ y)) +ℤ (n *ℤ z)) (pos 0) (pos 1)
    (ring (x ∷ y ∷ z ∷ i ∷ j ∷ n ∷ [])
    ((var 3 ⊗ var 0) ⊖ ((var 4 ⊗ (con (pos 0) ⊖ var 1)) ⊕ (var 5 ⊗ (con (pos 0) ⊖ var 2))))
    (((((var 3 ⊗ var 0) ⊕ (var 4 ⊗ var 1)) ⊕ (var 5 ⊗ var 2)) ⊖ con (pos 0)) ⊗ con (pos 1)) refl) e

balanced_back : (x y z i j n : ℤ) → ((i *ℤ x) +ℤ (j *ℤ y)) +ℤ (n *ℤ z) ≡ pos 0 → i *ℤ (pos 0 -ℤ x) ≡ (j *ℤ y) +ℤ (n *ℤ z)
balanced_back x y z i j n e =
    by_one _ _ (((i *ℤ x) +ℤ (j *ℤ y)) +ℤ (n *ℤ z)) (pos 0) (pos 0 -ℤ pos 1)
    (ring (x ∷ y ∷ z ∷ i ∷ j ∷ n ∷ [])
    ((var 3 ⊗ (con (pos 0) ⊖ var 0)) ⊖ ((var 4 ⊗ var 1) ⊕ (var 5 ⊗ var 2)))
    (((((var 3 ⊗ var 0) ⊕ (var 4 ⊗ var 1)) ⊕ (var 5 ⊗ var 2)) ⊖ con (pos 0)) ⊗ (con (pos 0) ⊖ con (pos 1))) refl) e

-- sums of the two ends as sums of the three corners: the first corner's weight makes up for the others
chosen : (x y z j n : ℤ) → (((((j *ℤ (pos 0 -ℤ y)) +ℤ (n *ℤ (pos 0 -ℤ z))) *ℤ x) +ℤ ((j *ℤ x) *ℤ y)) +ℤ ((n *ℤ x) *ℤ z)) ≡ pos 0
chosen x y z j n =
    ring (x ∷ y ∷ z ∷ j ∷ n ∷ [])
    (((((var 3 ⊗ (con (pos 0) ⊖ var 1)) ⊕ (var 4 ⊗ (con (pos 0) ⊖ var 2))) ⊗ var 0) ⊕ ((var 3 ⊗ var 0) ⊗ var 1)) ⊕ ((var 4 ⊗ var 0) ⊗ var 2))
    (con (pos 0)) refl

chosen_back : (x y z j n : ℤ) → (((((j *ℤ y) +ℤ (n *ℤ z)) *ℤ x) +ℤ ((j *ℤ (pos 0 -ℤ x)) *ℤ y)) +ℤ ((n *ℤ (pos 0 -ℤ x)) *ℤ z)) ≡ pos 0
chosen_back x y z j n =
    ring (x ∷ y ∷ z ∷ j ∷ n ∷ [])
    (((((var 3 ⊗ var 1) ⊕ (var 4 ⊗ var 2)) ⊗ var 0) ⊕ ((var 3 ⊗ (con (pos 0) ⊖ var 0)) ⊗ var 1)) ⊕ ((var 4 ⊗ (con (pos 0) ⊖ var 0)) ⊗ var 2))
    (con (pos 0)) refl

module _ (c : Plane) (k l m : Corner) (alone : IsAlone c k l m) where
  -- the distances of the three corners from the plane
  abbrev g : ℕ
  g = unsigned_abs (over_of c k)

  abbrev h : ℕ
  h = unsigned_abs (over_of c l)

  abbrev t : ℕ
  t = unsigned_abs (over_of c m)

  some_distance : 0 < g
  some_distance = by alone
    where
      by : IsAlone c k l m → 0 < g
      by (before p q r) = some_abs_of_positive (over_of c k) p
      by (beyond p q r) = some_abs_of_negative (over_of c k) p

  balance_of : (i j n : ℕ) → IsOnPlane c (face_sum k l m i j n) → pos i *ℤ pos g ≡ (pos j *ℤ pos h) +ℤ (pos n *ℤ pos t)
  balance_of i j n on = by alone (sym (face_rise c k l m i j n) ∙ rise_on c (face_sum k l m i j n) on)
    where
      by : IsAlone c k l m → ((pos i *ℤ over_of c k) +ℤ (pos j *ℤ over_of c l)) +ℤ (pos n *ℤ over_of c m) ≡ pos 0 → pos i *ℤ pos g ≡ (pos j *ℤ pos h) +ℤ (pos n *ℤ pos t)
      by (before p q r) e =
          (λ s. pos i *ℤ abs_of_positive (over_of c k) p s) ∙ balanced (over_of c k) (over_of c l) (over_of c m) (pos i) (pos j) (pos n) e
          ∙ sym (λ s. (pos j *ℤ abs_of_negative (over_of c l) q s) +ℤ (pos n *ℤ abs_of_negative (over_of c m) r s))
      by (beyond p q r) e =
          (λ s. pos i *ℤ abs_of_negative (over_of c k) p s) ∙ balanced_back (over_of c k) (over_of c l) (over_of c m) (pos i) (pos j) (pos n) e
          ∙ sym (λ s. (pos j *ℤ abs_of_positive (over_of c l) q s) +ℤ (pos n *ℤ abs_of_positive (over_of c m) r s))

  -- the sum of the two ends with weights j and n
  abbrev pub border_sum : ℕ → ℕ → Point
  border_sum j n = face_sum k l m (j * h + n * t) (j * g) (n * g)

  pub sum_on_plane : (j n : ℕ) → IsOnPlane c (border_sum j n)
  sum_on_plane j n = on_of_rise c (border_sum j n)
      (face_rise c k l m (j * h + n * t) (j * g) (n * g)
      ∙ (λ s. ((pos-sum_of_products j h n t s *ℤ over_of c k) +ℤ (pos-product j g s *ℤ over_of c l)) +ℤ (pos-product n g s *ℤ over_of c m))
      ∙ by alone)
    where
      by : IsAlone c k l m → (((((pos j *ℤ pos h) +ℤ (pos n *ℤ pos t)) *ℤ over_of c k) +ℤ ((pos j *ℤ pos g) *ℤ over_of c l)) +ℤ ((pos n *ℤ pos g) *ℤ over_of c m)) ≡ pos 0
      by (before p q r) =
          (λ s. (((((pos j *ℤ abs_of_negative (over_of c l) q s) +ℤ (pos n *ℤ abs_of_negative (over_of c m) r s)) *ℤ over_of c k) +ℤ ((pos j *ℤ abs_of_positive (over_of c k) p s) *ℤ over_of c l)) +ℤ ((pos n *ℤ abs_of_positive (over_of c k) p s) *ℤ over_of c m)))
          ∙ chosen (over_of c k) (over_of c l) (over_of c m) (pos j) (pos n)
      by (beyond p q r) =
          (λ s. (((((pos j *ℤ abs_of_positive (over_of c l) q s) +ℤ (pos n *ℤ abs_of_positive (over_of c m) r s)) *ℤ over_of c k) +ℤ ((pos j *ℤ abs_of_negative (over_of c k) p s) *ℤ over_of c l)) +ℤ ((pos n *ℤ abs_of_negative (over_of c k) p s) *ℤ over_of c m)))
          ∙ chosen_back (over_of c k) (over_of c l) (over_of c m) (pos j) (pos n)

  pub sum_there : (j n : ℕ) → 0 < j + n → IsPointOfFace k l m (border_sum j n)
  sum_there j n some = (j * h + n * t, j * g, n * g, by j n some, refl)
    where
      by : (j n : ℕ) → 0 < j + n → 0 < (j * h + n * t) + j * g + n * g
      by zero zero some = absurd (omega arith)
      by (suc j) n some = let q : 0 < suc j * g = mul-pos (omega arith) some_distance in omega arith
      by zero (suc n) some = let q : 0 < suc n * g = mul-pos (omega arith) some_distance in omega arith

  -- ---- the border to the right of a point
  module _ (p : Point) where
    abbrev d : Triple
    d = toward_of c

    abbrev P : Sight
    P = sight_of d p

    -- the two ends
    abbrev first : Sight
    first = crossing_sight c k l

    abbrev second : Sight
    second = crossing_sight c k m

    times_above : (i j n : ℕ) → IsOnPlane c (face_sum k l m i j n)
        → pos g *ℤ above_by P (sight_of d (face_sum k l m i j n)) ≡ (pos j *ℤ above_by P first) +ℤ (pos n *ℤ above_by P second)
    times_above i j n on = levered (up_axis d) k l m P.v P.w i j n g h t (balance_of i j n on)

    times_right : (i j n : ℕ) → IsOnPlane c (face_sum k l m i j n)
        → pos g *ℤ right_by P (sight_of d (face_sum k l m i j n)) ≡ (pos j *ℤ right_by P first) +ℤ (pos n *ℤ right_by P second)
    times_right i j n on = levered (right_axis d) k l m P.u P.w i j n g h t (balance_of i j n on)

    positive : pos 0 <ℤ pos g
    positive = natural_positive g some_distance

    level_of_border : (r : Point) (i j n : ℕ) → r ≡ face_sum k l m i j n → IsOnPlane c r → upward_of d r *ℤ p.w ≡ upward_of d p *ℤ r.w
        → (pos j *ℤ above_by P first) +ℤ (pos n *ℤ above_by P second) ≡ pos 0
    level_of_border r i j n is on same =
        let on' : IsOnPlane c (face_sum k l m i j n) = subst (IsOnPlane c) is on in
        let same' : upward_of d (face_sum k l m i j n) *ℤ p.w ≡ upward_of d p *ℤ pos (i + j + n) = subst (λ (r : Point). upward_of d r *ℤ p.w ≡ upward_of d p *ℤ r.w) is same in
        sym (times_above i j n on') ∙ nothing (pos g) (upward_of d (face_sum k l m i j n) *ℤ p.w) (upward_of d p *ℤ pos (i + j + n)) same'
      where
        nothing : (g x y : ℤ) → x ≡ y → g *ℤ (x -ℤ y) ≡ pos 0
        nothing g x y e = by_one _ _ x y g (ring (g ∷ x ∷ y ∷ []) ((var 0 ⊗ (var 1 ⊖ var 2)) ⊖ con (pos 0)) ((var 1 ⊖ var 2) ⊗ var 0) refl) e

    gap : (g x y : ℤ) → pos 0 <ℤ g → y <ℤ x → pos 0 <ℤ (g *ℤ (x -ℤ y))
    gap g x y there h = mul_pos g (x -ℤ y) there (omega (arith, ints))

    right_of_border : (r : Point) (i j n : ℕ) → r ≡ face_sum k l m i j n → IsOnPlane c r → (across_of d p *ℤ r.w) <ℤ (across_of d r *ℤ p.w)
        → pos 0 <ℤ ((pos j *ℤ right_by P first) +ℤ (pos n *ℤ right_by P second))
    right_of_border r i j n is on more =
        let on' : IsOnPlane c (face_sum k l m i j n) = subst (IsOnPlane c) is on in
        let more' : (across_of d p *ℤ pos (i + j + n)) <ℤ (across_of d (face_sum k l m i j n) *ℤ p.w) = subst (λ (r : Point). (across_of d p *ℤ r.w) <ℤ (across_of d r *ℤ p.w)) is more in
        subst (λ (z : ℤ). pos 0 <ℤ z) (times_right i j n on') (gap (pos g) (across_of d (face_sum k l m i j n) *ℤ p.w) (across_of d p *ℤ pos (i + j + n)) positive more')

    above_of_border : (r : Point) (i j n : ℕ) → r ≡ face_sum k l m i j n → IsOnPlane c r → (upward_of d p *ℤ r.w) <ℤ (upward_of d r *ℤ p.w)
        → pos 0 <ℤ ((pos j *ℤ above_by P first) +ℤ (pos n *ℤ above_by P second))
    above_of_border r i j n is on more =
        let on' : IsOnPlane c (face_sum k l m i j n) = subst (IsOnPlane c) is on in
        let more' : (upward_of d p *ℤ pos (i + j + n)) <ℤ (upward_of d (face_sum k l m i j n) *ℤ p.w) = subst (λ (r : Point). (upward_of d p *ℤ r.w) <ℤ (upward_of d r *ℤ p.w)) is more in
        subst (λ (z : ℤ). pos 0 <ℤ z) (times_above i j n on') (gap (pos g) (upward_of d (face_sum k l m i j n) *ℤ p.w) (upward_of d p *ℤ pos (i + j + n)) positive more')

    -- the face has these three corners
    module _ {s : Part} (f : Face s) (of_face : (r : Point) → IsPointOfFace f.a f.b f.c r → IsPointOfFace k l m r) (on_face : (r : Point) → IsPointOfFace k l m r → IsPointOfFace f.a f.b f.c r) where
      pub beside_of_left : IsLeftOfBorder c f p → IsBeside first second P
      beside_of_left left = by (of_face left.right left.right_on.0) (of_face left.above left.above_on.0)
        where
          by : IsPointOfFace k l m left.right → IsPointOfFace k l m left.above → IsBeside first second P
          by (i, j, n, some, is) (i', j', n', some', is') = record {
            i = j;
            j = n;
            m = j';
            n = n';
            level = level_of_border left.right i j n is left.right_on.1 left.same_upward;
            right = right_of_border left.right i j n is left.right_on.1 left.more_across;
            above = above_of_border left.above i' j' n' is' left.above_on.1 left.more_upward;
          }

      -- by how much a sum of the ends is above, without the first corner's distance
      pub above_sum : (j n : ℕ) → above_by P (sight_of d (border_sum j n)) ≡ (pos j *ℤ above_by P first) +ℤ (pos n *ℤ above_by P second)
      above_sum j n = cancel (pos g) _ (pos j) (pos n) (above_by P first) (above_by P second) (pos (j * g)) (pos (n * g)) positive (pos-product j g) (pos-product n g)
          (times_above (j * h + n * t) (j * g) (n * g) (sum_on_plane j n))

      pub right_sum : (j n : ℕ) → right_by P (sight_of d (border_sum j n)) ≡ (pos j *ℤ right_by P first) +ℤ (pos n *ℤ right_by P second)
      right_sum j n = cancel (pos g) _ (pos j) (pos n) (right_by P first) (right_by P second) (pos (j * g)) (pos (n * g)) positive (pos-product j g) (pos-product n g)
          (times_right (j * h + n * t) (j * g) (n * g) (sum_on_plane j n))

      pub left_of_beside : IsBeside first second P → IsLeftOfBorder c f p
      left_of_beside beside = record {
        right = border_sum beside.i beside.j;
        above = border_sum beside.m beside.n;
        right_on = (on_face _ (sum_there beside.i beside.j (some beside.i beside.j _ _ beside.right)), sum_on_plane beside.i beside.j);
        above_on = (on_face _ (sum_there beside.m beside.n (some beside.m beside.n _ _ beside.above)), sum_on_plane beside.m beside.n);
        same_upward = same_of_gap _ _ (above_sum beside.i beside.j ∙ beside.level);
        more_across = less_of_gap _ _ (subst (λ (z : ℤ). pos 0 <ℤ z) (sym (right_sum beside.i beside.j)) beside.right);
        more_upward = less_of_gap _ _ (subst (λ (z : ℤ). pos 0 <ℤ z) (sym (above_sum beside.m beside.n)) beside.above);
      }
