-- A segment is to the right of a point exactly where the border of its face is.
use Rattle.std.proofs.Common.{◌≡◌, ◌⊎◌, inl, inr, ℕ, zero, suc, ◌+◌, ◌<◌, [], ◌∷◌, refl, sym, subst, ◌∙◌, unsigned_abs, arith}
use Rattle.std.specs.Prelude.{ℤ, pos, negsuc, ◌+ℤ◌, ◌-ℤ◌, ◌*ℤ◌, ◌<ℤ◌, ◌≤ℤ◌}
use Rattle.std.proofs.lemmas.Int.{ints, by_lt_z}
use Rattle.integers.proofs.Ring.{var, con, ◌⊕◌, ◌⊖◌, ◌⊗◌, ring, by_one, by_two, by_three, less_by, gap_of_less}
use Rattle.integers.proofs.Signs.{mul_pos, mul_nonneg, pos_of_mul}
use Rattle.integers.proofs.Weighted.{weighted, sum_pos}
use Rattle.lattice.specs.LowestTerms.{leading_of}
use Rattle.lattice.specs.declared.lines.Line.{Line}
use Rattle.lattice.specs.Lines.{IsOnLine}
use Rattle.lattice.specs.Triple.{Triple, dot, up_axis}
use Rattle.lattice.specs.Points.{Point, IsPoint, of_spot, scaled, across_of, upward_of}
use Rattle.lattice.specs.Cuts.{Plane, toward_of, IsOnPlane}
use Rattle.lattice.proofs.OnLines.{weighted_sum, product_of_sum, on_line_of_sum}
use Rattle.geometry.specs.Faces.{IsPointOfFace}
use Rattle.geometry.specs.Parts.{Part, Face}
use Rattle.geometry.specs.Cuts.{IsOnBorder, IsLeftOfBorder}
use Rattle.cut_plane.specs.declared.segments.Segment.{Segment}
use Rattle.cut_plane.specs.Loops.{IsSegmentOf}
use Rattle.cut_plane.specs.Sides.{IsRightOf, IsNotAbove, IsLower, IsUpwardBetween}
use Rattle.cut_plane.proofs.BorderSums.{IsMixOf, AreEnds, border_ends}

-- ---- sums
pub sum_turned : (i j : ℤ) (p q : Point) → weighted_sum i p j q ≡ weighted_sum j q i p
sum_turned i j p q = λ t. record { x = swap (i *ℤ p.x) (j *ℤ q.x) t; y = swap (i *ℤ p.y) (j *ℤ q.y) t; z = swap (i *ℤ p.z) (j *ℤ q.z) t; w = swap (i *ℤ p.w) (j *ℤ q.w) t }
  where
    swap : (a b : ℤ) → a +ℤ b ≡ b +ℤ a
    swap a b = omega (arith, ints)

-- with one weight it is that point
pub first_alone : (p q : Point) → weighted_sum (pos 1) p (pos 0) q ≡ p
first_alone p q = λ t. record { x = alone p.x q.x t; y = alone p.y q.y t; z = alone p.z q.z t; w = alone p.w q.w t }
  where
    alone : (x y : ℤ) → (pos 1 *ℤ x) +ℤ (pos 0 *ℤ y) ≡ x
    alone x y = ring (x ∷ y ∷ []) ((con (pos 1) ⊗ var 0) ⊕ (con (pos 0) ⊗ var 1)) (var 0) refl

pub second_alone : (p q : Point) → weighted_sum (pos 0) p (pos 1) q ≡ q
second_alone p q = λ t. record { x = alone p.x q.x t; y = alone p.y q.y t; z = alone p.z q.z t; w = alone p.w q.w t }
  where
    alone : (x y : ℤ) → (pos 0 *ℤ x) +ℤ (pos 1 *ℤ y) ≡ y
    alone x y = ring (x ∷ y ∷ []) ((con (pos 0) ⊗ var 0) ⊕ (con (pos 1) ⊗ var 1)) (var 1) refl

pub mix_product : (r : Triple) (p q m : Point) (h : IsMixOf p q m) → (pos h.i *ℤ dot r (scaled p)) +ℤ (pos h.j *ℤ dot r (scaled q)) ≡ h.k *ℤ dot r (scaled m)
mix_product r p q m h =
    by_three _ _ ((pos h.i *ℤ p.x) +ℤ (pos h.j *ℤ q.x)) (h.k *ℤ m.x) r.x ((pos h.i *ℤ p.y) +ℤ (pos h.j *ℤ q.y)) (h.k *ℤ m.y) r.y ((pos h.i *ℤ p.z) +ℤ (pos h.j *ℤ q.z)) (h.k *ℤ m.z) r.z
    (ring (r.x ∷ r.y ∷ r.z ∷ p.x ∷ p.y ∷ p.z ∷ q.x ∷ q.y ∷ q.z ∷ m.x ∷ m.y ∷ m.z ∷ pos h.i ∷ pos h.j ∷ h.k ∷ [])
    (((var 12 ⊗ (((var 0 ⊗ var 3) ⊕ (var 1 ⊗ var 4)) ⊕ (var 2 ⊗ var 5))) ⊕ (var 13 ⊗ (((var 0 ⊗ var 6) ⊕ (var 1 ⊗ var 7)) ⊕ (var 2 ⊗ var 8))))
    ⊖ (var 14 ⊗ (((var 0 ⊗ var 9) ⊕ (var 1 ⊗ var 10)) ⊕ (var 2 ⊗ var 11))))
    ((((((var 12 ⊗ var 3) ⊕ (var 13 ⊗ var 6)) ⊖ (var 14 ⊗ var 9)) ⊗ var 0) ⊕ ((((var 12 ⊗ var 4) ⊕ (var 13 ⊗ var 7)) ⊖ (var 14 ⊗ var 10)) ⊗ var 1))
    ⊕ ((((var 12 ⊗ var 5) ⊕ (var 13 ⊗ var 8)) ⊖ (var 14 ⊗ var 11)) ⊗ var 2)) refl) h.x h.y h.z

-- the gap between the V of two points, of a sum
mix_gap : (i j k vp wp vq wq vm wm v w : ℤ) → (i *ℤ vp) +ℤ (j *ℤ vq) ≡ k *ℤ vm → (i *ℤ wp) +ℤ (j *ℤ wq) ≡ k *ℤ wm
    → (i *ℤ ((vp *ℤ w) -ℤ (v *ℤ wp))) +ℤ (j *ℤ ((vq *ℤ w) -ℤ (v *ℤ wq))) ≡ k *ℤ ((vm *ℤ w) -ℤ (v *ℤ wm))
mix_gap i j k vp wp vq wq vm wm v w e f =
    by_two _ _ ((i *ℤ vp) +ℤ (j *ℤ vq)) (k *ℤ vm) w ((i *ℤ wp) +ℤ (j *ℤ wq)) (k *ℤ wm) (pos 0 -ℤ v)
    (ring (i ∷ j ∷ k ∷ vp ∷ wp ∷ vq ∷ wq ∷ vm ∷ wm ∷ v ∷ w ∷ [])
    (((var 0 ⊗ ((var 3 ⊗ var 10) ⊖ (var 9 ⊗ var 4))) ⊕ (var 1 ⊗ ((var 5 ⊗ var 10) ⊖ (var 9 ⊗ var 6)))) ⊖ (var 2 ⊗ ((var 7 ⊗ var 10) ⊖ (var 9 ⊗ var 8))))
    (((((var 0 ⊗ var 3) ⊕ (var 1 ⊗ var 5)) ⊖ (var 2 ⊗ var 7)) ⊗ var 10) ⊕ ((((var 0 ⊗ var 4) ⊕ (var 1 ⊗ var 6)) ⊖ (var 2 ⊗ var 8)) ⊗ (con (pos 0) ⊖ var 9))) refl) e f

face_positive : {s : Part} (f : Face s) (p : Point) → IsPointOfFace f.a f.b f.c p → IsPoint p
face_positive f p (i, j, k, some, is) = let P : Point → Type 0 = λ q. IsPoint q in subst P (sym is) (positive (i + j + k) some)
  where
    positive : (n : ℕ) → 0 < n → pos 0 <ℤ pos n
    positive n h = omega (arith, ints)

-- ---- lines that are not level
-- from the one point upward to the other, through the V of a third
rises : (vp wp vq wq v w : ℤ) → pos 0 <ℤ wp → pos 0 <ℤ wq → pos 0 <ℤ w → (vp *ℤ w) ≤ℤ (v *ℤ wp) → (v *ℤ wq) <ℤ (vq *ℤ w) → pos 0 <ℤ ((vq *ℤ wp) -ℤ (vp *ℤ wq))
rises vp wp vq wq v w hp hq h low high =
    pos_of_mul w ((vq *ℤ wp) -ℤ (vp *ℤ wq)) h
    (subst (λ (z : ℤ). pos 0 <ℤ z)
    (ring (vp ∷ wp ∷ vq ∷ wq ∷ v ∷ w ∷ [])
    ((((var 2 ⊗ var 5) ⊖ (var 4 ⊗ var 3)) ⊗ var 1) ⊕ (((var 4 ⊗ var 1) ⊖ (var 0 ⊗ var 5)) ⊗ var 3))
    (var 5 ⊗ ((var 2 ⊗ var 1) ⊖ (var 0 ⊗ var 3))) refl)
    (both _ _ (mul_pos ((vq *ℤ w) -ℤ (v *ℤ wq)) wp (gap_of_less (v *ℤ wq) (vq *ℤ w) high) hp) (mul_nonneg ((v *ℤ wp) -ℤ (vp *ℤ w)) wq (no_less (vp *ℤ w) (v *ℤ wp) low) (not_less wq hq))))
  where
    both : (x y : ℤ) → pos 0 <ℤ x → pos 0 ≤ℤ y → pos 0 <ℤ (x +ℤ y)
    both x y h k = omega (arith, ints)

    no_less : (x y : ℤ) → x ≤ℤ y → pos 0 ≤ℤ (y -ℤ x)
    no_less x y h = omega (arith, ints)

    not_less : (x : ℤ) → pos 0 <ℤ x → pos 0 ≤ℤ x
    not_less x h = omega (arith, ints)

-- so the first number of the line through both is positive
leads_across : (a b c up vp wp uq vq wq : ℤ) → pos 0 <ℤ leading_of a b → (a *ℤ up) +ℤ (b *ℤ vp) ≡ c *ℤ wp → (a *ℤ uq) +ℤ (b *ℤ vq) ≡ c *ℤ wq → pos 0 <ℤ ((vq *ℤ wp) -ℤ (vp *ℤ wq)) → pos 0 <ℤ a
leads_across (pos (suc a)) b c up vp wp uq vq wq leads e f rise = leads
leads_across (negsuc a) b c up vp wp uq vq wq leads e f rise = leads
leads_across (pos zero) b c up vp wp uq vq wq leads e f rise =
    absurd (not_zero _ (mul_pos b ((vq *ℤ wp) -ℤ (vp *ℤ wq)) leads rise)
    (by_two _ _ ((pos 0 *ℤ uq) +ℤ (b *ℤ vq)) (c *ℤ wq) wp ((pos 0 *ℤ up) +ℤ (b *ℤ vp)) (c *ℤ wp) (pos 0 -ℤ wq)
    (ring (b ∷ c ∷ up ∷ vp ∷ wp ∷ uq ∷ vq ∷ wq ∷ [])
    ((var 0 ⊗ ((var 6 ⊗ var 4) ⊖ (var 3 ⊗ var 7))) ⊖ con (pos 0))
    (((((con (pos 0) ⊗ var 5) ⊕ (var 0 ⊗ var 6)) ⊖ (var 1 ⊗ var 7)) ⊗ var 4) ⊕ ((((con (pos 0) ⊗ var 2) ⊕ (var 0 ⊗ var 3)) ⊖ (var 1 ⊗ var 4)) ⊗ (con (pos 0) ⊖ var 7))) refl) f e))
  where
    not_zero : (z : ℤ) → pos 0 <ℤ z → z ≡ pos 0 → ⊥
    not_zero z h e = omega (arith, ints)

-- a point of the line at the V of p, and p: the same number tells their order
across_gap : (a b c u v w um vm wm : ℤ) → (a *ℤ um) +ℤ (b *ℤ vm) ≡ c *ℤ wm → vm *ℤ w ≡ v *ℤ wm
    → a *ℤ ((um *ℤ w) -ℤ (u *ℤ wm)) ≡ wm *ℤ ((c *ℤ w) -ℤ ((a *ℤ u) +ℤ (b *ℤ v)))
across_gap a b c u v w um vm wm on level =
    by_two _ _ ((a *ℤ um) +ℤ (b *ℤ vm)) (c *ℤ wm) w (vm *ℤ w) (v *ℤ wm) (pos 0 -ℤ b)
    (ring (a ∷ b ∷ c ∷ u ∷ v ∷ w ∷ um ∷ vm ∷ wm ∷ [])
    ((var 0 ⊗ ((var 6 ⊗ var 5) ⊖ (var 3 ⊗ var 8))) ⊖ (var 8 ⊗ ((var 2 ⊗ var 5) ⊖ ((var 0 ⊗ var 3) ⊕ (var 1 ⊗ var 4)))))
    (((((var 0 ⊗ var 6) ⊕ (var 1 ⊗ var 7)) ⊖ (var 2 ⊗ var 8)) ⊗ var 5) ⊕ (((var 7 ⊗ var 5) ⊖ (var 4 ⊗ var 8)) ⊗ (con (pos 0) ⊖ var 1))) refl) on level

less_of_gap : (x y : ℤ) → pos 0 <ℤ (y -ℤ x) → x <ℤ y
less_of_gap x y h = omega (arith, ints)

-- ---- ends in either order
ends_turned : (c : Plane) {s : Part} (f : Face s) (p q : Point) → AreEnds c f.a f.b f.c p q → AreEnds c f.a f.b f.c q p
ends_turned c f p q h = record {
  within = λ r on_face on_plane. let m = h.within r on_face on_plane in record {
    i = m.j;
    j = m.i;
    k = m.k;
    some = omega (arith, m.some);
    positive = m.positive;
    x = (λ t. (sum_turned (pos m.j) (pos m.i) q p t).x) ∙ m.x;
    y = (λ t. (sum_turned (pos m.j) (pos m.i) q p t).y) ∙ m.y;
    z = (λ t. (sum_turned (pos m.j) (pos m.i) q p t).z) ∙ m.z;
    w = (λ t. (sum_turned (pos m.j) (pos m.i) q p t).w) ∙ m.w;
  };
  on_face = λ i j some. subst (IsPointOfFace f.a f.b f.c) (sum_turned (pos j) (pos i) p q) (h.on_face j i (omega arith));
  on_plane = λ i j. subst (IsOnPlane c) (sum_turned (pos j) (pos i) p q) (h.on_plane j i);
}

module _ (c : Plane) {s : Part} (f : Face s) (l : Line) (p : Point) (positive : IsPoint p) where
  abbrev d : Triple
  d = toward_of c

  -- from a lower end to an upper end
  module _ (low high : Point) (low_positive : IsPoint low) (high_positive : IsPoint high) (low_on : IsOnLine d l low) (high_on : IsOnLine d l high) (beside : IsUpwardBetween d low high p) where
    line_across : pos 0 <ℤ l.a
    line_across =
        leads_across l.a l.b l.c (across_of d low) (upward_of d low) low.w (across_of d high) (upward_of d high) high.w l.leads low_on high_on
        (rises (upward_of d low) low.w (upward_of d high) high.w (upward_of d p) p.w low_positive high_positive positive beside.0 beside.1)

    left_of_border : AreEnds c f.a f.b f.c low high → ((l.a *ℤ across_of d p) +ℤ (l.b *ℤ upward_of d p)) <ℤ (l.c *ℤ p.w) → IsLeftOfBorder c f p
    left_of_border ends before = record {
      right = right;
      above = above;
      right_on = (ends.on_face i j some, ends.on_plane i j);
      above_on = (ends.on_face 0 1 (omega arith), ends.on_plane 0 1);
      same_upward = level;
      more_across = less_of_gap _ _ (pos_of_mul l.a _ line_across
          (subst (λ (z : ℤ). pos 0 <ℤ z) (sym (across_gap l.a l.b l.c (across_of d p) (upward_of d p) p.w (across_of d right) (upward_of d right) right.w (on_line_of_sum d l (pos i) (pos j) low high low_on high_on) level))
          (mul_pos right.w _ right_positive (gap_of_less _ _ before))));
      more_upward = subst (λ (z : ℤ). (upward_of d p *ℤ above.w) <ℤ (z *ℤ p.w)) (sym (product_of_sum (up_axis d) (pos 0) (pos 1) low high)) (only_high (upward_of d low) low.w (upward_of d high) high.w (upward_of d p) p.w beside.1);
    }
      where
        m : ℤ
        m = (upward_of d high *ℤ p.w) -ℤ (upward_of d p *ℤ high.w)

        n : ℤ
        n = (upward_of d p *ℤ low.w) -ℤ (upward_of d low *ℤ p.w)

        i : ℕ
        i = unsigned_abs m

        j : ℕ
        j = unsigned_abs n

        right : Point
        right = weighted_sum (pos i) low (pos j) high

        above : Point
        above = weighted_sum (pos 0) low (pos 1) high

        size : (z : ℤ) → pos 0 ≤ℤ z → pos (unsigned_abs z) ≡ z
        size z h = omega (arith, ints)

        no_less : (x y : ℤ) → x ≤ℤ y → pos 0 ≤ℤ (y -ℤ x)
        no_less x y h = omega (arith, ints)

        not_less : (x : ℤ) → pos 0 <ℤ x → pos 0 ≤ℤ x
        not_less x h = omega (arith, ints)

        m_positive : pos 0 <ℤ m
        m_positive = gap_of_less (upward_of d p *ℤ high.w) (upward_of d high *ℤ p.w) beside.1

        some : 0 < i + j
        some = by m n m_positive
          where
            by : (m n : ℤ) → pos 0 <ℤ m → 0 < unsigned_abs m + unsigned_abs n
            by m n h = omega (arith, ints)

        right_positive : pos 0 <ℤ right.w
        right_positive = sum_pos low.w high.w i j low_positive high_positive some

        level : upward_of d right *ℤ p.w ≡ upward_of d p *ℤ right.w
        level =
            (λ t. product_of_sum (up_axis d) (pos i) (pos j) low high t *ℤ p.w)
            ∙ weighted (upward_of d low) low.w (upward_of d high) high.w (upward_of d p) p.w (pos i) (pos j) (size m (not_less m m_positive)) (size n (no_less (upward_of d low *ℤ p.w) (upward_of d p *ℤ low.w) beside.0))

        only_high : (vl wl vh wh v w : ℤ) → (v *ℤ wh) <ℤ (vh *ℤ w) → (v *ℤ ((pos 0 *ℤ wl) +ℤ (pos 1 *ℤ wh))) <ℤ (((pos 0 *ℤ vl) +ℤ (pos 1 *ℤ vh)) *ℤ w)
        only_high vl wl vh wh v w h =
            less_by _ _ ((vh *ℤ w) -ℤ (v *ℤ wh))
            (ring (vl ∷ wl ∷ vh ∷ wh ∷ v ∷ w ∷ [])
            ((((con (pos 0) ⊗ var 0) ⊕ (con (pos 1) ⊗ var 2)) ⊗ var 5) ⊖ (var 4 ⊗ ((con (pos 0) ⊗ var 1) ⊕ (con (pos 1) ⊗ var 3))))
            ((var 2 ⊗ var 5) ⊖ (var 4 ⊗ var 3)) refl) (gap_of_less (v *ℤ wh) (vh *ℤ w) h)

    left_of_line : (h : IsLeftOfBorder c f p) → IsOnLine d l h.right → ((l.a *ℤ across_of d p) +ℤ (l.b *ℤ upward_of d p)) <ℤ (l.c *ℤ p.w)
    left_of_line h on =
        less_of_gap _ _ (pos_of_mul h.right.w _ (face_positive f h.right h.right_on.0)
        (subst (λ (z : ℤ). pos 0 <ℤ z) (across_gap l.a l.b l.c (across_of d p) (upward_of d p) p.w (across_of d h.right) (upward_of d h.right) h.right.w on h.same_upward)
        (mul_pos l.a _ line_across (gap_of_less _ _ h.more_across))))

  -- ---- how the V of the two ends are to that of p
  beside_of_border : (a b : Point) → AreEnds c f.a f.b f.c a b → IsLeftOfBorder c f p → IsUpwardBetween d a b p ⊎ IsUpwardBetween d b a p
  beside_of_border a b ends h =
      by_lt_z (pos 0) gap_a (λ above. by_lt_z (pos 0) gap_b (λ also. absurd (zero_sum right.i right.j above also right.some (level_sum right))) (λ below. inr (not_above b below, is_above a above)))
      (λ below. inl (not_above a below, is_above b (by_lt_z (pos 0) gap_b (λ higher. higher) (λ low. absurd (positive_sum high.i high.j below low (upper_sum high))))))
    where
      gap : Point → ℤ
      gap q = (upward_of d q *ℤ p.w) -ℤ (upward_of d p *ℤ q.w)

      gap_a : ℤ
      gap_a = gap a

      gap_b : ℤ
      gap_b = gap b

      right : IsMixOf a b h.right
      right = ends.within h.right h.right_on.0 h.right_on.1

      high : IsMixOf a b h.above
      high = ends.within h.above h.above_on.0 h.above_on.1

      gaps : (r : Point) (m : IsMixOf a b r) → (pos m.i *ℤ gap_a) +ℤ (pos m.j *ℤ gap_b) ≡ m.k *ℤ gap r
      gaps r m = mix_gap (pos m.i) (pos m.j) m.k (upward_of d a) a.w (upward_of d b) b.w (upward_of d r) r.w (upward_of d p) p.w (mix_product (up_axis d) a b r m) m.w

      none : (k x y : ℤ) → x ≡ y → k *ℤ (x -ℤ y) ≡ pos 0
      none k x y e =
          by_one _ _ x y k (ring (k ∷ x ∷ y ∷ []) ((var 0 ⊗ (var 1 ⊖ var 2)) ⊖ con (pos 0)) ((var 1 ⊖ var 2) ⊗ var 0) refl) e

      level_sum : (m : IsMixOf a b h.right) → (pos m.i *ℤ gap_a) +ℤ (pos m.j *ℤ gap_b) ≡ pos 0
      level_sum m = gaps h.right m ∙ none m.k (upward_of d h.right *ℤ p.w) (upward_of d p *ℤ h.right.w) h.same_upward

      upper_sum : (m : IsMixOf a b h.above) → pos 0 <ℤ ((pos m.i *ℤ gap_a) +ℤ (pos m.j *ℤ gap_b))
      upper_sum m =
          subst (λ (z : ℤ). pos 0 <ℤ z) (sym (gaps h.above m)) (mul_pos m.k (gap h.above) m.positive (gap_of_less (upward_of d p *ℤ h.above.w) (upward_of d h.above *ℤ p.w) h.more_upward))

      zero_sum : (i j : ℕ) → pos 0 <ℤ gap_a → pos 0 <ℤ gap_b → 0 < i + j → (pos i *ℤ gap_a) +ℤ (pos j *ℤ gap_b) ≡ pos 0 → ⊥
      zero_sum i j up also some e = not_zero _ (sum_pos gap_a gap_b i j up also some) e
        where
          not_zero : (z : ℤ) → pos 0 <ℤ z → z ≡ pos 0 → ⊥
          not_zero z h e = omega (arith, ints)

      positive_sum : (i j : ℕ) → gap_a ≤ℤ pos 0 → gap_b ≤ℤ pos 0 → pos 0 <ℤ ((pos i *ℤ gap_a) +ℤ (pos j *ℤ gap_b)) → ⊥
      positive_sum i j low also more = sum_not _ _ (mul_nonneg (pos i) (pos 0 -ℤ gap_a) (omega (arith, ints)) (turn gap_a low)) (mul_nonneg (pos j) (pos 0 -ℤ gap_b) (omega (arith, ints)) (turn gap_b also))
          (ring (pos i ∷ pos j ∷ gap_a ∷ gap_b ∷ []) ((var 0 ⊗ (con (pos 0) ⊖ var 2)) ⊕ (var 1 ⊗ (con (pos 0) ⊖ var 3))) (con (pos 0) ⊖ ((var 0 ⊗ var 2) ⊕ (var 1 ⊗ var 3))) refl) more
        where
          turn : (z : ℤ) → z ≤ℤ pos 0 → pos 0 ≤ℤ (pos 0 -ℤ z)
          turn z h = omega (arith, ints)

          sum_not : (x y : ℤ) {z : ℤ} → pos 0 ≤ℤ x → pos 0 ≤ℤ y → x +ℤ y ≡ pos 0 -ℤ z → pos 0 <ℤ z → ⊥
          sum_not x y {z} h k e more = omega (arith, ints)

      not_above : (q : Point) → gap q ≤ℤ pos 0 → IsNotAbove d q p
      not_above q h = go (upward_of d q *ℤ p.w) (upward_of d p *ℤ q.w) h
        where
          go : (x y : ℤ) → (x -ℤ y) ≤ℤ pos 0 → x ≤ℤ y
          go x y h = omega (arith, ints)

      is_above : (q : Point) → pos 0 <ℤ gap q → IsLower d p q
      is_above q h = less_of_gap (upward_of d p *ℤ q.w) (upward_of d q *ℤ p.w) h

-- ---- segments
module _ (c : Plane) (s : Part) (x : Segment) (h : IsSegmentOf c s x) (p : Point) (positive : IsPoint p) where
  abbrev a : Point
  a = of_spot x.a

  abbrev b : Point
  b = of_spot x.b

  ends : AreEnds c h.face.a h.face.b h.face.c (of_spot x.a) (of_spot x.b)
  ends = border_ends c h.face (of_spot x.a) (of_spot x.b) h.border

  on_line : (r : Point) → IsOnBorder c h.face r → IsOnLine (toward_of c) x.line r
  on_line r on = h.line r on.0 on.1

  pub first_on : IsOnLine (toward_of c) x.line (of_spot x.a)
  first_on = subst (IsOnLine (toward_of c) x.line) (first_alone a b) (on_line (weighted_sum (pos 1) a (pos 0) b) (ends.on_face 1 0 (omega arith), ends.on_plane 1 0))

  pub second_on : IsOnLine (toward_of c) x.line (of_spot x.b)
  second_on = subst (IsOnLine (toward_of c) x.line) (second_alone a b) (on_line (weighted_sum (pos 0) a (pos 1) b) (ends.on_face 0 1 (omega arith), ends.on_plane 0 1))

  pub left_of_right : IsRightOf (toward_of c) x p → IsLeftOfBorder c h.face p
  left_of_right right = by right.beside
    where
      by : IsUpwardBetween (toward_of c) a b p ⊎ IsUpwardBetween (toward_of c) b a p → IsLeftOfBorder c h.face p
      by (inl beside) = left_of_border c h.face x.line p positive a b x.a.positive x.b.positive first_on second_on beside ends right.before
      by (inr beside) = left_of_border c h.face x.line p positive b a x.b.positive x.a.positive second_on first_on beside (ends_turned c h.face a b ends) right.before

  pub right_of_left : IsLeftOfBorder c h.face p → IsRightOf (toward_of c) x p
  right_of_left left = let beside = beside_of_border c h.face x.line p positive a b ends left in record { beside = beside; before = by beside }
    where
      by : IsUpwardBetween (toward_of c) a b p ⊎ IsUpwardBetween (toward_of c) b a p → ((x.line.a *ℤ across_of (toward_of c) p) +ℤ (x.line.b *ℤ upward_of (toward_of c) p)) <ℤ (x.line.c *ℤ p.w)
      by (inl beside) = left_of_line c h.face x.line p positive a b x.a.positive x.b.positive first_on second_on beside left (on_line left.right left.right_on)
      by (inr beside) = left_of_line c h.face x.line p positive b a x.b.positive x.a.positive second_on first_on beside left (on_line left.right left.right_on)
