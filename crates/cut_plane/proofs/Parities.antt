-- An odd number of segments are to the right of a point exactly where the point is in the section.
use Rattle.std.proofs.Common.{◌≡◌, ◌↔◌, ◌⊎◌, inl, inr, ℕ, zero, suc, ◌+◌, ◌%◌, ◌<◌, List, [], ◌∷◌, refl, sym, subst, ◌∙◌, arith}
use Rattle.std.specs.Prelude.{ℤ, pos, ◌+ℤ◌, ◌-ℤ◌, ◌*ℤ◌, ◌<ℤ◌, ◌≤ℤ◌}
use Rattle.std.proofs.lemmas.Int.{ints, by_lt_z}
use Rattle.integers.proofs.Comparisons.{not_negative_of_positive, negation_positive}
use Rattle.integers.proofs.Ring.{var, con, ◌⊕◌, ◌⊖◌, ◌⊗◌, ring, by_one}
use Rattle.integers.proofs.Signs.{mul_pos, mul_nonneg}
use Rattle.lattice.specs.declared.points.Corner.{Corner}
use Rattle.lattice.specs.Triple.{Triple}
use Rattle.lattice.specs.Points.{Point, IsPoint, of_spot, point_of, across_of, upward_of}
use Rattle.lattice.specs.Cuts.{Plane, toward_of, IsOnPlane, IsBeyond, IsBeforePlane}
use Rattle.geometry.specs.Faces.{face_sum, IsPointOfFace}
use Rattle.geometry.specs.Parts.{Part, Face}
use Rattle.geometry.specs.Cuts.{over_of, IsOnBorder, IsCrossed, IsLeftOfBorder, IsCount, IsInSection}
use Rattle.geometry.proofs.Borders.{face_rise, rise_on, over_beyond, over_before, side_of_corner}
use Rattle.cut_plane.specs.declared.segments.Segment.{Segment}
use Rattle.cut_plane.specs.Loops.{AreBorders}
use Rattle.cut_plane.specs.Sides.{IsRightOf, IsNotAbove, IsLower, IsUpwardBetween}
use Rattle.cut_plane.proofs.Beside.{not_both}
use Rattle.cut_plane.proofs.BySegments.{odd_alike}
use Rattle.cut_plane.proofs.RightOf.{left_of_right, right_of_left}

-- ---- a face with a point on the plane has corners on both sides
module _ (c : Plane) {s : Part} (f : Face s) where
  -- heights of one sign have no sum of 0
  term_least : (n : ℕ) (x : ℤ) → pos 0 <ℤ x → pos 0 ≤ℤ (pos n *ℤ x)
  term_least n x h = mul_nonneg (pos n) x (omega (arith, ints)) (not_negative_of_positive x h)

  above_sum : (i j n : ℕ) (x y z : ℤ) → pos 0 <ℤ x → pos 0 <ℤ y → pos 0 <ℤ z → 0 < i + j + n → ((pos i *ℤ x) +ℤ (pos j *ℤ y)) +ℤ (pos n *ℤ z) ≡ pos 0 → ⊥
  above_sum i j n x y z hx hy hz some e = by i j n some (term_least i x hx) (term_least j y hy) (term_least n z hz) e
    where
      first : (a b c : ℤ) → pos 0 <ℤ a → pos 0 ≤ℤ b → pos 0 ≤ℤ c → (a +ℤ b) +ℤ c ≡ pos 0 → ⊥
      first a b c h k l e = omega (arith, ints)

      second : (a b c : ℤ) → pos 0 ≤ℤ a → pos 0 <ℤ b → pos 0 ≤ℤ c → (a +ℤ b) +ℤ c ≡ pos 0 → ⊥
      second a b c h k l e = omega (arith, ints)

      third : (a b c : ℤ) → pos 0 ≤ℤ a → pos 0 ≤ℤ b → pos 0 <ℤ c → (a +ℤ b) +ℤ c ≡ pos 0 → ⊥
      third a b c h k l e = omega (arith, ints)

      by : (i j n : ℕ) → 0 < i + j + n → pos 0 ≤ℤ (pos i *ℤ x) → pos 0 ≤ℤ (pos j *ℤ y) → pos 0 ≤ℤ (pos n *ℤ z) → ((pos i *ℤ x) +ℤ (pos j *ℤ y)) +ℤ (pos n *ℤ z) ≡ pos 0 → ⊥
      by zero zero zero some p q r e = absurd (omega arith)
      by (suc i) j n some p q r e = first (pos (suc i) *ℤ x) (pos j *ℤ y) (pos n *ℤ z) (mul_pos (pos (suc i)) x (omega (arith, ints)) hx) q r e
      by zero (suc j) n some p q r e = second (pos 0 *ℤ x) (pos (suc j) *ℤ y) (pos n *ℤ z) p (mul_pos (pos (suc j)) y (omega (arith, ints)) hy) r e
      by zero zero (suc n) some p q r e = third (pos 0 *ℤ x) (pos 0 *ℤ y) (pos (suc n) *ℤ z) p q (mul_pos (pos (suc n)) z (omega (arith, ints)) hz) e

  below_sum : (i j n : ℕ) (x y z : ℤ) → x <ℤ pos 0 → y <ℤ pos 0 → z <ℤ pos 0 → 0 < i + j + n → ((pos i *ℤ x) +ℤ (pos j *ℤ y)) +ℤ (pos n *ℤ z) ≡ pos 0 → ⊥
  below_sum i j n x y z hx hy hz some e =
      above_sum i j n (pos 0 -ℤ x) (pos 0 -ℤ y) (pos 0 -ℤ z) (negation_positive x hx) (negation_positive y hy) (negation_positive z hz) some
      (by_one _ _ (((pos i *ℤ x) +ℤ (pos j *ℤ y)) +ℤ (pos n *ℤ z)) (pos 0) (pos 0 -ℤ pos 1)
      (ring (pos i ∷ pos j ∷ pos n ∷ x ∷ y ∷ z ∷ [])
      ((((var 0 ⊗ (con (pos 0) ⊖ var 3)) ⊕ (var 1 ⊗ (con (pos 0) ⊖ var 4))) ⊕ (var 2 ⊗ (con (pos 0) ⊖ var 5))) ⊖ con (pos 0))
      (((((var 0 ⊗ var 3) ⊕ (var 1 ⊗ var 4)) ⊕ (var 2 ⊗ var 5)) ⊖ con (pos 0)) ⊗ (con (pos 0) ⊖ con (pos 1))) refl) e)

  pub crossed_of_point : (r : Point) → IsOnBorder c f r → IsCrossed c f
  crossed_of_point r ((i, j, n, some, is), on) = by (side_of_corner c f.a) (side_of_corner c f.b) (side_of_corner c f.c)
    where
      sum : ((pos i *ℤ over_of c f.a) +ℤ (pos j *ℤ over_of c f.b)) +ℤ (pos n *ℤ over_of c f.c) ≡ pos 0
      sum = sym (face_rise c f.a f.b f.c i j n) ∙ rise_on c (face_sum f.a f.b f.c i j n) (subst (IsOnPlane c) is on)

      by : IsBeyond c (point_of f.a) ⊎ IsBeforePlane c (point_of f.a) → IsBeyond c (point_of f.b) ⊎ IsBeforePlane c (point_of f.b) → IsBeyond c (point_of f.c) ⊎ IsBeforePlane c (point_of f.c) → IsCrossed c f
      by (inl x) (inl y) (inl z) = absurd (below_sum i j n (over_of c f.a) (over_of c f.b) (over_of c f.c) (over_beyond c f.a x) (over_beyond c f.b y) (over_beyond c f.c z) some sum)
      by (inl x) y (inr z) = record { before = inr (inr z); beyond = inl x }
      by (inl x) (inr y) z = record { before = inr (inl y); beyond = inl x }
      by (inr x) (inl y) z = record { before = inl x; beyond = inr (inl y) }
      by (inr x) y (inl z) = record { before = inl x; beyond = inr (inr z) }
      by (inr x) (inr y) (inr z) = absurd (above_sum i j n (over_of c f.a) (over_of c f.b) (over_of c f.c) (over_before c f.a x) (over_before c f.b y) (over_before c f.c z) some sum)

-- the same of a face with the same corners
moved : (c : Plane) {s : Part} (f g : Face s) (p : Point) → f.a ≡ g.a → f.b ≡ g.b → f.c ≡ g.c → IsLeftOfBorder c f p → IsLeftOfBorder c g p
moved c f g p ea eb ec h = record {
  right = h.right;
  above = h.above;
  right_on = (on h.right h.right_on.0, h.right_on.1);
  above_on = (on h.above h.above_on.0, h.above_on.1);
  same_upward = h.same_upward;
  more_across = h.more_across;
  more_upward = h.more_upward;
}
  where
    on : (r : Point) → IsPointOfFace f.a f.b f.c r → IsPointOfFace g.a g.b g.c r
    on r there = subst (λ (k : Corner). IsPointOfFace g.a g.b k r) ec (subst (λ (k : Corner). IsPointOfFace g.a k f.c r) eb (subst (λ (k : Corner). IsPointOfFace k f.b f.c r) ea there))

-- ---- to the right or not
decide_right : (c : Plane) (x : Segment) (p : Point) → IsRightOf (toward_of c) x p ⊎ ¬ IsRightOf (toward_of c) x p
decide_right c x p =
    by_lt_z ((x.line.a *ℤ across_of d p) +ℤ (x.line.b *ℤ upward_of d p)) (x.line.c *ℤ p.w)
    (λ before. from_sides before (order a) (order b)) (λ least. inr (λ h. apart _ _ least h.before))
  where
    d : Triple
    d = toward_of c

    a : Point
    a = of_spot x.a

    b : Point
    b = of_spot x.b

    order : (q : Point) → IsNotAbove d q p ⊎ IsLower d p q
    order q = by_lt_z (upward_of d p *ℤ q.w) (upward_of d q *ℤ p.w) inr inl

    apart : (x y : ℤ) → y ≤ℤ x → x <ℤ y → ⊥
    apart x y h k = omega (arith, ints)

    from_sides : ((x.line.a *ℤ across_of d p) +ℤ (x.line.b *ℤ upward_of d p)) <ℤ (x.line.c *ℤ p.w) → IsNotAbove d a p ⊎ IsLower d p a → IsNotAbove d b p ⊎ IsLower d p b → IsRightOf d x p ⊎ ¬ IsRightOf d x p
    from_sides before (inl h) (inr k) = inl (record { beside = inl (h, k); before = before })
    from_sides before (inr h) (inl k) = inl (record { beside = inr (k, h); before = before })
    from_sides before (inl h) (inl k) = inr (λ right. none right.beside)
      where
        none : IsUpwardBetween d a b p ⊎ IsUpwardBetween d b a p → ⊥
        none (inl g) = not_both d b p k g.1
        none (inr g) = not_both d a p h g.1
    from_sides before (inr h) (inr k) = inr (λ right. none right.beside)
      where
        none : IsUpwardBetween d a b p ⊎ IsUpwardBetween d b a p → ⊥
        none (inl g) = not_both d a p g.0 h
        none (inr g) = not_both d b p g.0 k

-- ---- the section by the segments
pub in_section : (c : Plane) (s : Part) (segments : List Segment) (starts : List ℕ) → AreBorders c s segments starts → (p : Point) → IsPoint p
    → (n : ℕ) → IsCount Segment (λ x. IsRightOf (toward_of c) x p) segments n → (n % 2 ≡ 1) ↔ IsInSection c s p
in_section c s segments starts borders p positive =
    odd_alike c s segments starts borders (λ x. IsRightOf (toward_of c) x p) (λ f. IsLeftOfBorder c f p)
    (λ f g ea eb ec. moved c f g p ea eb ec)
    (λ f left. crossed_of_point c f left.right left.right_on)
    (λ x h. (left_of_right c s x h p positive, right_of_left c s x h p positive))
    (λ x. decide_right c x p)
