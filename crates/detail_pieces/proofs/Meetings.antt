-- Where the way from a spot inside a half plane to one outside meets the border, and that a spot can be seen there.
use Rattle.std.proofs.Common.{◌≡◌, ℕ, [], ◌∷◌, refl, sym, ap, subst, ◌∙◌, ◌+◌, ◌<◌, ◌≤◌, ◌*◌, ◌^◌, unsigned_abs, arith}
use Rattle.std.specs.Prelude.{ℤ, pos, ◌+ℤ◌, ◌-ℤ◌, ◌*ℤ◌, ◌<ℤ◌}
use Rattle.std.proofs.lemmas.Int.{ints}
use Rattle.integers.proofs.Absolutes.{abs_of_positive, abs_of_negative, natural_not_negative}
use Rattle.integers.proofs.Comparisons.{sum_exchanged}
use Rattle.integers.proofs.Ring.{var, con, ◌⊕◌, ◌⊖◌, ◌⊗◌, ring, by_three, same_of_gap}
use Rattle.integers.proofs.Signs.{mul_pos, mul_neg, zero_of_either}
use Rattle.lattice.specs.declared.points.Spot.{Spot}
use Rattle.lattice.specs.declared.lines.Line.{Line}
use Rattle.lattice.specs.LowestTerms.{leading_of}
use Rattle.lattice.specs.Triple.{Triple}
use Rattle.lattice.specs.Points.{Point, IsPoint, of_spot, across_of, upward_of}
use Rattle.lattice.specs.Lines.{IsOnLine}
use Rattle.lattice.proofs.OnLines.{on_line_of_sum}
use Rattle.lattice.proofs.SameLines.{along_line}
use Rattle.geometry.specs.Pieces.{spot_sum}
use Rattle.geometry.proofs.OnLines.{sum_is_point}
use Rattle.detail_pieces.specs.declared.sides.Bound.{Bound}
use Rattle.detail_pieces.specs.declared.sides.Bound.TheVariants.{Least, Most}
use Rattle.detail_pieces.specs.declared.sides.Side.{Side}
use Rattle.detail_pieces.specs.declared.sides.ViewAxis.{ViewAxis}
use Rattle.detail_pieces.specs.declared.sides.ViewAxis.TheVariants.{Across, Upward}
use Rattle.detail_pieces.specs.declared.places.ViewPlace.{ViewPlace}
use Rattle.detail_pieces.specs.inner.Places.{IsSeenAt, IsNear, IsInBox, HasSpot, crossing_of, IsCrossing}
use Rattle.detail_pieces.specs.inner.Sides.{seen_of, over_by, over_of, meeting_of}
use Rattle.detail_pieces.proofs.Borders.{over_by_same, over_sum}
use Rattle.detail_pieces.proofs.Boxes.{near_mix}

-- ---- where spots are
near_spot : (x w : ℤ) → pos 0 <ℤ w → unsigned_abs x ≤ 2 ^ 21 * unsigned_abs w → IsNear x w
near_spot x w h near = record { low = omega (arith, ints); high = omega (arith, ints) }

sum_in_box : (a b : Spot) (i j : ℕ) → IsInBox (spot_sum a b i j)
sum_in_box a b i j = record {
  x = near_mix (pos i) (pos j) a.x b.x a.w b.w (natural_not_negative i) (natural_not_negative j) (near_spot a.x a.w a.positive a.x_near) (near_spot b.x b.w b.positive b.x_near);
  y = near_mix (pos i) (pos j) a.y b.y a.w b.w (natural_not_negative i) (natural_not_negative j) (near_spot a.y a.w a.positive a.y_near) (near_spot b.y b.w b.positive b.y_near);
  z = near_mix (pos i) (pos j) a.z b.z a.w b.w (natural_not_negative i) (natural_not_negative j) (near_spot a.z a.w a.positive a.z_near) (near_spot b.z b.w b.positive b.z_near);
}

-- ---- lines that run along a border
pub leads : (a b : ℤ) → pos 0 <ℤ leading_of a b → a ≡ pos 0 → b ≡ pos 0 → ⊥
leads a b h f e = nothing (subst (λ (y : ℤ). pos 0 <ℤ y) e (subst (λ (x : ℤ). pos 0 <ℤ leading_of x b) f h))
  where
    nothing : pos 0 <ℤ pos 0 → ⊥
    nothing h = omega (arith, ints)

-- the steps along such a line don't cross the border
no_step : (a b u v : ℤ) → pos 0 <ℤ leading_of a b → b ≡ pos 0 → (a *ℤ u) +ℤ (b *ℤ v) ≡ pos 0 → u ≡ pos 0
no_step a b u v h e on = zero_of_either a b u (leads a b h) (alone e on) (none e)
  where
    none : b ≡ pos 0 → b *ℤ u ≡ pos 0
    none e = ap (λ (x : ℤ). x *ℤ u) e ∙ ring (u ∷ []) (con (pos 0) ⊗ var 0) (con (pos 0)) refl

    alone : b ≡ pos 0 → (a *ℤ u) +ℤ (b *ℤ v) ≡ pos 0 → a *ℤ u ≡ pos 0
    alone e h = ring (a ∷ u ∷ v ∷ []) (var 0 ⊗ var 1) ((var 0 ⊗ var 1) ⊕ (con (pos 0) ⊗ var 2)) refl ∙ (λ i. (a *ℤ u) +ℤ (sym e i *ℤ v)) ∙ h

no_step_up : (a b u v : ℤ) → pos 0 <ℤ leading_of a b → a ≡ pos 0 → (a *ℤ u) +ℤ (b *ℤ v) ≡ pos 0 → v ≡ pos 0
no_step_up a b u v h e on = zero_of_either a b v (leads a b h) (none e) (alone e on)
  where
    none : a ≡ pos 0 → a *ℤ v ≡ pos 0
    none e = ap (λ (x : ℤ). x *ℤ v) e ∙ ring (v ∷ []) (con (pos 0) ⊗ var 0) (con (pos 0)) refl

    alone : a ≡ pos 0 → (a *ℤ u) +ℤ (b *ℤ v) ≡ pos 0 → b *ℤ v ≡ pos 0
    alone e h = ring (b ∷ u ∷ v ∷ []) (var 0 ⊗ var 2) ((con (pos 0) ⊗ var 1) ⊕ (var 0 ⊗ var 2)) refl ∙ (λ i. (sym e i *ℤ u) +ℤ (b *ℤ v)) ∙ h

-- from the one coordinate of a place on a line to the other
other_coordinate : (a b c u v w s t z : ℤ) → (b ≡ pos 0 → ⊥) → (a *ℤ u) +ℤ (b *ℤ v) ≡ c *ℤ w → (a *ℤ s) +ℤ (b *ℤ t) ≡ c *ℤ z → u *ℤ z ≡ s *ℤ w → v *ℤ z ≡ t *ℤ w
other_coordinate a b c u v w s t z some e f g =
    let none = by_three (b *ℤ ((v *ℤ z) -ℤ (t *ℤ w))) (pos 0) ((a *ℤ u) +ℤ (b *ℤ v)) (c *ℤ w) z ((a *ℤ s) +ℤ (b *ℤ t)) (c *ℤ z) (pos 0 -ℤ w) (u *ℤ z) (s *ℤ w) (pos 0 -ℤ a)
    (ring (a ∷ b ∷ c ∷ u ∷ v ∷ w ∷ s ∷ t ∷ z ∷ [])
    ((var 1 ⊗ ((var 4 ⊗ var 8) ⊖ (var 7 ⊗ var 5))) ⊖ con (pos 0))
    ((((((var 0 ⊗ var 3) ⊕ (var 1 ⊗ var 4)) ⊖ (var 2 ⊗ var 5)) ⊗ var 8) ⊕ ((((var 0 ⊗ var 6) ⊕ (var 1 ⊗ var 7)) ⊖ (var 2 ⊗ var 8)) ⊗ (con (pos 0) ⊖ var 5))) ⊕ (((var 3 ⊗ var 8) ⊖ (var 6 ⊗ var 5)) ⊗ (con (pos 0) ⊖ var 0))) refl) e f g in
    same_of_gap (v *ℤ z) (t *ℤ w) (zero_of_either b b _ (λ k l. some k) none none)

-- ---- the meeting
module _ (d : Triple) (h : Side) (a b : Spot) (inside : pos 0 <ℤ over_of d h (of_spot a)) (outside : over_of d h (of_spot b) <ℤ pos 0) where
  -- the two are not seen at one distance from the border
  apart : seen_of d h.axis (of_spot b) *ℤ a.w ≡ seen_of d h.axis (of_spot a) *ℤ b.w → ⊥
  apart e = go _ _ (over_by_same h.bound h.at (seen_of d h.axis (of_spot b)) b.w (seen_of d h.axis (of_spot a)) a.w e) (times_neg _ _ a.positive outside) (mul_pos _ b.w inside b.positive)
    where
      times_neg : (f w : ℤ) → pos 0 <ℤ w → f <ℤ pos 0 → (f *ℤ w) <ℤ pos 0
      times_neg f w h k = let m = mul_neg w f h k in turned m
        where
          turned : (w *ℤ f) <ℤ pos 0 → (f *ℤ w) <ℤ pos 0
          turned m = omega (arith, ints)

      go : (x y : ℤ) → x ≡ y → x <ℤ pos 0 → pos 0 <ℤ y → ⊥
      go x y e h k = omega (arith, ints)

  pub weight_positive : 0 < unsigned_abs (over_of d h (of_spot b)) + unsigned_abs (over_of d h (of_spot a))
  weight_positive = go (over_of d h (of_spot b)) (over_of d h (of_spot a)) inside
    where
      go : (f g : ℤ) → pos 0 <ℤ g → 0 < unsigned_abs f + unsigned_abs g
      go f g k = omega (arith, ints)

  pub meeting_is_point : IsPoint (meeting_of d h a b)
  meeting_is_point = sum_is_point a b (unsigned_abs (over_of d h (of_spot b))) (unsigned_abs (over_of d h (of_spot a))) weight_positive

  -- it is on the border
  pub meets : over_of d h (meeting_of d h a b) ≡ pos 0
  meets =
      over_sum d h a b (unsigned_abs (over_of d h (of_spot b))) (unsigned_abs (over_of d h (of_spot a)))
      ∙ (λ i. (abs_of_negative (over_of d h (of_spot b)) outside i *ℤ over_of d h (of_spot a)) +ℤ (abs_of_positive (over_of d h (of_spot a)) inside i *ℤ over_of d h (of_spot b)))
      ∙ ring (over_of d h (of_spot a) ∷ over_of d h (of_spot b) ∷ []) (((con (pos 0) ⊖ var 1) ⊗ var 0) ⊕ (var 0 ⊗ var 1)) (con (pos 0)) refl

  module _ (l : Line) (on_a : IsOnLine d l (of_spot a)) (on_b : IsOnLine d l (of_spot b)) where
    pub meeting_on_line : IsOnLine d l (meeting_of d h a b)
    meeting_on_line = on_line_of_sum d l (pos (unsigned_abs (over_of d h (of_spot b)))) (pos (unsigned_abs (over_of d h (of_spot a)))) (of_spot a) (of_spot b) on_a on_b

    -- the line doesn't run along the border
    pub crosses : ¬ (crossing_of h.axis l ≡ pos 0)
    crosses = by h.axis apart
      where
        by : (u : ViewAxis) → (seen_of d u (of_spot b) *ℤ a.w ≡ seen_of d u (of_spot a) *ℤ b.w → ⊥) → crossing_of u l ≡ pos 0 → ⊥
        by Upward far e = far (same_of_gap _ _ (no_step_up l.a l.b _ _ l.leads e (along_line d l (of_spot a) (of_spot b) on_a on_b)))
        by Across far e = far (same_of_gap _ _ (no_step l.a l.b _ _ l.leads e (along_line d l (of_spot a) (of_spot b) on_a on_b)))

    -- it is seen at the line's place on the border
    pub seen_there : (t : ViewPlace) → IsCrossing l h.axis h.at t → IsSeenAt d t (meeting_of d h a b)
    seen_there t k = seen h.axis (meeting_of d h a b) crosses meeting_on_line k (on_border h.bound _ _ meets)
      where
        on_border : (bound : Bound) (x y : ℤ) → over_by bound x y ≡ pos 0 → x ≡ y
        on_border Least x y e = same_of_gap x y e
        on_border Most x y e = sym (same_of_gap y x e)

        border : (u n w z k : ℤ) → u ≡ k *ℤ w → n ≡ k *ℤ z → u *ℤ z ≡ n *ℤ w
        border u n w z k e f = ap (λ (v : ℤ). v *ℤ z) e ∙ ring (k ∷ w ∷ z ∷ []) ((var 0 ⊗ var 1) ⊗ var 2) ((var 0 ⊗ var 2) ⊗ var 1) refl ∙ ap (λ (v : ℤ). v *ℤ w) (sym f)

        seen : (u : ViewAxis) (p : Point) → (crossing_of u l ≡ pos 0 → ⊥) → IsOnLine d l p → IsCrossing l u h.at t → seen_of d u p ≡ h.at *ℤ p.w → IsSeenAt d t p
        seen Upward p some on k e =
            let same = border (upward_of d p) t.upward p.w t.den h.at e k.on_border in
            record {
              across = other_coordinate l.b l.a l.c (upward_of d p) (across_of d p) p.w t.upward t.across t.den some
                  (sum_exchanged (l.b *ℤ upward_of d p) (l.a *ℤ across_of d p) ∙ on) (sum_exchanged (l.b *ℤ t.upward) (l.a *ℤ t.across) ∙ k.on_line) same;
              upward = same;
            }
        seen Across p some on k e =
            let same = border (across_of d p) t.across p.w t.den h.at e k.on_border in
            record {
              across = same;
              upward = other_coordinate l.a l.b l.c (across_of d p) (upward_of d p) p.w t.across t.upward t.den some on k.on_line same;
            }

    -- where spots are some point is seen there
    pub has_spot : (t : ViewPlace) → IsCrossing l h.axis h.at t → HasSpot d t
    has_spot t k = record {
      at = meeting_of d h a b;
      is = meeting_is_point;
      in_box = sum_in_box a b (unsigned_abs (over_of d h (of_spot b))) (unsigned_abs (over_of d h (of_spot a)));
      seen = seen_there t k;
    }
