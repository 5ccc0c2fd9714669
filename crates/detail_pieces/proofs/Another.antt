-- A point between two spots, at neither of them, that is in the window and at none of its corners isn't the only one there.
use Rattle.std.proofs.Common.{◌≡◌, ◌⊎◌, inl, inr, ℕ, zero, suc, [], ◌∷◌, refl, sym, ap, ◌∙◌, ◌+◌, ◌*◌, ◌<◌, unsigned_abs, arith}
use Rattle.std.specs.Prelude.{ℤ, pos, negsuc, ◌+ℤ◌, ◌-ℤ◌, ◌*ℤ◌, ◌<ℤ◌, ◌≤ℤ◌}
use Rattle.std.proofs.lemmas.Int.{ints, by_lt_z}
use Rattle.integers.proofs.Absolutes.{natural_not_negative, pos-sum, pos-product}
use Rattle.integers.proofs.Comparisons.{at_most_of_gap, gap_of_at_most, gap_of_same, negation_positive, not_negative_at, positive_not_zero, sum_not_negative}
use Rattle.integers.proofs.Orders.{same_of_products}
use Rattle.integers.proofs.Ring.{var, con, ◌⊕◌, ◌⊖◌, ◌⊗◌, ring, by_one}
use Rattle.integers.proofs.Signs.{mul_nonneg}
use Rattle.integers.proofs.Weighted.{at_first, at_second, sum_pos}
use Rattle.lattice.specs.Triple.{Triple, dot, right_axis, up_axis}
use Rattle.lattice.specs.Points.{Point, IsPoint, of_spot, scaled, across_of, upward_of, OnOneSight}
use Rattle.lattice.specs.declared.points.Spot.{Spot}
use Rattle.lattice.proofs.OnLines.{product_of_sum}
use Rattle.geometry.specs.Pieces.{spot_sum, LiesBetween}
use Rattle.geometry.proofs.OnLines.{sum_is_point}
use Rattle.geometry.proofs.Sights.{sight_back, sight_on}
use Rattle.drawing_laws.proofs.ViewOrder.{seen_itself}
use Rattle.detail_pieces.specs.declared.sides.Bound.{Bound}
use Rattle.detail_pieces.specs.declared.sides.Bound.TheVariants.{Least, Most}
use Rattle.detail_pieces.specs.declared.sides.ViewAxis.{ViewAxis}
use Rattle.detail_pieces.specs.declared.sides.ViewAxis.TheVariants.{Across, Upward}
use Rattle.detail_pieces.specs.declared.windows.Window.{Window}
use Rattle.detail_pieces.specs.Windows.{IsWithinWindow, IsAtWindowCorner}
use Rattle.detail_pieces.proofs.Borders.{over_border, border_sum, border_along}

-- ---- numbers
-- of fractions x / v and y / w
same_level : (x y v w u : ℤ) → pos 0 <ℤ v → x *ℤ w ≡ y *ℤ v → x ≡ u *ℤ v → y ≡ u *ℤ w
same_level x y v w u positive h e =
    same_of_products y (u *ℤ w) v positive (sym h ∙ (λ i. e i *ℤ w) ∙ ring (u ∷ v ∷ w ∷ []) ((var 0 ⊗ var 1) ⊗ var 2) ((var 0 ⊗ var 2) ⊗ var 1) refl)

same_or_less : (x y : ℤ) → x ≤ℤ y → (x ≡ y) ⊎ (x <ℤ y)
same_or_less x y h = by_lt_z x y (λ less. inr less) (λ more. inl (omega (arith, ints)))

-- k times a weighted sum and once another
weight : (k i m : ℕ) → pos (k * i + m) ≡ (pos k *ℤ pos i) +ℤ pos m
weight k i m = pos-sum (k * i) m ∙ ap (λ (z : ℤ). z +ℤ pos m) (pos-product k i)

pushed : (k i j m n : ℕ) (x y : ℤ) → (pos (k * i + m) *ℤ x) +ℤ (pos (k * j + n) *ℤ y) ≡ (pos k *ℤ ((pos i *ℤ x) +ℤ (pos j *ℤ y))) +ℤ ((pos m *ℤ x) +ℤ (pos n *ℤ y))
pushed k i j m n x y =
    (λ t. (weight k i m t *ℤ x) +ℤ (weight k j n t *ℤ y))
    ∙ ring (pos k ∷ pos i ∷ pos j ∷ pos m ∷ pos n ∷ x ∷ y ∷ [])
    ((((var 0 ⊗ var 1) ⊕ var 3) ⊗ var 5) ⊕ (((var 0 ⊗ var 2) ⊕ var 4) ⊗ var 6))
    ((var 0 ⊗ ((var 1 ⊗ var 5) ⊕ (var 2 ⊗ var 6))) ⊕ ((var 3 ⊗ var 5) ⊕ (var 4 ⊗ var 6))) refl

far : (k : ℕ) (x y : ℤ) → pos 0 <ℤ x → unsigned_abs y < k → pos 0 ≤ℤ ((pos k *ℤ x) +ℤ y)
far k (pos zero) y h less = absurd (omega (arith, ints))
far k (pos (suc x)) y h less = omega (arith, ints)
far k (negsuc x) y h less = absurd (omega (arith, ints))

far_or : (k : ℕ) (x y : ℤ) → pos 0 ≤ℤ x → (pos 0 <ℤ x) ⊎ (pos 0 ≤ℤ y) → unsigned_abs y < k → pos 0 ≤ℤ ((pos k *ℤ x) +ℤ y)
far_or k x y least (inl h) less = far k x y h less
far_or k x y least (inr h) less = sum_not_negative _ _ (mul_nonneg (pos k) x (natural_not_negative k) least) h

-- of fractions x / w and y / v, and of k times the second's numbers and once the first's
without : (k x w y v : ℤ) → ((k *ℤ y) +ℤ x) *ℤ v ≡ y *ℤ ((k *ℤ v) +ℤ w) → x *ℤ v ≡ y *ℤ w
without k x w y v e = by_one (x *ℤ v) (y *ℤ w) (((k *ℤ y) +ℤ x) *ℤ v) (y *ℤ ((k *ℤ v) +ℤ w)) (pos 1)
    (ring (k ∷ x ∷ w ∷ y ∷ v ∷ [])
    ((var 1 ⊗ var 4) ⊖ (var 3 ⊗ var 2))
    (((((var 0 ⊗ var 3) ⊕ var 1) ⊗ var 4) ⊖ (var 3 ⊗ ((var 0 ⊗ var 4) ⊕ var 2))) ⊗ con (pos 1)) refl) e

-- a sum that is 0 hasn't two numbers below it
one_of : (i j : ℕ) (x y : ℤ) → 0 < i + j → (pos i *ℤ x) +ℤ (pos j *ℤ y) ≡ pos 0 → (pos 0 ≤ℤ x) ⊎ (pos 0 ≤ℤ y)
one_of i j x y some e = by (sign x) (sign y)
  where
    sign : (x : ℤ) → (pos 0 ≤ℤ x) ⊎ (x <ℤ pos 0)
    sign x = by_lt_z x (pos 0) (λ h. inr h) (λ h. inl (omega (arith, ints)))

    none : (pos i *ℤ (pos 0 -ℤ x)) +ℤ (pos j *ℤ (pos 0 -ℤ y)) ≡ pos 0
    none = ring (pos i ∷ pos j ∷ x ∷ y ∷ []) ((var 0 ⊗ (con (pos 0) ⊖ var 2)) ⊕ (var 1 ⊗ (con (pos 0) ⊖ var 3))) (con (pos 0) ⊖ ((var 0 ⊗ var 2) ⊕ (var 1 ⊗ var 3))) refl ∙ (λ t. pos 0 -ℤ e t)

    by : (pos 0 ≤ℤ x) ⊎ (x <ℤ pos 0) → (pos 0 ≤ℤ y) ⊎ (y <ℤ pos 0) → (pos 0 ≤ℤ x) ⊎ (pos 0 ≤ℤ y)
    by (inl h) k = inl h
    by (inr h) (inl k) = inr k
    by (inr h) (inr k) = absurd (positive_not_zero _ (sum_pos (pos 0 -ℤ x) (pos 0 -ℤ y) i j (negation_positive x h) (negation_positive y k) some) none)

first_alone : (x y : ℤ) → (pos 1 *ℤ x) +ℤ (pos 0 *ℤ y) ≡ x
first_alone x y = ring (x ∷ y ∷ []) ((con (pos 1) ⊗ var 0) ⊕ (con (pos 0) ⊗ var 1)) (var 0) refl

second_alone : (x y : ℤ) → (pos 0 *ℤ x) +ℤ (pos 1 *ℤ y) ≡ y
second_alone x y = ring (x ∷ y ∷ []) ((con (pos 0) ⊗ var 0) ⊕ (con (pos 1) ⊗ var 1)) (var 1) refl

two_levels : (u v w x : ℤ) → u <ℤ v → pos 0 <ℤ w → u *ℤ w ≡ x → x ≡ v *ℤ w → ⊥
two_levels u v w x less positive e f = same u v less (same_of_products u v w positive (e ∙ f))
  where
    same : (u v : ℤ) → u <ℤ v → ¬ (u ≡ v)
    same u v h e = omega (arith, ints)

more_of : (x y : ℤ) → x <ℤ y → pos 0 <ℤ (y -ℤ x)
more_of x y h = omega (arith, ints)

least_of : (a b c e : ℕ) → (a < suc (a + b + c + e)) × (b < suc (a + b + c + e)) × (c < suc (a + b + c + e)) × (e < suc (a + b + c + e))
least_of a b c e = (omega arith, omega arith, omega arith, omega arith)

-- ---- from a sum of two spots, in the window, towards one of them
module _ (d : Triple) (o : Window) (a b : Spot) (i j : ℕ) where
  abbrev sum : Point
  sum = spot_sum a b i j

  -- over a border, or the other point isn't outside
  abbrev Stays : Bound → ViewAxis → ℤ → Point → Type 0
  Stays bound axis k e = (pos 0 <ℤ over_border d bound axis k sum) ⊎ (pos 0 ≤ℤ over_border d bound axis k e)

  record StaysInside (e : Point) : Type 0 where
    left : Stays Least Across o.u1 e
    right : Stays Most Across o.u2 e
    below : Stays Least Upward o.v1 e
    above : Stays Most Upward o.v2 e

  module _ (within : IsWithinWindow d o sum) (m n : ℕ) (inside : StaysInside (spot_sum a b m n)) where
    abbrev far_of : Bound → ViewAxis → ℤ → ℕ
    far_of bound axis k = unsigned_abs (over_border d bound axis k (spot_sum a b m n))

    abbrev times : ℕ
    times = suc (far_of Least Across o.u1 + far_of Most Across o.u2 + far_of Least Upward o.v1 + far_of Most Upward o.v2)

    abbrev next : Point
    next = spot_sum a b (times * i + m) (times * j + n)

    stays : (bound : Bound) (axis : ViewAxis) (k : ℤ) → pos 0 ≤ℤ over_border d bound axis k sum → Stays bound axis k (spot_sum a b m n) → far_of bound axis k < times
        → pos 0 ≤ℤ over_border d bound axis k next
    stays bound axis k least or less =
        not_negative_at _ _
        (border_sum d bound axis k a b (times * i + m) (times * j + n)
        ∙ pushed times i j m n (over_border d bound axis k (of_spot a)) (over_border d bound axis k (of_spot b))
        ∙ (λ t. (pos times *ℤ sym (border_sum d bound axis k a b i j) t) +ℤ sym (border_sum d bound axis k a b m n) t))
        (far_or times _ _ least or less)

    next_within : IsWithinWindow d o next
    next_within =
        let less = least_of (far_of Least Across o.u1) (far_of Most Across o.u2) (far_of Least Upward o.v1) (far_of Most Upward o.v2) in
        record {
          left = at_most_of_gap _ _ (stays Least Across o.u1 (gap_of_at_most _ _ within.left) inside.left less.0);
          right = at_most_of_gap _ _ (stays Most Across o.u2 (gap_of_at_most _ _ within.right) inside.right less.1);
          below = at_most_of_gap _ _ (stays Least Upward o.v1 (gap_of_at_most _ _ within.below) inside.below less.2);
          above = at_most_of_gap _ _ (stays Most Upward o.v2 (gap_of_at_most _ _ within.above) inside.above less.3);
        }

    -- it is seen beside the sum, if the point that it goes to is
    next_apart : ¬ OnOneSight d (spot_sum a b m n) sum → ¬ OnOneSight d next sum
    next_apart apart same = apart (record { across = along (right_axis d) same.across; upward = along (up_axis d) same.upward })
      where
        along : (r : Triple) → dot r (scaled next) *ℤ sum.w ≡ dot r (scaled sum) *ℤ next.w → dot r (scaled (spot_sum a b m n)) *ℤ sum.w ≡ dot r (scaled sum) *ℤ (spot_sum a b m n).w
        along r e =
            without (pos times) (dot r (scaled (spot_sum a b m n))) (spot_sum a b m n).w (dot r (scaled sum)) sum.w
            ((λ t. sym numbers t *ℤ sum.w) ∙ e ∙ (λ t. dot r (scaled sum) *ℤ pushed times i j m n a.w b.w t))
          where
            numbers : dot r (scaled next) ≡ (pos times *ℤ dot r (scaled sum)) +ℤ dot r (scaled (spot_sum a b m n))
            numbers =
                product_of_sum r (pos (times * i + m)) (pos (times * j + n)) (of_spot a) (of_spot b)
                ∙ pushed times i j m n (dot r (scaled (of_spot a))) (dot r (scaled (of_spot b)))
                ∙ (λ t. (pos times *ℤ sym (product_of_sum r (pos i) (pos j) (of_spot a) (of_spot b)) t) +ℤ sym (product_of_sum r (pos m) (pos n) (of_spot a) (of_spot b)) t)

-- ---- another point
-- r is another point between the two spots in the window
pub record IsAnother (d : Triple) (o : Window) (a b : Spot) (p r : Point) : Type 0 where
  pub positive : IsPoint r
  pub lies : LiesBetween d a b r
  pub within : IsWithinWindow d o r
  pub apart : ¬ OnOneSight d r p

module _ (d : Triple) (o : Window) (a b : Spot) where
  first_end : OnOneSight d (of_spot a) (spot_sum a b 1 0)
  first_end = record { across = end (right_axis d); upward = end (up_axis d) }
    where
      end : (r : Triple) → dot r (scaled (of_spot a)) *ℤ (spot_sum a b 1 0).w ≡ dot r (scaled (spot_sum a b 1 0)) *ℤ a.w
      end r = at_first (dot r (scaled (of_spot a))) a.w (dot r (scaled (of_spot b))) b.w (pos 1) ∙ ap (λ (o : ℤ). o *ℤ a.w) (sym (product_of_sum r (pos 1) (pos 0) (of_spot a) (of_spot b)))

  second_end : OnOneSight d (of_spot b) (spot_sum a b 0 1)
  second_end = record { across = end (right_axis d); upward = end (up_axis d) }
    where
      end : (r : Triple) → dot r (scaled (of_spot b)) *ℤ (spot_sum a b 0 1).w ≡ dot r (scaled (spot_sum a b 0 1)) *ℤ b.w
      end r = at_second (dot r (scaled (of_spot a))) a.w (dot r (scaled (of_spot b))) b.w (pos 1) ∙ ap (λ (o : ℤ). o *ℤ b.w) (sym (product_of_sum r (pos 0) (pos 1) (of_spot a) (of_spot b)))

  module _ (i j : ℕ) (some : 0 < i + j) where
    -- on a border: one of the two spots isn't outside
    abbrev Turns : Bound → ViewAxis → ℤ → Type 0
    Turns bound axis k = (pos 0 ≤ℤ over_border d bound axis k (spot_sum a b 1 0)) ⊎ (pos 0 ≤ℤ over_border d bound axis k (spot_sum a b 0 1))

    turns : (bound : Bound) (axis : ViewAxis) (k : ℤ) → over_border d bound axis k (spot_sum a b i j) ≡ pos 0 → Turns bound axis k
    turns bound axis k e = by (one_of i j (over_border d bound axis k (of_spot a)) (over_border d bound axis k (of_spot b)) some (sym (border_sum d bound axis k a b i j) ∙ e))
      where
        by : (pos 0 ≤ℤ over_border d bound axis k (of_spot a)) ⊎ (pos 0 ≤ℤ over_border d bound axis k (of_spot b)) → Turns bound axis k
        by (inl h) = inl (not_negative_at _ _ (border_sum d bound axis k a b 1 0 ∙ first_alone (over_border d bound axis k (of_spot a)) (over_border d bound axis k (of_spot b))) h)
        by (inr h) = inr (not_negative_at _ _ (border_sum d bound axis k a b 0 1 ∙ second_alone (over_border d bound axis k (of_spot a)) (over_border d bound axis k (of_spot b))) h)

    abbrev Ways : Type 0
    Ways = StaysInside d o a b i j (spot_sum a b 1 0) ⊎ StaysInside d o a b i j (spot_sum a b 0 1)

    -- the sum is on one side at most, so towards one of the spots there are more points in the window
    module _ (within : IsWithinWindow d o (spot_sum a b i j)) (off : ¬ IsAtWindowCorner d o (spot_sum a b i j)) where
      abbrev s : Point
      s = spot_sum a b i j

      to_left : Turns Least Across o.u1 → (across_of d s <ℤ (o.u2 *ℤ s.w)) → ((o.v1 *ℤ s.w) <ℤ upward_of d s) → (upward_of d s <ℤ (o.v2 *ℤ s.w)) → Ways
      to_left (inl h) r v t = inl (record { left = inr h; right = inl (more_of _ _ r); below = inl (more_of _ _ v); above = inl (more_of _ _ t) })
      to_left (inr h) r v t = inr (record { left = inr h; right = inl (more_of _ _ r); below = inl (more_of _ _ v); above = inl (more_of _ _ t) })

      to_right : ((o.u1 *ℤ s.w) <ℤ across_of d s) → Turns Most Across o.u2 → ((o.v1 *ℤ s.w) <ℤ upward_of d s) → (upward_of d s <ℤ (o.v2 *ℤ s.w)) → Ways
      to_right l (inl h) v t = inl (record { left = inl (more_of _ _ l); right = inr h; below = inl (more_of _ _ v); above = inl (more_of _ _ t) })
      to_right l (inr h) v t = inr (record { left = inl (more_of _ _ l); right = inr h; below = inl (more_of _ _ v); above = inl (more_of _ _ t) })

      to_below : ((o.u1 *ℤ s.w) <ℤ across_of d s) → (across_of d s <ℤ (o.u2 *ℤ s.w)) → Turns Least Upward o.v1 → (upward_of d s <ℤ (o.v2 *ℤ s.w)) → Ways
      to_below l r (inl h) t = inl (record { left = inl (more_of _ _ l); right = inl (more_of _ _ r); below = inr h; above = inl (more_of _ _ t) })
      to_below l r (inr h) t = inr (record { left = inl (more_of _ _ l); right = inl (more_of _ _ r); below = inr h; above = inl (more_of _ _ t) })

      to_above : ((o.u1 *ℤ s.w) <ℤ across_of d s) → (across_of d s <ℤ (o.u2 *ℤ s.w)) → ((o.v1 *ℤ s.w) <ℤ upward_of d s) → Turns Most Upward o.v2 → Ways
      to_above l r v (inl h) = inl (record { left = inl (more_of _ _ l); right = inl (more_of _ _ r); below = inl (more_of _ _ v); above = inr h })
      to_above l r v (inr h) = inr (record { left = inl (more_of _ _ l); right = inl (more_of _ _ r); below = inl (more_of _ _ v); above = inr h })

      ways : Ways
      ways = by (same_or_less _ _ within.left) (same_or_less _ _ within.right) (same_or_less _ _ within.below) (same_or_less _ _ within.above)
        where
          by : (o.u1 *ℤ s.w ≡ across_of d s) ⊎ ((o.u1 *ℤ s.w) <ℤ across_of d s) → (across_of d s ≡ o.u2 *ℤ s.w) ⊎ (across_of d s <ℤ (o.u2 *ℤ s.w))
              → (o.v1 *ℤ s.w ≡ upward_of d s) ⊎ ((o.v1 *ℤ s.w) <ℤ upward_of d s) → (upward_of d s ≡ o.v2 *ℤ s.w) ⊎ (upward_of d s <ℤ (o.v2 *ℤ s.w)) → Ways
          by (inl l) (inl r) v t = absurd (two_levels o.u1 o.u2 s.w (across_of d s) o.wide (sum_is_point a b i j some) l r)
          by (inl l) (inr r) (inl v) t = absurd (off (inl (sym l), inl (sym v)))
          by (inl l) (inr r) (inr v) (inl t) = absurd (off (inl (sym l), inr t))
          by (inl l) (inr r) (inr v) (inr t) = to_left (turns Least Across o.u1 (gap_of_same _ _ (sym l))) r v t
          by (inr l) (inl r) (inl v) t = absurd (off (inr r, inl (sym v)))
          by (inr l) (inl r) (inr v) (inl t) = absurd (off (inr r, inr t))
          by (inr l) (inl r) (inr v) (inr t) = to_right l (turns Most Across o.u2 (gap_of_same _ _ (sym r))) v t
          by (inr l) (inr r) (inl v) (inl t) = absurd (two_levels o.v1 o.v2 s.w (upward_of d s) o.tall (sum_is_point a b i j some) v t)
          by (inr l) (inr r) (inl v) (inr t) = to_below l r (turns Least Upward o.v1 (gap_of_same _ _ (sym v))) t
          by (inr l) (inr r) (inr v) (inl t) = to_above l r v (turns Most Upward o.v2 (gap_of_same _ _ (sym t)))
          by (inr l) (inr r) (inr v) (inr t) = inl (record { left = inl (more_of _ _ l); right = inl (more_of _ _ r); below = inl (more_of _ _ v); above = inl (more_of _ _ t) })

module _ (d : Triple) (o : Window) (a b : Spot) (p : Point) (positive : IsPoint p) (off_a : ¬ OnOneSight d (of_spot a) p) (off_b : ¬ OnOneSight d (of_spot b) p)
    (within : IsWithinWindow d o p) (off : ¬ IsAtWindowCorner d o p) where
  -- what is said of the point holds of the sum on its line of sight
  module _ (s : Point) (there : IsPoint s) (same : OnOneSight d s p) where
    along : (bound : Bound) (axis : ViewAxis) (k : ℤ) → pos 0 ≤ℤ over_border d bound axis k p → pos 0 ≤ℤ over_border d bound axis k s
    along bound axis k h = border_along d bound axis k p s positive there (sight_back d s p same) h

    within_along : IsWithinWindow d o s
    within_along = record {
      left = at_most_of_gap _ _ (along Least Across o.u1 (gap_of_at_most _ _ within.left));
      right = at_most_of_gap _ _ (along Most Across o.u2 (gap_of_at_most _ _ within.right));
      below = at_most_of_gap _ _ (along Least Upward o.v1 (gap_of_at_most _ _ within.below));
      above = at_most_of_gap _ _ (along Most Upward o.v2 (gap_of_at_most _ _ within.above));
    }

    off_along : ¬ IsAtWindowCorner d o s
    off_along (u, v) = off (across u, upward v)
      where
        across : (across_of d s ≡ o.u1 *ℤ s.w) ⊎ (across_of d s ≡ o.u2 *ℤ s.w) → (across_of d p ≡ o.u1 *ℤ p.w) ⊎ (across_of d p ≡ o.u2 *ℤ p.w)
        across (inl e) = inl (same_level _ _ s.w p.w o.u1 there same.across e)
        across (inr e) = inr (same_level _ _ s.w p.w o.u2 there same.across e)

        upward : (upward_of d s ≡ o.v1 *ℤ s.w) ⊎ (upward_of d s ≡ o.v2 *ℤ s.w) → (upward_of d p ≡ o.v1 *ℤ p.w) ⊎ (upward_of d p ≡ o.v2 *ℤ p.w)
        upward (inl e) = inl (same_level _ _ s.w p.w o.v1 there same.upward e)
        upward (inr e) = inr (same_level _ _ s.w p.w o.v2 there same.upward e)

  module _ (i j : ℕ) (some : 0 < i + j) (same : OnOneSight d (spot_sum a b i j) p) where
    towards : (m n : ℕ) → 0 < m + n → StaysInside d o a b i j (spot_sum a b m n) → ¬ OnOneSight d (spot_sum a b m n) p → (r : Point) × IsAnother d o a b p r
    towards m n more inside apart =
        let held = within_along (spot_sum a b i j) (sum_is_point a b i j some) same in
        let k = times d o a b i j held m n inside in
        let rest : 0 < (k * i + m) + (k * j + n) = omega (arith, more) in (
          next d o a b i j held m n inside,
          record {
            positive = sum_is_point a b (k * i + m) (k * j + n) rest;
            lies = (k * i + m, k * j + n, rest, seen_itself d (next d o a b i j held m n inside));
            within = next_within d o a b i j held m n inside;
            apart = λ seen. next_apart d o a b i j held m n inside
                (λ h. apart (sight_on d (spot_sum a b m n) (spot_sum a b i j) p (sum_is_point a b i j some) h same))
                (sight_on d (next d o a b i j held m n inside) p (spot_sum a b i j) positive seen (sight_back d (spot_sum a b i j) p same));
          },
        )

    by_ways : Ways d o a b i j some → (r : Point) × IsAnother d o a b p r
    by_ways (inl h) = towards 1 0 (omega arith) h (λ seen. off_a (sight_on d (of_spot a) (spot_sum a b 1 0) p (sum_is_point a b 1 0 (omega arith)) (first_end d o a b) seen))
    by_ways (inr h) = towards 0 1 (omega arith) h (λ seen. off_b (sight_on d (of_spot b) (spot_sum a b 0 1) p (sum_is_point a b 0 1 (omega arith)) (second_end d o a b) seen))

    another_of : (r : Point) × IsAnother d o a b p r
    another_of =
        let there = sum_is_point a b i j some in
        by_ways (ways d o a b i j some (within_along (spot_sum a b i j) there same) (off_along (spot_sum a b i j) there same))

  pub another : LiesBetween d a b p → (r : Point) × IsAnother d o a b p r
  another (i, j, some, same) = another_of i j some same
