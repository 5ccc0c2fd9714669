-- Intervals of one hatch line, and their hatch lines.
use Rattle.std.proofs.Common.{◌≡◌, ℕ, [], ◌∷◌, refl, sym, ap, subst, ◌∙◌}
use Rattle.std.specs.Prelude.{ℤ, pos, ◌+ℤ◌, ◌-ℤ◌, ◌*ℤ◌, ◌<ℤ◌, ◌≤ℤ◌}
use Rattle.std.specs.Cmp.{int_cmp_is}
use Rattle.std.specs.Ordering.{ordering_then}
use Rattle.std.specs.declared.cmp.Ordering.{Ordering}
use Rattle.std.specs.declared.cmp.Ordering.TheVariants.{Less, Equal}
use Rattle.integers.proofs.Comparisons.{twice_positive, at_most_of_less}
use Rattle.integers.proofs.Ring.{var, con, ◌⊖◌, ◌⊗◌, ring}
use Rattle.integers.proofs.Orders.{less_of_cmp, same_of_products}
use Rattle.integers.proofs.Weighted.{weights_between}
use Rattle.exact_frac.specs.Frac.{order_of}
use Rattle.intervals.specs.declared.interval.Interval.{Interval}
use Rattle.lattice.specs.declared.points.Spot.{Spot}
use Rattle.lattice.specs.declared.pieces.HatchLine.{HatchLine}
use Rattle.lattice.specs.Triple.{Triple, right_axis}
use Rattle.lattice.specs.Points.{Point, IsPoint, of_spot, across_of, upward_of, height_of, OnOneSight}
use Rattle.lattice.specs.Cuts.{Plane, toward_of, plane_height, IsOnPlane}
use Rattle.lattice.proofs.OnLines.{product_of_sum}
use Rattle.geometry.specs.Pieces.{spot_sum}
use Rattle.geometry.proofs.OnLines.{sum_is_point}
use Rattle.cut_plane.specs.Diagonals.{diagonal_of}
use Rattle.hatch_fill.specs.declared.places.HatchPlace.{HatchPlace}
use Rattle.hatch_fill.specs.inner.Places.{place_order}
use Rattle.hatch_fill.specs.Hatching.{IsHatchLine, LiesOnHatch, IsLeftOf}
use Rattle.hatch_fill.specs.inner.Lines.{IsSpotAt, IsLineOver}
use Rattle.hatch_fill.proofs.Crossed.{same_sight}
use Rattle.hatch_fill.proofs.Ratios.{from_first, until_second, halved_first, halved_second, doubled_first, doubled_second, doubled_both}
use Rattle.hatch_fill.proofs.Seen.{across_seen, upward_seen, height_seen}
use Rattle.hatch_fill.proofs.Turns.{IsAt}
use Rattle.hatch_fill.proofs.Under.{sum_at}

-- ---- order on one line
pub less_on_line : (s t : HatchPlace) → s.diagonal ≡ t.diagonal → place_order s t ≡ Less → (s.across.num *ℤ t.across.den) <ℤ (t.across.num *ℤ s.across.den)
less_on_line s t one e = less_of_cmp _ _ (ap (λ (r : Ordering). ordering_then r (order_of s.across t.across)) (int_cmp_is s.diagonal t.diagonal Equal one) ∙ e)

-- ---- points of hatch lines
-- a point is on one hatch line
pub one_diagonal : (d : Triple) (p : Point) (diagonal other : ℤ) → IsPoint p → IsAt d diagonal p → IsAt d other p → diagonal ≡ other
one_diagonal d p diagonal other there at at' = same_of_products diagonal other p.w there (sym at ∙ at')

-- what is seen with a point of a hatch line is on it
pub at_of_sight : (d : Triple) (r p : Point) (diagonal : ℤ) → IsPoint r → IsAt d diagonal r → OnOneSight d r p → IsAt d diagonal p
at_of_sight d r p diagonal there at sight = same_of_products (diagonal_of d p) (diagonal *ℤ p.w) r.w there (sym (gap (across_of d r) (upward_of d r) r.w (across_of d p) (upward_of d p) p.w sight.across sight.upward) ∙ ap (λ (z : ℤ). z *ℤ p.w) at ∙ ring (diagonal ∷ r.w ∷ p.w ∷ []) ((var 0 ⊗ var 1) ⊗ var 2) ((var 0 ⊗ var 2) ⊗ var 1) refl)
  where
    gap : (u v w u' v' w' : ℤ) → u *ℤ w' ≡ u' *ℤ w → v *ℤ w' ≡ v' *ℤ w → (u -ℤ v) *ℤ w' ≡ (u' -ℤ v') *ℤ w
    gap u v w u' v' w' e f = ring (u ∷ v ∷ w' ∷ []) ((var 0 ⊖ var 1) ⊗ var 2) ((var 0 ⊗ var 2) ⊖ (var 1 ⊗ var 2)) refl ∙ (λ i. e i -ℤ f i) ∙ ring (u' ∷ v' ∷ w ∷ []) ((var 0 ⊗ var 2) ⊖ (var 1 ⊗ var 2)) ((var 0 ⊖ var 1) ⊗ var 2) refl

-- ---- the spot of a place
module _ (c : Plane) (t : HatchPlace) (p : Spot) (is : IsSpotAt c t p) where
  abbrev d : Triple
  d = toward_of c

  abbrev u : ℤ
  u = pos 2 *ℤ t.across.num

  abbrev v : ℤ
  v = pos 2 *ℤ (t.across.num -ℤ (t.diagonal *ℤ t.across.den))

  abbrev h : ℤ
  h = plane_height c *ℤ t.across.den

  abbrev w : ℤ
  w = pos 2 *ℤ t.across.den

  pub spot_across : across_of d (of_spot p) ≡ pos 2 *ℤ t.across.num
  spot_across = ap (λ (q : Point). across_of d q) is ∙ across_seen c.axis c.from_high u v h w

  spot_upward : upward_of d (of_spot p) ≡ pos 2 *ℤ (t.across.num -ℤ (t.diagonal *ℤ t.across.den))
  spot_upward = ap (λ (q : Point). upward_of d q) is ∙ upward_seen c.axis c.from_high u v h w

  pub spot_divisor : p.w ≡ pos 2 *ℤ t.across.den
  spot_divisor = ap (λ (q : Point). q.w) is

  pub spot_at : IsAt d t.diagonal (of_spot p)
  spot_at =
      (λ i. spot_across i -ℤ spot_upward i) ∙ ring (t.across.num ∷ t.diagonal ∷ t.across.den ∷ []) ((con (pos 2) ⊗ var 0) ⊖ (con (pos 2) ⊗ (var 0 ⊖ (var 1 ⊗ var 2)))) (var 1 ⊗ (con (pos 2) ⊗ var 2)) refl
      ∙ (λ i. t.diagonal *ℤ sym spot_divisor i)

  pub spot_on_plane : IsOnPlane c (of_spot p)
  spot_on_plane =
      (λ i. pos 2 *ℤ (ap (λ (q : Point). height_of d q) is ∙ height_seen c.axis c.from_high u v h w) i) ∙ ring (plane_height c ∷ t.across.den ∷ []) (con (pos 2) ⊗ (var 0 ⊗ var 1)) (var 0 ⊗ (con (pos 2) ⊗ var 1)) refl
      ∙ (λ i. plane_height c *ℤ sym spot_divisor i)

-- ---- the hatch line of an interval
module _ (c : Plane) (i : Interval HatchPlace) (one : i.from.diagonal ≡ i.to.diagonal) (proper : place_order i.from i.to ≡ Less) (x : HatchLine) (over : IsLineOver c i x) where
  abbrev D : ℤ
  D = i.from.diagonal

  ascends : (i.from.across.num *ℤ i.to.across.den) <ℤ (i.to.across.num *ℤ i.from.across.den)
  ascends = less_on_line i.from i.to one proper

  first_at : IsAt (toward_of c) D (of_spot x.a)
  first_at = spot_at c i.from x.a over.first

  second_at : IsAt (toward_of c) D (of_spot x.b)
  second_at = subst (λ (z : ℤ). IsAt (toward_of c) z (of_spot x.b)) (sym one) (spot_at c i.to x.b over.second)

  pub forward : IsLeftOf (toward_of c) (of_spot x.a) (of_spot x.b)
  forward =
      subst (λ (z : ℤ). z <ℤ (across_of (toward_of c) (of_spot x.b) *ℤ x.a.w)) (λ t. sym (spot_across c i.from x.a over.first) t *ℤ sym (spot_divisor c i.to x.b over.second) t)
      (subst (λ (z : ℤ). ((pos 2 *ℤ i.from.across.num) *ℤ (pos 2 *ℤ i.to.across.den)) <ℤ z) (λ t. sym (spot_across c i.to x.b over.second) t *ℤ sym (spot_divisor c i.from x.a over.first) t)
      (doubled_both i.from.across.num i.from.across.den i.to.across.num i.to.across.den ascends))

  pub is_hatch_line : (number : ℤ) (spacing : ℕ) → D ≡ number *ℤ pos spacing → IsHatchLine c spacing number x
  is_hatch_line number spacing e = record {
    first = subst (λ (z : ℤ). IsAt (toward_of c) z (of_spot x.a)) e first_at;
    second = subst (λ (z : ℤ). IsAt (toward_of c) z (of_spot x.b)) e second_at;
    first_in_plane = spot_on_plane c i.from x.a over.first;
    second_in_plane = spot_on_plane c i.to x.b over.second;
    forward = forward;
  }

  -- what lies on it is on the hatch line, from the interval's beginning to its end
  pub record IsFromTo (p : Point) : Type 0 where
    pub at : IsAt (toward_of c) D p
    pub from : (i.from.across.num *ℤ p.w) ≤ℤ (across_of (toward_of c) p *ℤ i.from.across.den)
    pub to : (across_of (toward_of c) p *ℤ i.to.across.den) ≤ℤ (i.to.across.num *ℤ p.w)

  pub from_to : (p : Point) → IsPoint p → LiesOnHatch (toward_of c) x p → IsFromTo p
  from_to p there (g, h, some, sight) = record {
    at = at_of_sight d (spot_sum x.a x.b g h) p D (sum_is_point x.a x.b g h some) (sum_at d (pos g) (pos h) D (of_spot x.a) (of_spot x.b) first_at second_at) sight;
    from = halved_first i.from.across.num i.from.across.den (across_of d p) p.w (from_first _ _ _ _ (across_of d p) p.w g h (two i.from) (two i.to) some (at_most_of_less _ _ (doubled_both i.from.across.num i.from.across.den i.to.across.num i.to.across.den ascends)) same there);
    to = halved_second i.to.across.num i.to.across.den (across_of d p) p.w (until_second _ _ _ _ (across_of d p) p.w g h (two i.from) (two i.to) some (at_most_of_less _ _ (doubled_both i.from.across.num i.from.across.den i.to.across.num i.to.across.den ascends)) same there);
  }
    where
      d : Triple
      d = toward_of c

      two : (t : HatchPlace) → pos 0 <ℤ (pos 2 *ℤ t.across.den)
      two t = twice_positive t.across.den t.across.positive

      same : ((pos g *ℤ (pos 2 *ℤ i.from.across.num)) +ℤ (pos h *ℤ (pos 2 *ℤ i.to.across.num))) *ℤ p.w ≡ across_of d p *ℤ ((pos g *ℤ (pos 2 *ℤ i.from.across.den)) +ℤ (pos h *ℤ (pos 2 *ℤ i.to.across.den)))
      same =
          (λ t. ((pos g *ℤ sym (spot_across c i.from x.a over.first) t) +ℤ (pos h *ℤ sym (spot_across c i.to x.b over.second) t)) *ℤ p.w)
          ∙ ap (λ (z : ℤ). z *ℤ p.w) (sym (product_of_sum (right_axis d) (pos g) (pos h) (of_spot x.a) (of_spot x.b)))
          ∙ sight.across
          ∙ (λ t. across_of d p *ℤ ((pos g *ℤ spot_divisor c i.from x.a over.first t) +ℤ (pos h *ℤ spot_divisor c i.to x.b over.second t)))

  -- and what is between lies on it
  pub lies_within : (p : Point) → IsAt (toward_of c) D p → (i.from.across.num *ℤ p.w) <ℤ (across_of (toward_of c) p *ℤ i.from.across.den) → (across_of (toward_of c) p *ℤ i.to.across.den) <ℤ (i.to.across.num *ℤ p.w) → LiesOnHatch (toward_of c) x p
  lies_within p at after before =
      let d = toward_of c in
      let w = weights_between (across_of d (of_spot x.a)) x.a.w (across_of d (of_spot x.b)) x.b.w (across_of d p) p.w
      (subst (λ (z : ℤ). z <ℤ (across_of d p *ℤ x.a.w)) (λ t. sym (spot_across c i.from x.a over.first) t *ℤ p.w) (subst (λ (z : ℤ). ((pos 2 *ℤ i.from.across.num) *ℤ p.w) <ℤ z) (λ t. across_of d p *ℤ sym (spot_divisor c i.from x.a over.first) t) (doubled_first i.from.across.num i.from.across.den (across_of d p) p.w after)))
      (subst (λ (z : ℤ). z <ℤ (across_of d (of_spot x.b) *ℤ p.w)) (λ t. across_of d p *ℤ sym (spot_divisor c i.to x.b over.second) t) (subst (λ (z : ℤ). (across_of d p *ℤ (pos 2 *ℤ i.to.across.den)) <ℤ z) (λ t. sym (spot_across c i.to x.b over.second) t *ℤ p.w) (doubled_second i.to.across.num i.to.across.den (across_of d p) p.w before))) in (
        w.i,
        w.j,
        w.some,
        same_sight d (spot_sum x.a x.b w.i w.j) p D (sum_at d (pos w.i) (pos w.j) D (of_spot x.a) (of_spot x.b) first_at second_at) at
            (ap (λ (z : ℤ). z *ℤ p.w) (product_of_sum (right_axis d) (pos w.i) (pos w.j) (of_spot x.a) (of_spot x.b)) ∙ w.same),
      )
