-- A point of a line lies between two others exactly where it is seen after the one and before the other.
use Rattle.std.proofs.Common.{◌≡◌, ◌⊎◌, inl, inr, ℕ, zero, suc, [], ◌∷◌, refl, sym, ap, subst, ◌∙◌, arith}
use Rattle.std.specs.Prelude.{ℤ, pos, negsuc, ◌+ℤ◌, ◌*ℤ◌, ◌<ℤ◌}
use Rattle.std.proofs.lemmas.Int.{ints}
use Rattle.integers.proofs.Comparisons.{gap_of_same, less_not_same}
use Rattle.integers.proofs.Ring.{var, con, ◌⊕◌, ◌⊗◌, ring, same_of_gap}
use Rattle.integers.proofs.Signs.{zero_of_either}
use Rattle.integers.proofs.Weighted.{HasWeights, weights_between, after_first, before_second, with_first, with_second, at_first, at_second}
use Rattle.lattice.specs.declared.lines.Line.{Line}
use Rattle.lattice.specs.declared.points.Spot.{Spot}
use Rattle.lattice.specs.LowestTerms.{leading_of}
use Rattle.lattice.specs.Triple.{Triple, dot, right_axis, up_axis}
use Rattle.lattice.specs.Points.{Point, IsPoint, of_spot, scaled, across_of, upward_of, OnOneSight}
use Rattle.lattice.specs.Lines.{IsOnLine}
use Rattle.lattice.proofs.OnLines.{on_line_of_sum, product_of_sum}
use Rattle.lattice.proofs.SameLines.{along_line}
use Rattle.geometry.specs.Pieces.{spot_sum, LiesBetween, IsBefore}
use Rattle.geometry.proofs.OnLines.{sum_is_point}
use Rattle.geometry.proofs.Sights.{sight_on, sight_back}
use Rattle.line_merge.proofs.Sights.{before_seen, seen_before}

-- ---- on one line
-- two solutions of a u + b v = 0: a factor that isn't 0 leaves nothing of the other
rest_of : (a b u v : ℤ) → (a *ℤ u) +ℤ (b *ℤ v) ≡ pos 0 → u ≡ pos 0 → (b ≡ pos 0 → ⊥) → v ≡ pos 0
rest_of a b u v h e some = let k = (λ i. (a *ℤ sym e i) +ℤ (b *ℤ v)) ∙ h in zero_of_either b b v (λ p q. some p) (alone k) (alone k)
  where
    alone : (a *ℤ pos 0) +ℤ (b *ℤ v) ≡ pos 0 → b *ℤ v ≡ pos 0
    alone k = ring (a ∷ b ∷ v ∷ []) (var 1 ⊗ var 2) ((var 0 ⊗ con (pos 0)) ⊕ (var 1 ⊗ var 2)) refl ∙ k

module _ (d : Triple) (l : Line) (p q : Point) (on_p : IsOnLine d l p) (on_q : IsOnLine d l q) where
  same_upward : (l.b ≡ pos 0 → ⊥) → across_of d p *ℤ q.w ≡ across_of d q *ℤ p.w → upward_of d p *ℤ q.w ≡ upward_of d q *ℤ p.w
  same_upward some e =
      sym (same_of_gap (upward_of d q *ℤ p.w) (upward_of d p *ℤ q.w)
      (rest_of l.a l.b _ _ (along_line d l p q on_p on_q) (gap_of_same (across_of d q *ℤ p.w) (across_of d p *ℤ q.w) (sym e)) some))

  same_across : l.b ≡ pos 0 → across_of d p *ℤ q.w ≡ across_of d q *ℤ p.w
  same_across flat =
      sym (same_of_gap (across_of d q *ℤ p.w) (across_of d p *ℤ q.w)
      (zero_of_either l.a l.b _ (leads l.a l.b l.leads) (alone l.a l.b _ _ flat (along_line d l p q on_p on_q)) (none l.b _ flat)))
    where
      none : (b u : ℤ) → b ≡ pos 0 → b *ℤ u ≡ pos 0
      none b u e = ap (λ (x : ℤ). x *ℤ u) e ∙ ring (u ∷ []) (con (pos 0) ⊗ var 0) (con (pos 0)) refl

      alone : (a b u v : ℤ) → b ≡ pos 0 → (a *ℤ u) +ℤ (b *ℤ v) ≡ pos 0 → a *ℤ u ≡ pos 0
      alone a b u v e h = ring (a ∷ u ∷ v ∷ []) (var 0 ⊗ var 1) ((var 0 ⊗ var 1) ⊕ (con (pos 0) ⊗ var 2)) refl ∙ (λ i. (a *ℤ u) +ℤ (sym e i *ℤ v)) ∙ h

      leads : (a b : ℤ) → pos 0 <ℤ leading_of a b → a ≡ pos 0 → b ≡ pos 0 → ⊥
      leads a b h f e = nothing (subst (λ (y : ℤ). pos 0 <ℤ y) e (subst (λ (x : ℤ). pos 0 <ℤ leading_of x b) f h))
        where
          nothing : pos 0 <ℤ pos 0 → ⊥
          nothing h = omega (arith, ints)

pub zero_or_not : (b : ℤ) → (b ≡ pos 0) ⊎ (b ≡ pos 0 → ⊥)
zero_or_not (pos zero) = inl refl
zero_or_not (pos (suc n)) = inr (λ e. omega (arith, ints))
zero_or_not (negsuc n) = inr (λ e. omega (arith, ints))

-- the strict order on a line is that of U, or of V where the line is upright
module _ (d : Triple) (l : Line) (p q : Point) (on_p : IsOnLine d l p) (on_q : IsOnLine d l q) (h : IsBefore d p q) where
  less_across : (l.b ≡ pos 0 → ⊥) → (across_of d p *ℤ q.w) <ℤ (across_of d q *ℤ p.w)
  less_across some = by h
    where
      by : IsBefore d p q → (across_of d p *ℤ q.w) <ℤ (across_of d q *ℤ p.w)
      by (inl less) = less
      by (inr (e, less)) = absurd (less_not_same _ _ less (same_upward d l p q on_p on_q some e))

  less_upward : l.b ≡ pos 0 → (upward_of d p *ℤ q.w) <ℤ (upward_of d q *ℤ p.w)
  less_upward flat = by h
    where
      by : IsBefore d p q → (upward_of d p *ℤ q.w) <ℤ (upward_of d q *ℤ p.w)
      by (inl less) = absurd (less_not_same _ _ less (same_across d l p q on_p on_q flat))
      by (inr (e, less)) = less

-- ---- sums
sum_product : (r : Triple) (a b : Spot) (i j : ℕ) → dot r (scaled (spot_sum a b i j)) ≡ (pos i *ℤ dot r (scaled (of_spot a))) +ℤ (pos j *ℤ dot r (scaled (of_spot b)))
sum_product r a b i j = product_of_sum r (pos i) (pos j) (of_spot a) (of_spot b)

module _ (d : Triple) (l : Line) (a b : Spot) (p : Point) (on_a : IsOnLine d l (of_spot a)) (on_b : IsOnLine d l (of_spot b)) where
  -- on a line it lies between if it is seen between
  pub between : IsOnLine d l p → IsBefore d (of_spot a) p → IsBefore d p (of_spot b) → LiesBetween d a b p
  between on_p after before = by (zero_or_not l.b)
    where
      on_sum : (i j : ℕ) → IsOnLine d l (spot_sum a b i j)
      on_sum i j = on_line_of_sum d l (pos i) (pos j) (of_spot a) (of_spot b) on_a on_b

      weighs : (r : Triple) (h : HasWeights (dot r (scaled (of_spot a))) a.w (dot r (scaled (of_spot b))) b.w (dot r (scaled p)) p.w)
          → dot r (scaled (spot_sum a b h.i h.j)) *ℤ p.w ≡ dot r (scaled p) *ℤ (spot_sum a b h.i h.j).w
      weighs r h = ap (λ (o : ℤ). o *ℤ p.w) (sum_product r a b h.i h.j) ∙ h.same

      by : (l.b ≡ pos 0) ⊎ (l.b ≡ pos 0 → ⊥) → LiesBetween d a b p
      by (inl flat) =
          let h = weights_between _ _ _ _ _ _ (less_upward d l (of_spot a) p on_a on_p after flat) (less_upward d l p (of_spot b) on_p on_b before flat) in
          (h.i, h.j, h.some, record { across = same_across d l (spot_sum a b h.i h.j) p (on_sum h.i h.j) on_p flat; upward = weighs (up_axis d) h })
      by (inr some) =
          let h = weights_between _ _ _ _ _ _ (less_across d l (of_spot a) p on_a on_p after some) (less_across d l p (of_spot b) on_p on_b before some) in
          let e = weighs (right_axis d) h in
          (h.i, h.j, h.some, record { across = e; upward = same_upward d l (spot_sum a b h.i h.j) p (on_sum h.i h.j) on_p some e })

-- the sum with two positive weights
module _ (d : Triple) (a b : Spot) (i j : ℕ) where
  abbrev sum : Point
  sum = spot_sum a b (suc i) (suc j)

  one_positive : (i : ℕ) → pos 0 <ℤ pos (suc i)
  one_positive i = omega (arith, ints)

  -- through a product
  module _ (r : Triple) where
    abbrev n : ℤ
    n = dot r (scaled (of_spot a))

    abbrev n' : ℤ
    n' = dot r (scaled (of_spot b))

    after : (n *ℤ b.w) <ℤ (n' *ℤ a.w) → (n *ℤ sum.w) <ℤ (dot r (scaled sum) *ℤ a.w)
    after h = subst (λ (o : ℤ). (n *ℤ sum.w) <ℤ (o *ℤ a.w)) (sym (sum_product r a b (suc i) (suc j))) (after_first n a.w n' b.w h (pos (suc i)) (pos (suc j)) (one_positive j))

    before : (n *ℤ b.w) <ℤ (n' *ℤ a.w) → (dot r (scaled sum) *ℤ b.w) <ℤ (n' *ℤ sum.w)
    before h = subst (λ (o : ℤ). (o *ℤ b.w) <ℤ (n' *ℤ sum.w)) (sym (sum_product r a b (suc i) (suc j))) (before_second n a.w n' b.w h (pos (suc i)) (pos (suc j)) (one_positive i))

    first : n *ℤ b.w ≡ n' *ℤ a.w → n *ℤ sum.w ≡ dot r (scaled sum) *ℤ a.w
    first h = with_first n a.w n' b.w h (pos (suc i)) (pos (suc j)) ∙ ap (λ (o : ℤ). o *ℤ a.w) (sym (sum_product r a b (suc i) (suc j)))

    second : n *ℤ b.w ≡ n' *ℤ a.w → dot r (scaled sum) *ℤ b.w ≡ n' *ℤ sum.w
    second h = ap (λ (o : ℤ). o *ℤ b.w) (sum_product r a b (suc i) (suc j)) ∙ with_second n a.w n' b.w h (pos (suc i)) (pos (suc j))

  after_a : IsBefore d (of_spot a) (of_spot b) → IsBefore d (of_spot a) sum
  after_a (inl h) = inl (after (right_axis d) h)
  after_a (inr (e, h)) = inr (first (right_axis d) e, after (up_axis d) h)

  before_b : IsBefore d (of_spot a) (of_spot b) → IsBefore d sum (of_spot b)
  before_b (inl h) = inl (before (right_axis d) h)
  before_b (inr (e, h)) = inr (second (right_axis d) e, before (up_axis d) h)

-- what lies between the ends of a strip, and is at none of them, is seen between
pub seen_between : (d : Triple) (a b : Spot) (p : Point) → IsPoint p → IsBefore d (of_spot a) (of_spot b) → ¬ OnOneSight d (of_spot a) p → ¬ OnOneSight d (of_spot b) p
    → LiesBetween d a b p → IsBefore d (of_spot a) p × IsBefore d p (of_spot b)
seen_between d a b p positive h off_a off_b (zero, j, some, seen) = absurd (off_b (sight_on d (of_spot b) (spot_sum a b zero j) p (sum_is_point a b zero j some) at seen))
  where
    end : (r : Triple) → dot r (scaled (of_spot b)) *ℤ (spot_sum a b zero j).w ≡ dot r (scaled (spot_sum a b zero j)) *ℤ b.w
    end r = at_second (dot r (scaled (of_spot a))) a.w (dot r (scaled (of_spot b))) b.w (pos j) ∙ ap (λ (o : ℤ). o *ℤ b.w) (sym (sum_product r a b zero j))

    at : OnOneSight d (of_spot b) (spot_sum a b zero j)
    at = record { across = end (right_axis d); upward = end (up_axis d) }
seen_between d a b p positive h off_a off_b (suc i, zero, some, seen) = absurd (off_a (sight_on d (of_spot a) (spot_sum a b (suc i) zero) p (sum_is_point a b (suc i) zero some) at seen))
  where
    end : (r : Triple) → dot r (scaled (of_spot a)) *ℤ (spot_sum a b (suc i) zero).w ≡ dot r (scaled (spot_sum a b (suc i) zero)) *ℤ a.w
    end r = at_first (dot r (scaled (of_spot a))) a.w (dot r (scaled (of_spot b))) b.w (pos (suc i)) ∙ ap (λ (o : ℤ). o *ℤ a.w) (sym (sum_product r a b (suc i) zero))

    at : OnOneSight d (of_spot a) (spot_sum a b (suc i) zero)
    at = record { across = end (right_axis d); upward = end (up_axis d) }
seen_between d a b p positive h off_a off_b (suc i, suc j, some, seen) =
    let mid = spot_sum a b (suc i) (suc j) in
    let is : IsPoint mid = sum_is_point a b (suc i) (suc j) some in (
      before_seen d (of_spot a) mid p a.positive is positive (after_a d a b i j h) seen,
      seen_before d p mid (of_spot b) positive is b.positive (sight_back d mid p seen) (before_b d a b i j h),
    )
