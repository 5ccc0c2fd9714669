-- The order in which points are seen is total, and what lies between two points of a line is what is not before the one and not after the other.
use Rattle.std.proofs.Common.{◌≡◌, ◌⊎◌, inl, inr, refl, sym, ap, ◌∙◌, arith}
use Rattle.std.specs.Prelude.{ℤ, pos, ◌*ℤ◌}
use Rattle.std.specs.Ordering.{ordering_reverse}
use Rattle.std.specs.declared.cmp.Ordering.{Ordering}
use Rattle.std.specs.declared.cmp.Ordering.TheVariants.{Less, Equal, Greater}
use Rattle.integers.proofs.Weighted.{weights_between, at_first, at_second}
use Rattle.lattice.specs.Triple.{Triple, dot, right_axis, up_axis}
use Rattle.lattice.specs.Points.{Point, IsPoint, of_spot, scaled, OnOneSight}
use Rattle.lattice.specs.declared.points.Spot.{Spot}
use Rattle.lattice.proofs.OnLines.{product_of_sum}
use Rattle.geometry.specs.Pieces.{spot_sum, LiesBetween, IsBefore}
use Rattle.geometry.proofs.Sights.{sight_on, sight_back}
use Rattle.line_merge.proofs.Sights.{view_order, before, sight, order_back, before_seen, seen_before, before_on, not_seen}
use Rattle.line_merge.proofs.Between.{seen_between}
use Rattle.drawing_laws.proofs.Sparse.{ViewLine, IsOnViewLine}
use Rattle.drawing_laws.proofs.ViewLines.{IsProper, axis, on_sum}

-- p is before q, or seen where q is
abbrev pub IsUpTo : Triple → Point → Point → Type 0
IsUpTo d p q = IsBefore d p q ⊎ OnOneSight d p q

pub seen_itself : (d : Triple) (p : Point) → OnOneSight d p p
seen_itself d p = record { across = refl; upward = refl }

pub three_ways : (d : Triple) (p q : Point) → IsBefore d p q ⊎ (OnOneSight d p q ⊎ IsBefore d q p)
three_ways d p q = by (view_order d p q) refl
  where
    turned : (r : Ordering) → ordering_reverse r ≡ Greater → r ≡ Less
    turned Less e = refl
    turned Equal e = cc
    turned Greater e = cc

    by : (r : Ordering) → view_order d p q ≡ r → IsBefore d p q ⊎ (OnOneSight d p q ⊎ IsBefore d q p)
    by Less e = inl (before d p q e)
    by Equal e = inr (inl (sight d p q e))
    by Greater e = inr (inr (before d q p (turned (view_order d q p) (sym (order_back d p q) ∙ e))))

module _ (d : Triple) (p q r : Point) (hp : IsPoint p) (hq : IsPoint q) (hr : IsPoint r) where
  pub before_up_to : IsBefore d p q → IsUpTo d q r → IsBefore d p r
  before_up_to h (inl k) = before_on d p q r hp hq hr h k
  before_up_to h (inr k) = before_seen d p q r hp hq hr h k

  pub up_to_before : IsUpTo d p q → IsBefore d q r → IsBefore d p r
  up_to_before (inl h) k = before_on d p q r hp hq hr h k
  up_to_before (inr h) k = seen_before d p q r hp hq hr h k

  pub up_to_on : IsUpTo d p q → IsUpTo d q r → IsUpTo d p r
  up_to_on (inl h) k = inl (before_up_to h k)
  up_to_on (inr h) (inl k) = inl (seen_before d p q r hp hq hr h k)
  up_to_on (inr h) (inr k) = inr (sight_on d p q r hq h k)

module _ (d : Triple) (p q : Point) (hp : IsPoint p) (hq : IsPoint q) where
  pub not_back : IsBefore d p q → ¬ IsUpTo d q p
  not_back h k = not_seen d p p (before_up_to d p q p hp hq hp h k) (seen_itself d p)

  pub seen_of_both : IsUpTo d p q → IsUpTo d q p → OnOneSight d p q
  seen_of_both (inl h) k = absurd (not_back h k)
  seen_of_both (inr h) k = h

-- ---- what lies between
pub up_to_of_lies : (d : Triple) (a b : Spot) (p : Point) → IsPoint p → IsBefore d (of_spot a) (of_spot b) → LiesBetween d a b p → IsUpTo d (of_spot a) p × IsUpTo d p (of_spot b)
up_to_of_lies d a b p hp less lies = by (three_ways d (of_spot a) p) (three_ways d p (of_spot b))
  where
    between : ¬ OnOneSight d (of_spot a) p → ¬ OnOneSight d (of_spot b) p → IsBefore d (of_spot a) p × IsBefore d p (of_spot b)
    between off_a off_b = seen_between d a b p hp less off_a off_b lies

    by : IsBefore d (of_spot a) p ⊎ (OnOneSight d (of_spot a) p ⊎ IsBefore d p (of_spot a)) → IsBefore d p (of_spot b) ⊎ (OnOneSight d p (of_spot b) ⊎ IsBefore d (of_spot b) p)
        → IsUpTo d (of_spot a) p × IsUpTo d p (of_spot b)
    by (inl h) (inl k) = (inl h, inl k)
    by (inl h) (inr (inl k)) = (inl h, inr k)
    by (inl h) (inr (inr k)) = let both = between (not_seen d (of_spot a) p h) (not_seen d (of_spot b) p k) in (inl h, inl both.1)
    by (inr (inl h)) k = (inr h, inl (seen_before d p (of_spot a) (of_spot b) hp a.positive b.positive (sight_back d (of_spot a) p h) less))
    by (inr (inr h)) k =
        let both = between (λ s. not_seen d p (of_spot a) h (sight_back d (of_spot a) p s))
        (λ s. not_seen d p (of_spot b) (before_on d p (of_spot a) (of_spot b) hp a.positive b.positive h less) (sight_back d (of_spot b) p s)) in
        (inl both.0, inl both.1)

module _ (d : Triple) (a b : Spot) (p : Point) where
  pub lies_first : OnOneSight d (of_spot a) p → LiesBetween d a b p
  lies_first h = (1, 0, omega arith, sight_on d (spot_sum a b 1 0) (of_spot a) p a.positive (sight_back d (of_spot a) (spot_sum a b 1 0) at) h)
    where
      end : (r : Triple) → dot r (scaled (of_spot a)) *ℤ (spot_sum a b 1 0).w ≡ dot r (scaled (spot_sum a b 1 0)) *ℤ a.w
      end r = at_first (dot r (scaled (of_spot a))) a.w (dot r (scaled (of_spot b))) b.w (pos 1) ∙ ap (λ (o : ℤ). o *ℤ a.w) (sym (product_of_sum r (pos 1) (pos 0) (of_spot a) (of_spot b)))

      at : OnOneSight d (of_spot a) (spot_sum a b 1 0)
      at = record { across = end (right_axis d); upward = end (up_axis d) }

  pub lies_second : OnOneSight d (of_spot b) p → LiesBetween d a b p
  lies_second h = (0, 1, omega arith, sight_on d (spot_sum a b 0 1) (of_spot b) p b.positive (sight_back d (of_spot b) (spot_sum a b 0 1) at) h)
    where
      end : (r : Triple) → dot r (scaled (of_spot b)) *ℤ (spot_sum a b 0 1).w ≡ dot r (scaled (spot_sum a b 0 1)) *ℤ b.w
      end r = at_second (dot r (scaled (of_spot a))) a.w (dot r (scaled (of_spot b))) b.w (pos 1) ∙ ap (λ (o : ℤ). o *ℤ b.w) (sym (product_of_sum r (pos 0) (pos 1) (of_spot a) (of_spot b)))

      at : OnOneSight d (of_spot b) (spot_sum a b 0 1)
      at = record { across = end (right_axis d); upward = end (up_axis d) }

  module _ (l : ViewLine) (proper : IsProper l) (on_a : IsOnViewLine d l (of_spot a)) (on_b : IsOnViewLine d l (of_spot b)) (on_p : IsOnViewLine d l p) where
    lies_inside : IsBefore d (of_spot a) p → IsBefore d p (of_spot b) → LiesBetween d a b p
    lies_inside after before =
        let (r, is) = axis d l proper in
        let h = weights_between _ _ _ _ _ _ (is.less (of_spot a) p on_a on_p after) (is.less p (of_spot b) on_p on_b before) in (
          h.i,
          h.j,
          h.some,
          is.sight (spot_sum a b h.i h.j) p (on_sum d l a b h.i h.j on_a on_b) on_p
              (ap (λ (o : ℤ). o *ℤ p.w) (product_of_sum r (pos h.i) (pos h.j) (of_spot a) (of_spot b)) ∙ h.same),
        )

    pub lies_of_up_to : IsUpTo d (of_spot a) p → IsUpTo d p (of_spot b) → LiesBetween d a b p
    lies_of_up_to (inr h) k = lies_first h
    lies_of_up_to (inl h) (inl k) = lies_inside h k
    lies_of_up_to (inl h) (inr k) = lies_second (sight_back d p (of_spot b) k)
