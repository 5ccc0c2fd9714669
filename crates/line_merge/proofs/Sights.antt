-- The order in which points are seen, by U and then by V.
use Rattle.std.proofs.Common.{◌≡◌, ◌⊎◌, inl, inr, refl, sym, ap, ◌∙◌}
use Rattle.std.specs.Prelude.{ℤ, ◌*ℤ◌, ◌<ℤ◌}
use Rattle.std.specs.Cmp.{IsTotalOrder, int_cmp_is, int_cmp_total, nat_cmp_total, on_total, then_total}
use Rattle.std.specs.Ordering.{int_cmp, ordering_then, ordering_reverse}
use Rattle.std.specs.declared.cmp.Ordering.{Ordering}
use Rattle.std.specs.declared.cmp.Ordering.TheVariants.{Less, Equal, Greater}
use Rattle.lattice.specs.declared.pieces.Piece.{Piece}
use Rattle.lattice.specs.declared.points.Spot.{Spot}
use Rattle.lattice.specs.Triple.{Triple}
use Rattle.lattice.specs.Points.{Point, IsPoint, of_spot, across_of, upward_of, OnOneSight}
use Rattle.geometry.specs.Pieces.{IsBefore, rank_of}
use Rattle.line_merge.specs.inner.Pieces.{piece_order}
pub use Rattle.line_merge.specs.inner.Pieces.{view_order}
use Rattle.integers.proofs.Orders.{less_of_cmp, equal_of_cmp}
use Rattle.integers.proofs.Chains.{Chains, chained, chained_ratios}

-- the order of two pairs of numbers
module _ (a b x y : ℤ) where
  pair_less : ordering_then (int_cmp a b) (int_cmp x y) ≡ Less → (a <ℤ b) ⊎ ((a ≡ b) × (x <ℤ y))
  pair_less = by (int_cmp a b) refl
    where
      by : (r : Ordering) → int_cmp a b ≡ r → ordering_then r (int_cmp x y) ≡ Less → (a <ℤ b) ⊎ ((a ≡ b) × (x <ℤ y))
      by Less e p = inl (less_of_cmp a b e)
      by Equal e p = inr (equal_of_cmp a b e, less_of_cmp x y p)
      by Greater e p = cc

  pair_less_back : (a <ℤ b) ⊎ ((a ≡ b) × (x <ℤ y)) → ordering_then (int_cmp a b) (int_cmp x y) ≡ Less
  pair_less_back (inl h) = ap (λ (r : Ordering). ordering_then r (int_cmp x y)) (sym (int_cmp_is a b Less h))
  pair_less_back (inr (e, h)) = ap (λ (r : Ordering). ordering_then r (int_cmp x y)) (sym (int_cmp_is a b Equal e)) ∙ sym (int_cmp_is x y Less h)

  pair_equal : ordering_then (int_cmp a b) (int_cmp x y) ≡ Equal → (a ≡ b) × (x ≡ y)
  pair_equal = by (int_cmp a b) refl
    where
      by : (r : Ordering) → int_cmp a b ≡ r → ordering_then r (int_cmp x y) ≡ Equal → (a ≡ b) × (x ≡ y)
      by Less e p = cc
      by Equal e p = (equal_of_cmp a b e, equal_of_cmp x y p)
      by Greater e p = cc

  pair_equal_back : a ≡ b → x ≡ y → ordering_then (int_cmp a b) (int_cmp x y) ≡ Equal
  pair_equal_back e f = ap (λ (r : Ordering). ordering_then r (int_cmp x y)) (sym (int_cmp_is a b Equal e)) ∙ sym (int_cmp_is x y Equal f)

reverse_then : (r s : Ordering) → ordering_then (ordering_reverse r) (ordering_reverse s) ≡ ordering_reverse (ordering_then r s)
reverse_then Less s = refl
reverse_then Equal s = refl
reverse_then Greater s = refl

module _ (d : Triple) (p q : Point) where
  pub before : view_order d p q ≡ Less → IsBefore d p q
  before = pair_less (across_of d p *ℤ q.w) (across_of d q *ℤ p.w) (upward_of d p *ℤ q.w) (upward_of d q *ℤ p.w)

  pub order_of_before : IsBefore d p q → view_order d p q ≡ Less
  order_of_before = pair_less_back (across_of d p *ℤ q.w) (across_of d q *ℤ p.w) (upward_of d p *ℤ q.w) (upward_of d q *ℤ p.w)

  pub sight : view_order d p q ≡ Equal → OnOneSight d p q
  sight h = let e = pair_equal (across_of d p *ℤ q.w) (across_of d q *ℤ p.w) (upward_of d p *ℤ q.w) (upward_of d q *ℤ p.w) h in record { across = e.0; upward = e.1 }

  pub order_of_sight : OnOneSight d p q → view_order d p q ≡ Equal
  order_of_sight h = pair_equal_back (across_of d p *ℤ q.w) (across_of d q *ℤ p.w) (upward_of d p *ℤ q.w) (upward_of d q *ℤ p.w) h.across h.upward

  pub order_back : view_order d p q ≡ ordering_reverse (view_order d q p)
  order_back =
      (λ i. ordering_then (int_cmp_total.antisymm (across_of d p *ℤ q.w) (across_of d q *ℤ p.w) i) (int_cmp_total.antisymm (upward_of d p *ℤ q.w) (upward_of d q *ℤ p.w) i))
      ∙ reverse_then (int_cmp (across_of d q *ℤ p.w) (across_of d p *ℤ q.w)) (int_cmp (upward_of d q *ℤ p.w) (upward_of d p *ℤ q.w))

  pub chained_views : (r : Point) → IsPoint p → IsPoint q → IsPoint r → Chains (view_order d p q) (view_order d q r) (view_order d p r)
  chained_views r hp hq hr =
      chained _ _ _ _ _ _
      (chained_ratios (across_of d p) p.w (across_of d q) q.w (across_of d r) r.w hp hq hr)
      (chained_ratios (upward_of d p) p.w (upward_of d q) q.w (upward_of d r) r.w hp hq hr)

-- where a point is before another, it is before each that is seen with it
module _ (d : Triple) (p q r : Point) (hp : IsPoint p) (hq : IsPoint q) (hr : IsPoint r) where
  pub before_seen : IsBefore d p q → OnOneSight d q r → IsBefore d p r
  before_seen h k = before d p r ((chained_views d p q r hp hq hr).second (order_of_sight d q r k) ∙ order_of_before d p q h)

  pub seen_before : OnOneSight d p q → IsBefore d q r → IsBefore d p r
  seen_before k h = before d p r ((chained_views d p q r hp hq hr).first (order_of_sight d p q k) ∙ order_of_before d q r h)

  pub before_on : IsBefore d p q → IsBefore d q r → IsBefore d p r
  before_on h k = before d p r ((chained_views d p q r hp hq hr).less (order_of_before d p q h) (order_of_before d q r k))

-- what is before another point is not seen with it
pub not_seen : (d : Triple) (p q : Point) → IsBefore d p q → ¬ OnOneSight d p q
not_seen d p q h k = let e = sym (order_of_before d p q h) ∙ order_of_sight d p q k in cc

-- the order of pieces
spot_order_total : (d : Triple) → IsTotalOrder (λ (s t : Spot). view_order d (of_spot s) (of_spot t))
spot_order_total d = record {
  antisymm = λ s t. order_back d (of_spot s) (of_spot t);
  trans = λ s t u. (chained_views d (of_spot s) (of_spot t) (of_spot u) s.positive t.positive u.positive).less;
  congr = λ s t u. (chained_views d (of_spot s) (of_spot t) (of_spot u) s.positive t.positive u.positive).first;
}

pub piece_order_total : (d : Triple) → IsTotalOrder (piece_order d)
piece_order_total d =
    then_total (on_total (λ (x : Piece). rank_of x.style) nat_cmp_total)
    (then_total (on_total (λ (x : Piece). x.a) (spot_order_total d)) (on_total (λ (x : Piece). x.b) (spot_order_total d)))
