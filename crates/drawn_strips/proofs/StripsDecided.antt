-- Whether a point that is at no end of strips lies on one of them is decided.
use Rattle.std.proofs.Common.{◌≡◌, ◌⊎◌, inl, inr, zero, suc, List, [], ◌∷◌, Contains, refl, sym, subst, ap, ◌∙◌, arith}
use Rattle.std.specs.Ordering.{ordering_reverse}
use Rattle.std.specs.declared.cmp.Ordering.{Ordering}
use Rattle.std.specs.declared.cmp.Ordering.TheVariants.{Less, Equal, Greater}
use Rattle.integers.proofs.Lists.{Contains-later}
use Rattle.lattice.specs.declared.lines.Line.{Line}
use Rattle.lattice.specs.declared.pieces.Strip.{Strip}
use Rattle.lattice.specs.declared.points.Spot.{Spot}
use Rattle.lattice.specs.Triple.{Triple}
use Rattle.lattice.specs.Points.{Point, IsPoint, of_spot, OnOneSight}
use Rattle.lattice.specs.Lines.{IsOnLine, AreStripEnds}
use Rattle.geometry.specs.Pieces.{LiesBetween, IsBefore}
use Rattle.geometry.proofs.OnLines.{on_line_between}
use Rattle.geometry.proofs.Shares.{sum_turned}
use Rattle.hiding_laws.proofs.Decisions.{same_or, alike_or}
use Rattle.line_merge.specs.Merging.{LiesOnStrip}
use Rattle.line_merge.proofs.Between.{between, seen_between}
use Rattle.line_merge.proofs.Lists.{contains_first}
use Rattle.line_merge.proofs.Sights.{view_order, before, order_of_before, sight, order_back}

module _ (d : Triple) where
  before_or : (p q : Point) → IsBefore d p q ⊎ ¬ IsBefore d p q
  before_or p q = by (view_order d p q) refl
    where
      by : (o : Ordering) → view_order d p q ≡ o → IsBefore d p q ⊎ ¬ IsBefore d p q
      by Less e = inl (before d p q e)
      by Equal e = inr (λ h. let clash : Less ≡ Equal = sym (order_of_before d p q h) ∙ e in cc)
      by Greater e = inr (λ h. let clash : Less ≡ Greater = sym (order_of_before d p q h) ∙ e in cc)

  turned : (a b : Spot) (p : Point) → LiesBetween d a b p → LiesBetween d b a p
  turned a b p (i, j, some, seen) = (j, i, omega arith, subst (λ (q : Point). OnOneSight d q p) (sum_turned a b i j) seen)

module _ (d : Triple) (p : Point) (positive : IsPoint p) where
  -- between two spots of a line, the one before the other
  ordered_or : (l : Line) (a b : Spot) → IsOnLine d l (of_spot a) → IsOnLine d l (of_spot b) → IsBefore d (of_spot a) (of_spot b) → ¬ OnOneSight d (of_spot a) p → ¬ OnOneSight d (of_spot b) p
      → LiesBetween d a b p ⊎ ¬ LiesBetween d a b p
  ordered_or l a b first second order off_a off_b = by (same_or _ _) (before_or d (of_spot a) p) (before_or d p (of_spot b))
    where
      by : IsOnLine d l p ⊎ ¬ IsOnLine d l p → IsBefore d (of_spot a) p ⊎ ¬ IsBefore d (of_spot a) p → IsBefore d p (of_spot b) ⊎ ¬ IsBefore d p (of_spot b) → LiesBetween d a b p ⊎ ¬ LiesBetween d a b p
      by (inr off) u v = inr (λ h. off (on_line_between d l a b p first second h))
      by (inl on) (inr never) v = inr (λ h. never (seen_between d a b p positive order off_a off_b h).0)
      by (inl on) (inl after) (inr never) = inr (λ h. never (seen_between d a b p positive order off_a off_b h).1)
      by (inl on) (inl after) (inl ahead) = inl (between d l a b p first second on after ahead)

  pub strip_or : (y : Strip) → AreStripEnds d y.line y.a y.b → (¬ OnOneSight d (of_spot y.a) p) × (¬ OnOneSight d (of_spot y.b) p) → LiesOnStrip d y p ⊎ ¬ LiesOnStrip d y p
  strip_or y ends off = by (view_order d (of_spot y.a) (of_spot y.b)) refl
    where
      by : (o : Ordering) → view_order d (of_spot y.a) (of_spot y.b) ≡ o → LiesOnStrip d y p ⊎ ¬ LiesOnStrip d y p
      by Less e = ordered_or y.line y.a y.b ends.first ends.second (before d (of_spot y.a) (of_spot y.b) e) off.0 off.1
      by Equal e = absurd (ends.apart (sight d (of_spot y.a) (of_spot y.b) e))
      by Greater e =
          alike_or (LiesBetween d y.b y.a p) (LiesBetween d y.a y.b p) (turned d y.b y.a p) (turned d y.a y.b p)
          (ordered_or y.line y.b y.a ends.second ends.first (before d (of_spot y.b) (of_spot y.a) (order_back d (of_spot y.b) (of_spot y.a) ∙ ap ordering_reverse e)) off.1 off.0)

  -- on one of a list, or on none
  pub some_strip_or : (strips : List Strip) → ((y : Strip) → Contains strips y → LiesOnStrip d y p ⊎ ¬ LiesOnStrip d y p)
      → ((y : Strip) × Contains strips y × LiesOnStrip d y p) ⊎ ((y : Strip) → Contains strips y → ¬ LiesOnStrip d y p)
  some_strip_or [] each = inr (λ y listed. absurd (omega (arith, listed.1)))
  some_strip_or (y ∷ ys) each = by (each y (contains_first ys y)) (some_strip_or ys (λ z listed. each z (Contains-later y ys z listed)))
    where
      off_all : ¬ LiesOnStrip d y p → ((z : Strip) → Contains ys z → ¬ LiesOnStrip d z p) → (z : Strip) → Contains (y ∷ ys) z → ¬ LiesOnStrip d z p
      off_all off none z (zero, below, is) = subst (λ (t : Strip). ¬ LiesOnStrip d t p) is off
      off_all off none z (suc k, below, is) = none z (k, omega arith, is)

      by : LiesOnStrip d y p ⊎ ¬ LiesOnStrip d y p → ((z : Strip) × Contains ys z × LiesOnStrip d z p) ⊎ ((z : Strip) → Contains ys z → ¬ LiesOnStrip d z p)
          → ((z : Strip) × Contains (y ∷ ys) z × LiesOnStrip d z p) ⊎ ((z : Strip) → Contains (y ∷ ys) z → ¬ LiesOnStrip d z p)
      by (inl on) later = inl (y, contains_first ys y, on)
      by (inr off) (inl (z, listed, on)) = inl (z, Contains-later y ys z listed, on)
      by (inr off) (inr none) = inr (off_all off none)
