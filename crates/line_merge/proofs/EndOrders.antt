-- Ends of one direction are in the order in which their spots are seen.
use Rattle.std.proofs.Common.{◌≡◌, inr, refl, sym, ap, subst, ◌∙◌}
use Rattle.std.specs.Prelude.{ℤ, ◌*ℤ◌}
use Rattle.std.specs.Cmp.{nat_cmp_is}
use Rattle.std.specs.Ordering.{int_cmp, ordering_then, ordering_reverse}
use Rattle.std.specs.declared.cmp.Ordering.{Ordering}
use Rattle.std.specs.declared.cmp.Ordering.TheVariants.{Less, Equal, Greater}
use Rattle.exact_frac.specs.declared.Frac.{Frac}
use Rattle.exact_frac.specs.Frac.{order_of}
use Rattle.lattice.specs.Triple.{Triple}
use Rattle.lattice.specs.Points.{of_spot, across_of, upward_of, IsRatio, OnOneSight}
use Rattle.lattice.specs.Lines.{AreStripEnds}
use Rattle.line_merge.specs.declared.ends.SeenEnd.{SeenEnd}
use Rattle.line_merge.specs.declared.numbering.Numbered.{Numbered}
use Rattle.line_merge.specs.inner.Laws.{end_order_total}
use Rattle.line_merge.specs.inner.Ends.{seen_order, end_order, IsSeenEnd, IsSeenEndOf, IsIntervalOf}
use Rattle.line_merge.proofs.Sights.{view_order, sight}

order_by_ratios : (f g : Frac) (k l m n : ℤ) → IsRatio f k l → IsRatio g m n → order_of f g ≡ int_cmp (k *ℤ n) (m *ℤ l)
order_by_ratios f g k l m n h h' = λ i. int_cmp (h.num i *ℤ h'.den i) (h'.num i *ℤ h.den i)

pub seen_is : (d : Triple) (s t : SeenEnd) → IsSeenEnd d s → IsSeenEnd d t → seen_order s t ≡ view_order d (of_spot s.spot) (of_spot t.spot)
seen_is d s t h k =
    λ i. ordering_then (order_by_ratios s.across t.across (across_of d (of_spot s.spot)) s.spot.w (across_of d (of_spot t.spot)) t.spot.w h.across k.across i)
    (order_by_ratios s.upward t.upward (upward_of d (of_spot s.spot)) s.spot.w (upward_of d (of_spot t.spot)) t.spot.w h.upward k.upward i)

-- ---- ends on one line
module _ (d : Triple) (s t : SeenEnd) (hs : IsSeenEnd d s) (ht : IsSeenEnd d t) (one : s.line ≡ t.line) where
  pub order_on_line : end_order s t ≡ view_order d (of_spot s.spot) (of_spot t.spot)
  order_on_line = ap (λ (o : Ordering). ordering_then o (seen_order s t)) (sym (nat_cmp_is s.line t.line Equal one)) ∙ seen_is d s t hs ht

-- ---- the interval of a strip
not_less : (r : Ordering) → ¬ (r ≡ Less) → ¬ (r ≡ Equal) → ordering_reverse r ≡ Less
not_less Less h k = absurd (h refl)
not_less Equal h k = absurd (k refl)
not_less Greater h k = refl

pub turned_interval : (d : Triple) (x : Numbered) (a b : SeenEnd) → AreStripEnds d x.strip.line x.strip.a x.strip.b → IsSeenEndOf d x.line x.strip.a a → IsSeenEndOf d x.line x.strip.b b → ¬ (end_order a b ≡ Less)
    → IsIntervalOf d x (record { from = b; to = a })
turned_interval d x a b ends ha hb past = record { proper = end_order_total.antisymm b a ∙ not_less (end_order a b) past apart; ends = inr (hb, ha) }
  where
    apart : ¬ (end_order a b ≡ Equal)
    apart e =
        ends.apart (subst (λ p. OnOneSight d (of_spot p) (of_spot x.strip.b)) ha.spot
        (subst (λ p. OnOneSight d (of_spot a.spot) (of_spot p)) hb.spot
        (sight d (of_spot a.spot) (of_spot b.spot) (sym (order_on_line d a b ha.seen hb.seen (ha.line ∙ sym hb.line)) ∙ e))))
