-- Cuts of the order of places, at points of hatch lines.
use Rattle.std.proofs.Common.{◌≡◌, Bool, true, false, true≢false, refl, sym, ap, subst, ◌∙◌, arith}
use Rattle.std.specs.Prelude.{ℤ, pos, ◌*ℤ◌, ◌<ℤ◌, ◌≤ℤ◌}
use Rattle.std.specs.Cmp.{int_ranks, int_cmp_is, int_cmp_total}
use Rattle.std.specs.Ordering.{int_cmp, ordering_then, is_lt, is_le, MatchOrdering}
use Rattle.std.specs.declared.cmp.Ordering.{Ordering}
use Rattle.std.specs.declared.cmp.Ordering.TheVariants.{Less, Equal, Greater}
use Rattle.std.proofs.lemmas.Int.{ints}
use Rattle.integers.proofs.Chains.{Chains, chained, chained_total, chained_ratios, before_less}
use Rattle.integers.proofs.Orders.{at_most_of_not_lt}
use Rattle.exact_frac.specs.Frac.{order_of}
use Rattle.intervals.specs.declared.interval.Interval.{Interval}
use Rattle.intervals.specs.Cuts.{IsCut, Crosses}
use Rattle.hatch_fill.specs.declared.places.HatchPlace.{HatchPlace}
use Rattle.hatch_fill.specs.inner.Places.{place_order}

before_most : (r s t : Ordering) → Chains r s t → is_le s ≡ true → ¬ (r ≡ Greater) → is_le t ≡ true
before_most Less Less t h e k = ap is_le (h.less refl refl)
before_most Less Equal t h e k = ap is_le (h.second refl)
before_most Less Greater t h e k = cc
before_most Equal s t h e k = ap is_le (h.first refl) ∙ e
before_most Greater s t h e k = absurd (k refl)

-- U - V of the place is less
abbrev pub line_cut : ℤ → HatchPlace → Bool
line_cut n t = is_lt (int_cmp t.diagonal n)

pub is_line_cut : (n : ℤ) → IsCut place_order (line_cut n)
is_line_cut n x y h k =
    before_less (int_cmp x.diagonal y.diagonal) (int_cmp y.diagonal n) (int_cmp x.diagonal n) (chained_total int_cmp_total x.diagonal y.diagonal n) h
    (λ e. k (ap (λ (o : Ordering). ordering_then o (order_of x.across y.across)) e))

-- the point where U - V is this number and U is u / w
module _ (diagonal u w : ℤ) where
  -- the order of a place and the point
  abbrev pub point_order : HatchPlace → Ordering
  point_order t = ordering_then (int_cmp t.diagonal diagonal) (int_cmp (t.across.num *ℤ w) (u *ℤ t.across.den))

  -- the place is before the point
  abbrev pub is_before : HatchPlace → Bool
  is_before t = is_lt (point_order t)

  -- the place is not after it
  abbrev pub is_not_after : HatchPlace → Bool
  is_not_after t = is_le (point_order t)

  chain : pos 0 <ℤ w → (x y : HatchPlace) → Chains (place_order x y) (point_order y) (point_order x)
  chain positive x y = chained _ _ _ _ _ _ (chained_total int_cmp_total x.diagonal y.diagonal diagonal) (chained_ratios x.across.num x.across.den y.across.num y.across.den u w x.across.positive y.across.positive positive)

  pub before_is_cut : pos 0 <ℤ w → IsCut place_order is_before
  before_is_cut positive x y h k = before_less (place_order x y) (point_order y) (point_order x) (chain positive x y) h k

  pub not_after_is_cut : pos 0 <ℤ w → IsCut place_order is_not_after
  not_after_is_cut positive x y h k = before_most (place_order x y) (point_order y) (point_order x) (chain positive x y) h k

  -- ---- by the place's line
  pub on_lesser : (t : HatchPlace) → t.diagonal <ℤ diagonal → point_order t ≡ Less
  on_lesser t h = ap (λ (o : Ordering). ordering_then o (int_cmp (t.across.num *ℤ w) (u *ℤ t.across.den))) (sym (int_cmp_is t.diagonal diagonal Less h))

  pub on_greater : (t : HatchPlace) → diagonal <ℤ t.diagonal → point_order t ≡ Greater
  on_greater t h = ap (λ (o : Ordering). ordering_then o (int_cmp (t.across.num *ℤ w) (u *ℤ t.across.den))) (sym (int_cmp_is t.diagonal diagonal Greater h))

  pub on_line : (t : HatchPlace) → t.diagonal ≡ diagonal → point_order t ≡ int_cmp (t.across.num *ℤ w) (u *ℤ t.across.den)
  on_line t h = ap (λ (o : Ordering). ordering_then o (int_cmp (t.across.num *ℤ w) (u *ℤ t.across.den))) (sym (int_cmp_is t.diagonal diagonal Equal h))

-- ---- what the order of two numbers tells
pub less_of : (a b : ℤ) → is_lt (int_cmp a b) ≡ true → a <ℤ b
less_of a b = by (int_cmp a b) (int_ranks a b)
  where
    by : (r : Ordering) → MatchOrdering r (a <ℤ b) (a ≡ b) (b <ℤ a) → is_lt r ≡ true → a <ℤ b
    by Less h e = h
    by Equal h e = cc
    by Greater h e = cc

pub of_less : (a b : ℤ) → a <ℤ b → is_lt (int_cmp a b) ≡ true
of_less a b h = ap is_lt (sym (int_cmp_is a b Less h))

pub of_most : (a b : ℤ) → b ≤ℤ a → is_lt (int_cmp a b) ≡ false
of_most a b h = by (int_cmp a b) (int_ranks a b)
  where
    by : (r : Ordering) → MatchOrdering r (a <ℤ b) (a ≡ b) (b <ℤ a) → is_lt r ≡ false
    by Less k = absurd (omega (arith, ints))
    by Equal k = refl
    by Greater k = refl

pub of_not_more : (a b : ℤ) → a ≤ℤ b → is_le (int_cmp a b) ≡ true
of_not_more a b h = by (int_cmp a b) (int_ranks a b)
  where
    by : (r : Ordering) → MatchOrdering r (a <ℤ b) (a ≡ b) (b <ℤ a) → is_le r ≡ true
    by Less k = refl
    by Equal k = refl
    by Greater k = absurd (omega (arith, ints))

pub of_more : (a b : ℤ) → b <ℤ a → is_le (int_cmp a b) ≡ false
of_more a b h = ap is_le (sym (int_cmp_is a b Greater h))

-- ---- an interval of one line
module _ (i : Interval HatchPlace) (one : i.from.diagonal ≡ i.to.diagonal) (diagonal u w : ℤ) where
  -- a cut before a point goes through it exactly where the point is on its line, after its beginning and not after its end
  pub record IsAmong : Type 0 where
    pub line : i.from.diagonal ≡ diagonal
    pub after : (i.from.across.num *ℤ w) <ℤ (u *ℤ i.from.across.den)
    pub until : (u *ℤ i.to.across.den) ≤ℤ (i.to.across.num *ℤ w)

  pub among : Crosses (is_before diagonal u w) i → IsAmong
  among (begun, ended) = by (int_cmp i.from.diagonal diagonal) (int_ranks i.from.diagonal diagonal)
    where
      by : (r : Ordering) → MatchOrdering r (i.from.diagonal <ℤ diagonal) (i.from.diagonal ≡ diagonal) (diagonal <ℤ i.from.diagonal) → IsAmong
      by Less h = absurd (true≢false (sym (ap is_lt (on_lesser diagonal u w i.to (subst (λ (z : ℤ). z <ℤ diagonal) one h))) ∙ ended))
      by Greater h = absurd (true≢false (sym begun ∙ ap is_lt (on_greater diagonal u w i.from h)))
      by Equal h = record {
        line = h;
        after = less_of _ _ (sym (ap is_lt (on_line diagonal u w i.from h)) ∙ begun);
        until = at_most_of_not_lt _ _ (sym (ap is_lt (on_line diagonal u w i.to (sym one ∙ h))) ∙ ended);
      }

  pub crosses : IsAmong → Crosses (is_before diagonal u w) i
  crosses h = (
    ap is_lt (on_line diagonal u w i.from h.line) ∙ of_less _ _ h.after,
    ap is_lt (on_line diagonal u w i.to (sym one ∙ h.line)) ∙ of_most _ _ h.until,
  )

  -- the cut after a point, from its beginning on and before its end
  pub crosses_after : i.from.diagonal ≡ diagonal → (i.from.across.num *ℤ w) ≤ℤ (u *ℤ i.from.across.den) → (u *ℤ i.to.across.den) <ℤ (i.to.across.num *ℤ w) → Crosses (is_not_after diagonal u w) i
  crosses_after h least less = (
    ap is_le (on_line diagonal u w i.from h) ∙ of_not_more _ _ least,
    ap is_le (on_line diagonal u w i.to (sym one ∙ h)) ∙ of_more _ _ less,
  )

  -- no cut between lines goes through it
  pub not_line_crossed : (n : ℤ) → Crosses (line_cut n) i → ⊥
  not_line_crossed n (begun, ended) = true≢false (sym begun ∙ ap (λ (z : ℤ). is_lt (int_cmp z n)) one ∙ ended)
