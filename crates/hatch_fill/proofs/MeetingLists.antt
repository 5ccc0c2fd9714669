-- The places at which a line meets hatch lines, one number after the other.
use Rattle.std.proofs.Common.{◌≡◌, ◌≢◌, ◌⊎◌, inl, inr, ℕ, ◌≤◌, List, [], ◌∷◌, ◌++◌, Contains, refl, sym, ap, subst, ◌∙◌, arith}
use Rattle.std.specs.Prelude.{ℤ, pos, ◌+ℤ◌, ◌-ℤ◌, ◌*ℤ◌, ◌<ℤ◌, ◌≤ℤ◌}
use Rattle.std.proofs.lemmas.Int.{ints, by_lt_z}
use Rattle.std.proofs.lemmas.List.Elements.{All-contains, All-push, Contains-append_left, Contains-push, Contains-push_cases, All-weaker}
use Rattle.integers.proofs.Comparisons.{less_not_same}
use Rattle.integers.proofs.Ring.{var, ◌⊖◌, ◌⊗◌, ring}
use Rattle.integers.proofs.Signs.{mul_pos}
use Rattle.intervals.proofs.Lists.{pairs_append}
use Rattle.lattice.specs.declared.lines.Line.{Line}
use Rattle.hatch_fill.specs.declared.places.HatchPlace.{HatchPlace}
use Rattle.hatch_fill.specs.inner.Meetings.{IsMeeting, HasMeeting}
use Rattle.hatch_fill.specs.inner.Crossings.{IsMeetingAmong, AreMeetings}

-- hatch lines with different numbers are apart
pub numbers_apart : (i j : ℤ) (spacing : ℕ) → 1 ≤ spacing → i <ℤ j → (i *ℤ pos spacing) <ℤ (j *ℤ pos spacing)
numbers_apart i j spacing some less = by (subst (λ (z : ℤ). pos 0 <ℤ z) (ring (i ∷ j ∷ pos spacing ∷ []) ((var 1 ⊖ var 0) ⊗ var 2) ((var 1 ⊗ var 2) ⊖ (var 0 ⊗ var 2)) refl) (mul_pos (j -ℤ i) (pos spacing) (omega (arith, ints)) (omega (arith, ints))))
  where
    by : pos 0 <ℤ ((j *ℤ pos spacing) -ℤ (i *ℤ pos spacing)) → (i *ℤ pos spacing) <ℤ (j *ℤ pos spacing)
    by h = omega (arith, ints)

module _ (line : Line) (spacing : ℕ) (some : 1 ≤ spacing) (from : ℤ) where
  pub meetings_none : AreMeetings line spacing from from []
  meetings_none = record { each = λ k d less. absurd (omega arith); once = λ i j d less within. absurd (omega arith); all = λ number least below. absurd (none number least below) }
    where
      none : (number : ℤ) → from ≤ℤ number → number <ℤ from → ⊥
      none number h l = omega (arith, ints)

  among_more : (k : ℤ) (t : HatchPlace) → IsMeetingAmong line spacing from k t → IsMeetingAmong line spacing from (k +ℤ pos 1) t
  among_more k t (number, least, below, is) = (number, least, omega (arith, ints), is)

  below_cases : (number k : ℤ) → number <ℤ (k +ℤ pos 1) → (number <ℤ k) ⊎ (number ≡ k)
  below_cases number k h = by_lt_z number k (λ l. inl l) (λ l. inr (last l))
    where
      last : k ≤ℤ number → number ≡ k
      last l = omega (arith, ints)

  module _ (k : ℤ) (least : from ≤ℤ k) (places : List HatchPlace) (before : AreMeetings line spacing from k places) where
    pub meetings_same : ¬ HasMeeting line (k *ℤ pos spacing) → AreMeetings line spacing from (k +ℤ pos 1) places
    meetings_same none = record {
      each = All-weaker (IsMeetingAmong line spacing from k) (IsMeetingAmong line spacing from (k +ℤ pos 1)) (among_more k) places before.each;
      once = before.once;
      all = λ number l below has. by number l has (below_cases number k below);
    }
      where
        by : (number : ℤ) → from ≤ℤ number → HasMeeting line (number *ℤ pos spacing) → (number <ℤ k) ⊎ (number ≡ k) → (t : HatchPlace) × Contains places t × (t.diagonal ≡ number *ℤ pos spacing)
        by number l has (inl less) = before.all number l less has
        by number l has (inr same) = absurd (none (subst (λ (n : ℤ). HasMeeting line (n *ℤ pos spacing)) same has))

    pub meetings_more : (t : HatchPlace) → IsMeeting line (k *ℤ pos spacing) t → AreMeetings line spacing from (k +ℤ pos 1) (places ++ t ∷ [])
    meetings_more t is = record {
      each = All-push (IsMeetingAmong line spacing from (k +ℤ pos 1)) places t (All-weaker (IsMeetingAmong line spacing from k) (IsMeetingAmong line spacing from (k +ℤ pos 1)) (among_more k) places before.each) (k, least, omega (arith, ints), is);
      once = pairs_append (λ (x y : HatchPlace). x.diagonal ≢ y.diagonal) places (t ∷ []) before.once (λ i j d less within. absurd (omega arith)) (λ x y there last. apart x y there (Contains-push_cases [] t y last));
      all = λ number l below has. by number l has (below_cases number k below);
    }
      where
        earlier : (x : HatchPlace) → IsMeetingAmong line spacing from k x → x.diagonal ≡ t.diagonal → ⊥
        earlier x (number, l, below, h) e = less_not_same (number *ℤ pos spacing) (k *ℤ pos spacing) (numbers_apart number k spacing some below) (sym h.at ∙ e ∙ is.at)

        apart : (x y : HatchPlace) → Contains places x → Contains [] y ⊎ (t ≡ y) → x.diagonal ≢ y.diagonal
        apart x y there (inl (n, less, at)) e = absurd (omega arith)
        apart x y there (inr same) e = earlier x (All-contains (IsMeetingAmong line spacing from k) places x before.each there) (e ∙ ap (λ (z : HatchPlace). z.diagonal) (sym same))

        by : (number : ℤ) → from ≤ℤ number → HasMeeting line (number *ℤ pos spacing) → (number <ℤ k) ⊎ (number ≡ k) → (x : HatchPlace) × Contains (places ++ t ∷ []) x × (x.diagonal ≡ number *ℤ pos spacing)
        by number l has (inl less) = let (x, there, e) = before.all number l less has in (x, Contains-append_left places (t ∷ []) x there, e)
        by number l has (inr same) = (t, Contains-push places t, is.at ∙ (λ i. sym same i *ℤ pos spacing))

    -- up to the last
    pub meetings_ended : (to : ℤ) → (k ≤ℤ to) ⊎ (k ≡ from) → to ≤ℤ k → AreMeetings line spacing from to places
    meetings_ended to reached past = record {
      each = All-weaker (IsMeetingAmong line spacing from k) (IsMeetingAmong line spacing from to) (λ t h. ended t h reached) places before.each;
      once = before.once;
      all = λ number l below has. before.all number l (omega (arith, ints)) has;
    }
      where
        none : (number : ℤ) → k ≡ from → from ≤ℤ number → number <ℤ k → ⊥
        none number e h l = omega (arith, ints)

        ended : (t : HatchPlace) → IsMeetingAmong line spacing from k t → (k ≤ℤ to) ⊎ (k ≡ from) → IsMeetingAmong line spacing from to t
        ended t (number, l, below, is) (inl h) = (number, l, omega (arith, ints), is)
        ended t (number, l, below, is) (inr e) = absurd (none number e l below)
