-- Where a value that is linear along an edge is at least 0, within an interval.
use Rattle.std.proofs.Common.{◌≡◌, true, false, List, [], ◌∷◌, ◌++◌, refl, sym, subst, ◌∙◌, arith, ◌⊎◌, ◌↔◌, ◌≢◌, inl, inr}
use Rattle.std.specs.Prelude.{ℤ, pos, ◌+ℤ◌, ◌-ℤ◌, ◌*ℤ◌, ◌<ℤ◌, ◌≤ℤ◌}
use Rattle.std.proofs.lemmas.Int.{ints, by_lt_z}
use Rattle.std.specs.Int.Signed.{lt_z}
use Rattle.integers.proofs.Comparisons.{at_most_of_less, gap_of_at_most, sum_not_negative}
use Rattle.integers.proofs.Ring.{var, con, ◌⊕◌, ◌⊖◌, ◌⊗◌, ring}
use Rattle.integers.proofs.Signs.{mul_nonneg, mul_pos}
use Rattle.exact_frac.specs.declared.Frac.{Frac}
use Rattle.hiding_laws.specs.Values.{value_at}
use Rattle.intervals.specs.declared.interval.Interval.{Interval}
use Rattle.span_slow.specs.declared.linear.Linear.{Linear}
use Rattle.geometry.specs.Places.{IsPlace, IsSame, IsEarlier}
use Rattle.span_slow.specs.inner.Hidden.{AreNonnegative, HasRoot, IsRootOrEnd, IsWhereNonnegative}
use Rattle.span_slow.specs.inner.Steps.{IsClipped}
use Rattle.geometry.proofs.PlaceOrder.{most_most, not_later_of_not}
use Rattle.geometry.proofs.SamePlaces.{same, same_back, same_from_to}

-- ---- the sign of the value about the place where it is 0
at_least : (v x y : ℤ) → v ≡ y -ℤ x → (x ≤ℤ y) ↔ (pos 0 ≤ℤ v)
at_least v x y e = (λ h. omega (arith, ints), λ h. omega (arith, ints))

pub rising : (f g a b n m : ℤ) → a ≡ pos 0 -ℤ f → b ≡ g -ℤ f → ((a *ℤ m) ≤ℤ (n *ℤ b)) ↔ (pos 0 ≤ℤ value_at f g n m)
rising f g a b n m ea eb = at_least (value_at f g n m) (a *ℤ m) (n *ℤ b)
    (ring (f ∷ g ∷ n ∷ m ∷ []) (((var 3 ⊖ var 2) ⊗ var 0) ⊕ (var 2 ⊗ var 1)) ((var 2 ⊗ (var 1 ⊖ var 0)) ⊖ ((con (pos 0) ⊖ var 0) ⊗ var 3)) refl
    ∙ (λ i. (n *ℤ sym eb i) -ℤ (sym ea i *ℤ m)))

pub falling : (f g a b n m : ℤ) → a ≡ f → b ≡ f -ℤ g → ((n *ℤ b) ≤ℤ (a *ℤ m)) ↔ (pos 0 ≤ℤ value_at f g n m)
falling f g a b n m ea eb = at_least (value_at f g n m) (n *ℤ b) (a *ℤ m)
    (ring (f ∷ g ∷ n ∷ m ∷ []) (((var 3 ⊖ var 2) ⊗ var 0) ⊕ (var 2 ⊗ var 1)) ((var 0 ⊗ var 3) ⊖ (var 2 ⊗ (var 0 ⊖ var 1))) refl
    ∙ (λ i. (sym ea i *ℤ m) -ℤ (n *ℤ sym eb i)))

rising_zero : (f g a b : ℤ) → a ≡ pos 0 -ℤ f → b ≡ g -ℤ f → value_at f g a b ≡ pos 0
rising_zero f g a b ea eb =
    (λ i. value_at f g (ea i) (eb i))
    ∙ ring (f ∷ g ∷ []) ((((var 1 ⊖ var 0) ⊖ (con (pos 0) ⊖ var 0)) ⊗ var 0) ⊕ ((con (pos 0) ⊖ var 0) ⊗ var 1)) (con (pos 0)) refl

falling_zero : (f g a b : ℤ) → a ≡ f → b ≡ f -ℤ g → value_at f g a b ≡ pos 0
falling_zero f g a b ea eb =
    (λ i. value_at f g (ea i) (eb i))
    ∙ ring (f ∷ g ∷ []) ((((var 0 ⊖ var 1) ⊖ var 0) ⊗ var 0) ⊕ (var 0 ⊗ var 1)) (con (pos 0)) refl

both_least : (f g n m : ℤ) → pos 0 ≤ℤ f → pos 0 ≤ℤ g → pos 0 ≤ℤ n → n ≤ℤ m → pos 0 ≤ℤ value_at f g n m
both_least f g n m hf hg hn hm = sum_not_negative _ _ (mul_nonneg (m -ℤ n) f (gap_of_at_most n m hm) hf) (mul_nonneg n g hn hg)

both_below : (f g n m : ℤ) → f <ℤ pos 0 → g <ℤ pos 0 → pos 0 <ℤ m → pos 0 ≤ℤ n → n ≤ℤ m → pos 0 ≤ℤ value_at f g n m → ⊥
both_below f g n m hf hg up hn hm h =
    no (value_at f g n m) ((m -ℤ n) *ℤ ((pos 0 -ℤ f) -ℤ pos 1)) (n *ℤ ((pos 0 -ℤ g) -ℤ pos 1)) m
    (ring (f ∷ g ∷ n ∷ m ∷ []) (((var 3 ⊖ var 2) ⊗ var 0) ⊕ (var 2 ⊗ var 1))
    (con (pos 0) ⊖ ((((var 3 ⊖ var 2) ⊗ ((con (pos 0) ⊖ var 0) ⊖ con (pos 1))) ⊕ (var 2 ⊗ ((con (pos 0) ⊖ var 1) ⊖ con (pos 1)))) ⊕ var 3)) refl)
    (mul_nonneg (m -ℤ n) ((pos 0 -ℤ f) -ℤ pos 1) (gap_of_at_most n m hm) (below f hf)) (mul_nonneg n ((pos 0 -ℤ g) -ℤ pos 1) hn (below g hg)) up h
  where
    below : (f : ℤ) → f <ℤ pos 0 → pos 0 ≤ℤ ((pos 0 -ℤ f) -ℤ pos 1)
    below f h = omega (arith, ints)

    no : (v x y m : ℤ) → v ≡ pos 0 -ℤ ((x +ℤ y) +ℤ m) → pos 0 ≤ℤ x → pos 0 ≤ℤ y → pos 0 <ℤ m → pos 0 ≤ℤ v → ⊥
    no v x y m e p q r s = omega (arith, ints)

-- from 1 to 0 there is no place
nothing : (a b c d n m : ℤ) → a ≡ b → c ≡ pos 0 → pos 0 <ℤ b → pos 0 <ℤ d → pos 0 <ℤ m → (a *ℤ m) ≤ℤ (n *ℤ b) → (n *ℤ d) ≤ℤ (c *ℤ m) → ⊥
nothing a b c d n m ea ec hb hd hm p q = by_lt_z (pos 0) n
    (λ h. no_end (n *ℤ d) m (mul_pos n d h hd) (subst (λ v. (n *ℤ d) ≤ℤ (v *ℤ m)) ec q))
    (λ h. no_start (b *ℤ (m -ℤ n)) (b *ℤ m) (n *ℤ b) (ring (b ∷ n ∷ m ∷ []) (var 0 ⊗ (var 2 ⊖ var 1)) ((var 0 ⊗ var 2) ⊖ (var 1 ⊗ var 0)) refl)
    (mul_pos b (m -ℤ n) hb (before n m h hm)) (subst (λ v. (v *ℤ m) ≤ℤ (n *ℤ b)) ea p))
  where
    no_end : (x m : ℤ) → pos 0 <ℤ x → x ≤ℤ (pos 0 *ℤ m) → ⊥
    no_end x m h k = omega (arith, ints)

    no_start : (x u v : ℤ) → x ≡ u -ℤ v → pos 0 <ℤ x → u ≤ℤ v → ⊥
    no_start x u v e h k = omega (arith, ints)

    before : (n m : ℤ) → n ≤ℤ pos 0 → pos 0 <ℤ m → pos 0 <ℤ (m -ℤ n)
    before n m h k = omega (arith, ints)

differ : (f g : ℤ) → f <ℤ g → f ≢ g
differ f g h e = omega (arith, ints)

differ_back : (f g : ℤ) → g <ℤ f → f ≢ g
differ_back f g h e = omega (arith, ints)

less_of : (f g : ℤ) → f <ℤ pos 0 → pos 0 ≤ℤ g → f <ℤ g
less_of f g p q = omega (arith, ints)

same_root : (vs : List Linear) (a b : Frac) → IsSame a b → HasRoot vs b → HasRoot vs a
same_root [] a b p h = absurd h
same_root (v ∷ vs) a b p h = elim h [
  | inl k ↦ inl (k.0, (λ i. value_at v.start v.end (p.0 i) (p.1 i)) ∙ k.1)
  | inr k ↦ inr (same_root vs a b p k)
]

same_cut : (vs : List Linear) (a b : Frac) → IsSame a b → IsRootOrEnd vs b → IsRootOrEnd vs a
same_cut vs a b p h = elim h [
  | inl z ↦ inl (p.0 ∙ z)
  | inr k ↦ elim k [
    | inl z ↦ inr (inl (p.0 ∙ z ∙ sym p.1))
    | inr r ↦ inr (inr (same_root vs a b p r))
  ]
]

-- ---- an interval, clipped to where one value is at least 0
module _ (x : Interval Frac) (v : Linear) (from_place : IsPlace x.from) (to_place : IsPlace x.to) where
  module _ (root : Frac) (start : v.start <ℤ pos 0) (end : pos 0 ≤ℤ v.end) (num : root.num ≡ pos 0 -ℤ v.start) (den : root.den ≡ v.end -ℤ v.start) where
    root_is : IsRootOrEnd (v ∷ []) root
    root_is = inr (inr (inl (differ v.start v.end (less_of v.start v.end start end), rising_zero v.start v.end root.num root.den num den)))

    pub behind_cut : (new : Interval Frac) → IsSame new.from root → IsSame new.to x.to → IsPlace new.from → IsPlace new.to → IsEarlier x.from root → IsClipped x v new
    behind_cut new from to place_from place_to earlier = record {
      exactly = λ n m up least most. (
        λ h.
            let r = same_from_to new.from new.to root x.to n m from to h in (
              (most_most x.from.num x.from.den root.num root.den n m x.from.positive root.positive up (at_most_of_less (x.from.num *ℤ root.den) (root.num *ℤ x.from.den) earlier) r.0, r.1),
              (rising v.start v.end root.num root.den n m num den).0 r.0,
            ),
        λ h. same_from_to root x.to new.from new.to n m (same_back new.from root from) (same_back new.to x.to to) ((rising v.start v.end root.num root.den n m num den).1 h.1, h.0.1),
      );
      from_end = inr (same_cut (v ∷ []) new.from root from root_is);
      to_end = inl to;
      from_place = place_from;
      to_place = place_to;
    }

    pub behind_kept : ¬ IsEarlier x.from root → IsClipped x v x
    behind_kept not = record {
      exactly = λ n m up least most. (
        λ h. (
          h,
          (rising v.start v.end root.num root.den n m num den).0
              (most_most root.num root.den x.from.num x.from.den n m root.positive x.from.positive up (not_later_of_not x.from root not) h.0),
        ),
        λ h. h.0,
      );
      from_end = inl (same x.from);
      to_end = inl (same x.to);
      from_place = from_place;
      to_place = to_place;
    }

  module _ (root : Frac) (start : pos 0 ≤ℤ v.start) (end : v.end <ℤ pos 0) (num : root.num ≡ v.start) (den : root.den ≡ v.start -ℤ v.end) where
    end_is : IsRootOrEnd (v ∷ []) root
    end_is = inr (inr (inl (differ_back v.start v.end (less_of v.end v.start end start), falling_zero v.start v.end root.num root.den num den)))

    pub fall_cut : (new : Interval Frac) → IsSame new.from x.from → IsSame new.to root → IsPlace new.from → IsPlace new.to → IsEarlier root x.to → IsClipped x v new
    fall_cut new from to place_from place_to earlier = record {
      exactly = λ n m up least most. (
        λ h.
            let r = same_from_to new.from new.to x.from root n m from to h in (
              (r.0, most_most n m root.num root.den x.to.num x.to.den up root.positive x.to.positive r.1 (at_most_of_less (root.num *ℤ x.to.den) (x.to.num *ℤ root.den) earlier)),
              (falling v.start v.end root.num root.den n m num den).0 r.1,
            ),
        λ h. same_from_to x.from root new.from new.to n m (same_back new.from x.from from) (same_back new.to root to) (h.0.0, (falling v.start v.end root.num root.den n m num den).1 h.1),
      );
      from_end = inl from;
      to_end = inr (same_cut (v ∷ []) new.to root to end_is);
      from_place = place_from;
      to_place = place_to;
    }

    pub fall_kept : ¬ IsEarlier root x.to → IsClipped x v x
    fall_kept not = record {
      exactly = λ n m up least most. (
        λ h. (
          h,
          (falling v.start v.end root.num root.den n m num den).0
              (most_most n m x.to.num x.to.den root.num root.den up x.to.positive root.positive h.1 (not_later_of_not root x.to not)),
        ),
        λ h. h.0,
      );
      from_end = inl (same x.from);
      to_end = inl (same x.to);
      from_place = from_place;
      to_place = to_place;
    }

  pub all_kept : pos 0 ≤ℤ v.start → pos 0 ≤ℤ v.end → IsClipped x v x
  all_kept start end = record {
    exactly = λ n m up least most. (λ h. (h, both_least v.start v.end n m start end least most), λ h. h.0);
    from_end = inl (same x.from);
    to_end = inl (same x.to);
    from_place = from_place;
    to_place = to_place;
  }

  pub none_kept : (new : Interval Frac) → v.start <ℤ pos 0 → v.end <ℤ pos 0 → new.from.num ≡ new.from.den → new.to.num ≡ pos 0 → IsPlace new.from → IsPlace new.to → IsClipped x v new
  none_kept new start end from to place_from place_to = record {
    exactly = λ n m up least most. (
      λ h. absurd (nothing new.from.num new.from.den new.to.num new.to.den n m from to new.from.positive new.to.positive up h.0 h.1),
      λ h. absurd (both_below v.start v.end n m start end up least most h.1),
    );
    from_end = inr (inr (inl from));
    to_end = inr (inl to);
    from_place = place_from;
    to_place = place_to;
  }

-- ---- one value more
least_more : (vs : List Linear) (v : Linear) (n m : ℤ) → (AreNonnegative vs n m × (pos 0 ≤ℤ value_at v.start v.end n m)) → AreNonnegative (vs ++ v ∷ []) n m
least_more [] v n m h = (h.1, tt)
least_more (w ∷ vs) v n m h = (h.0.0, least_more vs v n m (h.0.1, h.1))

least_both : (vs : List Linear) (v : Linear) (n m : ℤ) → AreNonnegative (vs ++ v ∷ []) n m → AreNonnegative vs n m × (pos 0 ≤ℤ value_at v.start v.end n m)
least_both [] v n m h = (tt, h.0)
least_both (w ∷ vs) v n m h = let k = least_both vs v n m h.1 in ((h.0, k.0), k.1)

root_left : (vs ws : List Linear) (r : Frac) → HasRoot vs r → HasRoot (vs ++ ws) r
root_left [] ws r h = absurd h
root_left (v ∷ vs) ws r h = elim h [ inl k ↦ inl k | inr k ↦ inr (root_left vs ws r k) ]

root_right : (vs ws : List Linear) (r : Frac) → HasRoot ws r → HasRoot (vs ++ ws) r
root_right [] ws r h = h
root_right (v ∷ vs) ws r h = inr (root_right vs ws r h)

cut_more : (vs : List Linear) (v : Linear) (old new : Frac) → IsRootOrEnd vs old → IsSame new old ⊎ IsRootOrEnd (v ∷ []) new → IsRootOrEnd (vs ++ v ∷ []) new
cut_more vs v old new h k = elim k [
  | inl s ↦ elim (same_cut vs new old s h) [
    | inl z ↦ inl z
    | inr t ↦ elim t [ inl z ↦ inr (inl z) | inr r ↦ inr (inr (root_left vs (v ∷ []) new r)) ]
  ]
  | inr c ↦ elim c [
    | inl z ↦ inl z
    | inr t ↦ elim t [ inl z ↦ inr (inl z) | inr r ↦ inr (inr (root_right vs (v ∷ []) new r)) ]
  ]
]

pub clipped_more : (vs : List Linear) (v : Linear) (x y : Interval Frac) → IsWhereNonnegative vs x → IsClipped x v y → IsWhereNonnegative (vs ++ v ∷ []) y
clipped_more vs v x y h c = record {
  exactly = λ n m up least most.
      let old = h.exactly n m up least most in
      let new = c.exactly n m up least most in (
        λ k. let b = new.0 k in least_more vs v n m (old.0 b.0, b.1),
        λ k. let b = least_both vs v n m k in new.1 (old.1 b.0, b.1),
      );
  from_end = cut_more vs v x.from y.from h.from_end c.from_end;
  to_end = cut_more vs v x.to y.to h.to_end c.to_end;
  from_place = c.from_place;
  to_place = c.to_place;
}

-- ---- a number that was tested
pub tested_below : (x v : ℤ) → x ≡ v → lt_z x (pos 0) ≡ true → v <ℤ pos 0
tested_below x v e h = omega (arith, ints)

pub tested_least : (x v : ℤ) → x ≡ v → lt_z x (pos 0) ≡ false → pos 0 ≤ℤ v
tested_least x v e h = omega (arith, ints)
