-- Where two lines cross, by numbers: turned so that denominator is at least 0, and told in terms of an edge and an outline.
use Rattle.std.proofs.Common.{◌≡◌, ◌⊎◌, inl, inr, [], ◌∷◌, Option, Some, None, refl, sym, subst, ap, ◌∙◌, arith}
use Rattle.std.specs.Prelude.{ℤ, pos, ◌-ℤ◌, ◌*ℤ◌, ◌<ℤ◌, ◌≤ℤ◌, ◌<◌, ◌^◌, unsigned_abs, MatchOption, IfSome}
use Rattle.std.proofs.lemmas.Int.{ints, by_lt_z}
use Rattle.integers.proofs.Comparisons.{less_of_gap, times_zero, positive_not_zero, negation_positive, negative_of_negation, zero_between}
use Rattle.integers.proofs.Ring.{var, con, ◌⊖◌, ◌⊗◌, ring, gap_of_less, less_by}
use Rattle.integers.proofs.Signs.{mul_pos, mul_two_neg, pos_of_mul}
use Rattle.exact_frac.specs.declared.Frac.{Frac}
use Rattle.cross_find.specs.Lines.{IsInner, IsInnerForward, IsCrossedBy}

-- ---- from an answer to another
pub match_map : {A : Type 0} {P P' : Type 0} {Q Q' : A → Type 0} (o : Option A) → (P → P') → ((a : A) → Q a → Q' a) → MatchOption o P Q → MatchOption o P' Q'
match_map None f g h = f h
match_map (Some a) f g h = g a h

pub some_of : {A : Type 0} (P : Type 0) {Q R : A → Type 0} (o : Option A) → ((a : A) → Q a → R a) → MatchOption o P Q → IfSome o R
some_of P None g h = tt
some_of P (Some a) g h = g a h

-- ---- where denominator is at least 0
module _ (c h : ℤ) where
  above : pos 0 ≤ℤ c → IsInner c h → pos 0 <ℤ c
  above least p = by_lt_z (pos 0) c (λ k. k) (λ most. absurd (none h c least most p.after))
    where
      none : (h c : ℤ) → pos 0 ≤ℤ c → c ≤ℤ pos 0 → pos 0 <ℤ (h *ℤ c) → ⊥
      none h c p q k = let zero : c ≡ pos 0 = omega (arith, ints) in positive_not_zero (h *ℤ c) k (ap (λ (x : ℤ). h *ℤ x) zero ∙ times_zero h)

  around : (a : ℤ) → a *ℤ c ≡ c *ℤ a
  around a = ring (a ∷ c ∷ []) (var 0 ⊗ var 1) (var 1 ⊗ var 0) refl

  rest : (c *ℤ c) -ℤ (h *ℤ c) ≡ c *ℤ (c -ℤ h)
  rest = ring (h ∷ c ∷ []) ((var 1 ⊗ var 1) ⊖ (var 0 ⊗ var 1)) (var 1 ⊗ (var 1 ⊖ var 0)) refl

  pub forward_of_inner : pos 0 ≤ℤ c → IsInner c h → IsInnerForward c h
  forward_of_inner least p =
      let positive = above least p in
      record {
        after = pos_of_mul c h positive (subst (λ (x : ℤ). pos 0 <ℤ x) (around h) p.after);
        before = less_of_gap h c (pos_of_mul c (c -ℤ h) positive (subst (λ (x : ℤ). pos 0 <ℤ x) rest (gap_of_less (h *ℤ c) (c *ℤ c) p.before)));
      }

  pub inner_of_forward : IsInnerForward c h → IsInner c h
  inner_of_forward w =
      let positive : pos 0 <ℤ c = omega (arith, ints) in
      record {
        after = mul_pos h c w.after positive;
        before = less_by (h *ℤ c) (c *ℤ c) (c *ℤ (c -ℤ h)) rest (mul_pos c (c -ℤ h) positive (gap_of_less h c w.before));
      }

  -- ---- where it is not, both are turned
  both : (a b : ℤ) → (pos 0 -ℤ a) *ℤ (pos 0 -ℤ b) ≡ a *ℤ b
  both a b = ring (a ∷ b ∷ []) ((con (pos 0) ⊖ var 0) ⊗ (con (pos 0) ⊖ var 1)) (var 0 ⊗ var 1) refl

  pub inner_turned : IsInner c h → IsInner (pos 0 -ℤ c) (pos 0 -ℤ h)
  inner_turned p = record {
    after = subst (λ (x : ℤ). pos 0 <ℤ x) (sym (both h c)) p.after;
    before = subst (λ (x : ℤ). x <ℤ ((pos 0 -ℤ c) *ℤ (pos 0 -ℤ c))) (sym (both h c)) (subst (λ (x : ℤ). (h *ℤ c) <ℤ x) (sym (both c c)) p.before);
  }

  pub inner_back : IsInner (pos 0 -ℤ c) (pos 0 -ℤ h) → IsInner c h
  inner_back p = record {
    after = subst (λ (x : ℤ). pos 0 <ℤ x) (both h c) p.after;
    before = subst (λ (x : ℤ). x <ℤ (c *ℤ c)) (both h c) (subst (λ (x : ℤ). ((pos 0 -ℤ h) *ℤ (pos 0 -ℤ c)) <ℤ x) (both c c) p.before);
  }

-- ---- the place
-- a denominator and numerator that are climb and reach, or both turned
pub place_by : (c h k g : ℤ) (r : Frac) → g *ℤ c ≡ h *ℤ k → r.num ≡ g → r.den ≡ k → pos 0 <ℤ g → g <ℤ k → unsigned_abs k < 2 ^ 49 → IsCrossedBy c h r
place_by c h k g r same num den after before small = record {
  at = (λ i. num i *ℤ c) ∙ same ∙ sym (λ i. h *ℤ den i);
  place = record {
    least = omega (arith, ints);
    most = omega (arith, ints);
    small = omega (arith, ints);
  };
}

pub turned_same : (c h : ℤ) → (pos 0 -ℤ h) *ℤ c ≡ h *ℤ (pos 0 -ℤ c)
turned_same c h = ring (c ∷ h ∷ []) ((con (pos 0) ⊖ var 1) ⊗ var 0) (var 1 ⊗ (con (pos 0) ⊖ var 0)) refl

-- ---- the height
pub nearer_of_signs : (c r : ℤ) → ((pos 0 <ℤ c) × (pos 0 <ℤ r)) ⊎ ((c <ℤ pos 0) × (r <ℤ pos 0)) → pos 0 <ℤ (r *ℤ c)
nearer_of_signs c r (inl h) = mul_pos r c h.1 h.0
nearer_of_signs c r (inr h) = mul_two_neg r c h.1 h.0

pub signs_of_nearer : (c r : ℤ) → pos 0 <ℤ (r *ℤ c) → ((pos 0 <ℤ c) × (pos 0 <ℤ r)) ⊎ ((c <ℤ pos 0) × (r <ℤ pos 0))
signs_of_nearer c r h =
    by_lt_z (pos 0) c (λ above. inl (above, pos_of_mul c r above (subst (λ (x : ℤ). pos 0 <ℤ x) (swapped r c) h)))
    (λ most. by_lt_z c (pos 0) (λ below. inr (below, negative_of_negation r (pos_of_mul (pos 0 -ℤ c) (pos 0 -ℤ r) (negation_positive c below) (subst (λ (x : ℤ). pos 0 <ℤ x) (turned r c) h))))
    (λ least. absurd (positive_not_zero (r *ℤ c) h (ap (λ (x : ℤ). r *ℤ x) (zero_between c least most) ∙ times_zero r))))
  where
    swapped : (r c : ℤ) → r *ℤ c ≡ c *ℤ r
    swapped r c = ring (r ∷ c ∷ []) (var 0 ⊗ var 1) (var 1 ⊗ var 0) refl

    turned : (r c : ℤ) → r *ℤ c ≡ (pos 0 -ℤ c) *ℤ (pos 0 -ℤ r)
    turned r c = ring (r ∷ c ∷ []) (var 0 ⊗ var 1) ((con (pos 0) ⊖ var 1) ⊗ (con (pos 0) ⊖ var 0)) refl
