-- Whether a turn between perturbed ways passes a way is told by signs, and is the same for all perturbations that are fine enough.
use Rattle.std.proofs.Common.{◌≡◌, ◌⊎◌, inl, inr, ℕ, suc, ◌+◌, ◌<◌, [], ◌∷◌, refl, sym, ap, ◌∙◌, arith, unsigned_abs}
use Rattle.std.specs.Prelude.{ℤ, pos, negsuc, ◌+ℤ◌, ◌-ℤ◌, ◌*ℤ◌, ◌≤ℤ◌, ◌<ℤ◌, ◌↔◌}
use Rattle.std.proofs.lemmas.Int.{ints}
use Rattle.integers.proofs.Comparisons.{positive_at}
use Rattle.integers.proofs.Ring.{var, con, ◌⊕◌, ◌⊖◌, ◌⊗◌, ring}
use Rattle.integers.proofs.Signs.{mul_pos, mul_nonneg, pos_of_mul}
use Rattle.geometry.specs.Counts.{Side, to_left, to_right}
use Rattle.geometry.specs.Turns.{Way, turn_from, product_of, Passes, perturbed, TurnPasses}
use Rattle.hiding_laws.specs.inner.Perturbations.{perturbation_between, perturbation_of, IsLeft, TwoAreLeft}
use Rattle.hiding_laws.proofs.CornerLaws.{IsBelow, IsFineTurn, TurnSignsLaw}
use Rattle.hiding_laws.proofs.Signs.{clash_both}
use Rattle.hiding_laws.proofs.NearPlace.{sign_three}
use Rattle.hiding_laws.proofs.PerturbedTurns.{perturbed_law}

-- ---- one perturbed way
first_turn : (k : Side) (h : ℤ) (x w : Way) → turn_from (perturbed k h x) w ≡ (h *ℤ turn_from x w) +ℤ ((pos 0 -ℤ perturbation_of k) *ℤ product_of x w)
first_turn to_left h x w =
    ring (h ∷ x.u ∷ x.v ∷ w.u ∷ w.v ∷ []) ((((var 0 ⊗ var 1) ⊖ var 2) ⊗ var 4) ⊖ (((var 0 ⊗ var 2) ⊕ var 1) ⊗ var 3))
    ((var 0 ⊗ ((var 1 ⊗ var 4) ⊖ (var 2 ⊗ var 3))) ⊕ (con (negsuc 0) ⊗ ((var 1 ⊗ var 3) ⊕ (var 2 ⊗ var 4)))) refl
first_turn to_right h x w =
    ring (h ∷ x.u ∷ x.v ∷ w.u ∷ w.v ∷ []) ((((var 0 ⊗ var 1) ⊕ var 2) ⊗ var 4) ⊖ (((var 0 ⊗ var 2) ⊖ var 1) ⊗ var 3))
    ((var 0 ⊗ ((var 1 ⊗ var 4) ⊖ (var 2 ⊗ var 3))) ⊕ (con (pos 1) ⊗ ((var 1 ⊗ var 3) ⊕ (var 2 ⊗ var 4)))) refl

second_turn : (l : Side) (h : ℤ) (w y : Way) → turn_from w (perturbed l h y) ≡ (h *ℤ turn_from w y) +ℤ (perturbation_of l *ℤ product_of w y)
second_turn to_left h w y =
    ring (h ∷ w.u ∷ w.v ∷ y.u ∷ y.v ∷ []) ((var 1 ⊗ ((var 0 ⊗ var 4) ⊕ var 3)) ⊖ (var 2 ⊗ ((var 0 ⊗ var 3) ⊖ var 4)))
    ((var 0 ⊗ ((var 1 ⊗ var 4) ⊖ (var 2 ⊗ var 3))) ⊕ (con (pos 1) ⊗ ((var 1 ⊗ var 3) ⊕ (var 2 ⊗ var 4)))) refl
second_turn to_right h w y =
    ring (h ∷ w.u ∷ w.v ∷ y.u ∷ y.v ∷ []) ((var 1 ⊗ ((var 0 ⊗ var 4) ⊖ var 3)) ⊖ (var 2 ⊗ ((var 0 ⊗ var 3) ⊕ var 4)))
    ((var 0 ⊗ ((var 1 ⊗ var 4) ⊖ (var 2 ⊗ var 3))) ⊕ (con (negsuc 0) ⊗ ((var 1 ⊗ var 3) ⊕ (var 2 ⊗ var 4)))) refl

-- ---- the sign of a sum of which one part is large
module _ (h t e : ℤ) (large : pos 0 <ℤ h) (small : IsBelow h e) where
  -- h times a number above 0 is at least h
  past : (h t : ℤ) → pos 0 <ℤ h → pos 0 <ℤ t → h ≤ℤ (h *ℤ t)
  past h t l p = turned h (h *ℤ t) (h *ℤ (t -ℤ pos 1)) (mul_nonneg h (t -ℤ pos 1) (least h l) (one t p)) (ring (h ∷ t ∷ []) (var 0 ⊗ (var 1 ⊖ con (pos 1))) ((var 0 ⊗ var 1) ⊖ var 0) refl)
    where
      one : (t : ℤ) → pos 0 <ℤ t → pos 0 ≤ℤ (t -ℤ pos 1)
      one t p = omega (arith, ints)

      least : (h : ℤ) → pos 0 <ℤ h → pos 0 ≤ℤ h
      least h l = omega (arith, ints)

      turned : (h x y : ℤ) → pos 0 ≤ℤ y → y ≡ x -ℤ h → h ≤ℤ x
      turned h x y l e = omega (arith, ints)

  back : (h t : ℤ) → h *ℤ (pos 0 -ℤ t) ≡ pos 0 -ℤ (h *ℤ t)
  back h t = ring (h ∷ t ∷ []) (var 0 ⊗ (con (pos 0) ⊖ var 1)) (con (pos 0) ⊖ (var 0 ⊗ var 1)) refl

  none : (h t e : ℤ) → t ≡ pos 0 → (h *ℤ t) +ℤ e ≡ e
  none h t e z = ap (λ v. (h *ℤ v) +ℤ e) z ∙ ring (h ∷ e ∷ []) ((var 0 ⊗ con (pos 0)) ⊕ var 1) (var 1) refl

  up_of : pos 0 <ℤ t → pos 0 <ℤ ((h *ℤ t) +ℤ e)
  up_of p = rise (h *ℤ t) e h (past h t large p) small.least
    where
      rise : (x e h : ℤ) → h ≤ℤ x → (pos 0 -ℤ h) <ℤ e → pos 0 <ℤ (x +ℤ e)
      rise x e h l s = omega (arith, ints)

  not_down : t <ℤ pos 0 → ¬ (pos 0 <ℤ ((h *ℤ t) +ℤ e))
  not_down n p = drop (h *ℤ t) (h *ℤ (pos 0 -ℤ t)) e h (back h t) (past h (pos 0 -ℤ t) large (flip t n)) small.most p
    where
      flip : (t : ℤ) → t <ℤ pos 0 → pos 0 <ℤ (pos 0 -ℤ t)
      flip t n = omega (arith, ints)

      drop : (x y e h : ℤ) → y ≡ pos 0 -ℤ x → h ≤ℤ y → e <ℤ h → pos 0 <ℤ (x +ℤ e) → ⊥
      drop x y e h q l s p = omega (arith, ints)

  large_part : (pos 0 <ℤ ((h *ℤ t) +ℤ e)) ↔ ((pos 0 <ℤ t) ⊎ ((t ≡ pos 0) × (pos 0 <ℤ e)))
  large_part = (to, of)
    where
      to : pos 0 <ℤ ((h *ℤ t) +ℤ e) → (pos 0 <ℤ t) ⊎ ((t ≡ pos 0) × (pos 0 <ℤ e))
      to p = elim (sign_three t) [
        | inl u ↦ inl u
        | inr more ↦ elim more [ inl n ↦ absurd (not_down n p) | inr z ↦ inr (z, positive_at _ _ (sym (none h t e z)) p) ]
      ]

      of : (pos 0 <ℤ t) ⊎ ((t ≡ pos 0) × (pos 0 <ℤ e)) → pos 0 <ℤ ((h *ℤ t) +ℤ e)
      of (inl u) = up_of u
      of (inr z) = positive_at _ _ (none h t e z.0) z.1

-- a perturbation's product is of the size of the product
perturbation_small : (s h p : ℤ) → (s ≡ pos 1) ⊎ (s ≡ negsuc 0) → IsBelow h p → IsBelow h (s *ℤ p)
perturbation_small s h p (inl e) b = let x = b.least in let y = b.most in
    record { least = by (s *ℤ p) p h (ap (λ v. v *ℤ p) e ∙ one p) x; most = by' (s *ℤ p) p h (ap (λ v. v *ℤ p) e ∙ one p) y }
  where
    one : (p : ℤ) → pos 1 *ℤ p ≡ p
    one p = omega (arith, ints)

    by : (q p h : ℤ) → q ≡ p → (pos 0 -ℤ h) <ℤ p → (pos 0 -ℤ h) <ℤ q
    by q p h e l = omega (arith, ints)

    by' : (q p h : ℤ) → q ≡ p → p <ℤ h → q <ℤ h
    by' q p h e l = omega (arith, ints)
perturbation_small s h p (inr e) b = let x = b.least in let y = b.most in
    record { least = by (s *ℤ p) p h (ap (λ v. v *ℤ p) e ∙ minus p) y; most = by' (s *ℤ p) p h (ap (λ v. v *ℤ p) e ∙ minus p) x }
  where
    minus : (p : ℤ) → negsuc 0 *ℤ p ≡ pos 0 -ℤ p
    minus p = omega (arith, ints)

    by : (q p h : ℤ) → q ≡ pos 0 -ℤ p → p <ℤ h → (pos 0 -ℤ h) <ℤ q
    by q p h e l = omega (arith, ints)

    by' : (q p h : ℤ) → q ≡ pos 0 -ℤ p → (pos 0 -ℤ h) <ℤ p → q <ℤ h
    by' q p h e l = omega (arith, ints)

perturbation_is : (k : Side) → (perturbation_of k ≡ pos 1) ⊎ (perturbation_of k ≡ negsuc 0)
perturbation_is to_left = inl refl
perturbation_is to_right = inr refl

less_perturbation_is : (k : Side) → (pos 0 -ℤ perturbation_of k ≡ pos 1) ⊎ (pos 0 -ℤ perturbation_of k ≡ negsuc 0)
less_perturbation_is to_left = inr refl
less_perturbation_is to_right = inl refl

-- ---- the three turns
module _ (k l : Side) (x w y : Way) (h : ℤ) (fine : IsFineTurn h x w y) where
  above : (h : ℤ) → pos 1 <ℤ h → pos 0 <ℤ h
  above h l = omega (arith, ints)

  first_is : (pos 0 <ℤ turn_from (perturbed k h x) w) ↔ IsLeft (pos 0 -ℤ perturbation_of k) x w
  first_is =
      let law = large_part h (turn_from x w) ((pos 0 -ℤ perturbation_of k) *ℤ product_of x w) (above h fine.large) (perturbation_small (pos 0 -ℤ perturbation_of k) h (product_of x w) (less_perturbation_is k) fine.first) in
      (λ p. law.0 (positive_at _ _ (sym (first_turn k h x w)) p), λ q. positive_at _ _ (first_turn k h x w) (law.1 q))

  second_is : (pos 0 <ℤ turn_from w (perturbed l h y)) ↔ IsLeft (perturbation_of l) w y
  second_is =
      let law = large_part h (turn_from w y) (perturbation_of l *ℤ product_of w y) (above h fine.large) (perturbation_small (perturbation_of l) h (product_of w y) (perturbation_is l) fine.second) in
      (λ p. law.0 (positive_at _ _ (sym (second_turn l h w y)) p), λ q. positive_at _ _ (second_turn l h w y) (law.1 q))

  third_is : (pos 0 <ℤ turn_from (perturbed l h y) (perturbed k h x)) ↔ IsLeft (perturbation_between l k) y x
  third_is = (to, of)
    where
      to : pos 0 <ℤ turn_from (perturbed l h y) (perturbed k h x) → IsLeft (perturbation_between l k) y x
      to p =
          let law = perturbed_law l k h y x fine.large fine.third in
          elim (sign_three (turn_from y x)) [
            | inl u ↦ inl u
            | inr more ↦ elim more [
              | inl n ↦ absurd (clash_both _ p (law.1 n))
              | inr z ↦ inr (z, pos_of_mul h (perturbation_between l k *ℤ product_of y x) (above h fine.large) (positive_at _ _ (sym (law.2 z)) p))
            ]
          ]

      of : IsLeft (perturbation_between l k) y x → pos 0 <ℤ turn_from (perturbed l h y) (perturbed k h x)
      of (inl u) = (perturbed_law l k h y x fine.large fine.third).0 u
      of (inr z) = positive_at _ _ ((perturbed_law l k h y x fine.large fine.third).2 z.0) (mul_pos h (perturbation_between l k *ℤ product_of y x) (above h fine.large) z.1)

  -- a turn by a fine perturbation passes the way where two of the three turns are to the left
  pub fine_turn : Passes (perturbed k h x) w (perturbed l h y) ↔ TwoAreLeft k x l y w
  fine_turn = (to, of)
    where
      to : Passes (perturbed k h x) w (perturbed l h y) → TwoAreLeft k x l y w
      to (inl p) = inl (first_is.0 p.0, second_is.0 p.1)
      to (inr (inl p)) = inr (inl (second_is.0 p.0, third_is.0 p.1))
      to (inr (inr p)) = inr (inr (third_is.0 p.0, first_is.0 p.1))

      of : TwoAreLeft k x l y w → Passes (perturbed k h x) w (perturbed l h y)
      of (inl p) = inl (first_is.1 p.0, second_is.1 p.1)
      of (inr (inl p)) = inr (inl (second_is.1 p.0, third_is.1 p.1))
      of (inr (inr p)) = inr (inr (third_is.1 p.0, first_is.1 p.1))

-- ---- perturbations that are fine enough
module _ (x w y : Way) where
  -- every perturbation above is fine for the turn
  pub fine_size : ℕ
  fine_size = suc (unsigned_abs (product_of x w) + unsigned_abs (product_of w y) + unsigned_abs (product_of y x +ℤ product_of y x))

  pub fine_above : (h : ℤ) → pos fine_size <ℤ h → IsFineTurn h x w y
  unfolding fine_size
  fine_above h l = record {
    large = one (unsigned_abs (product_of x w) + unsigned_abs (product_of w y) + unsigned_abs (product_of y x +ℤ product_of y x)) h l;
    first = below (product_of x w) _ h (omega arith) l;
    second = below (product_of w y) _ h (omega arith) l;
    third = below (product_of y x +ℤ product_of y x) _ h (omega arith) l;
  }
    where
      one : (n : ℕ) (h : ℤ) → pos (suc n) <ℤ h → pos 1 <ℤ h
      one n h l = omega (arith, ints)

      below : (z : ℤ) (n : ℕ) (h : ℤ) → unsigned_abs z < n → pos n <ℤ h → IsBelow h z
      below (pos m) n h s l = record { least = omega (arith, ints); most = omega (arith, ints) }
      below (negsuc m) n h s l = record { least = omega (arith, ints); most = omega (arith, ints) }

module _ (k l : Side) (x y w : Way) where
  -- above a number, and above the size of what is fine
  past_both : (z : ℤ) (n : ℕ) → (z <ℤ pos (suc (unsigned_abs z + n))) × (pos n <ℤ pos (suc (unsigned_abs z + n)))
  past_both (pos m) n = (omega (arith, ints), omega (arith, ints))
  past_both (negsuc m) n = (omega (arith, ints), omega (arith, ints))

  pub of_two_left : TwoAreLeft k x l y w → TurnPasses k x l y w
  of_two_left two = (pos (fine_size x w y), λ h g. (fine_turn k l x w y h (fine_above x w y h g)).1 two)

  pub two_left : TurnPasses k x l y w → TwoAreLeft k x l y w
  two_left (least, passes) =
      let n = fine_size x w y in
      let h = pos (suc (unsigned_abs least + n)) in
      let r = past_both least n in
      (fine_turn k l x w y h (fine_above x w y h r.1)).0 (passes h r.0)

  -- a fine perturbation tells
  pub turn_at_perturbation : (h : ℤ) → IsFineTurn h x w y → TurnPasses k x l y w ↔ Passes (perturbed k h x) w (perturbed l h y)
  turn_at_perturbation h fine = let t = fine_turn k l x w y h fine in (λ p. t.1 (two_left p), λ p. of_two_left (t.0 p))

pub turn_signs : TurnSignsLaw
turn_signs k l x y w = (two_left k l x y w, of_two_left k l x y w)
