-- Among the sides over a spot for which a test holds, one is highest; and what is over a spot of such a side is over that spot.
use Rattle.std.proofs.Common.{◌≡◌, ℕ, ◌<◌, Bool, true, false, cond, [], ◌∷◌, refl, sym, ap, subst, ◌∙◌}
use Rattle.std.specs.Prelude.{ℤ, pos, ◌+ℤ◌, ◌-ℤ◌, ◌*ℤ◌, ◌<ℤ◌}
use Rattle.integers.proofs.Comparisons.{positive_at, sum_exchanged, sum_positive_first, not_negative_of_positive}
use Rattle.integers.proofs.Ring.{var, con, ◌⊕◌, ◌⊖◌, ◌⊗◌, ring, by_one, by_two, less_by, gap_of_less, same_of_gap}
use Rattle.integers.proofs.Signs.{mul_pos, pos_of_mul, zero_of_mul}
use Rattle.hiding_laws.proofs.Screens.{Screen, length_of, SideCovers}
use Rattle.hiding_laws.proofs.ScreenSides.{length_least, length_zero, pos_of_least}
use Rattle.hiding_laws.proofs.Highest.{highest}
use Rattle.hiding_laws.proofs.Uprights.{weighed}
use Rattle.hiding_laws.proofs.OrdinarySides.{IsSeenAt}

-- ---- the highest
module _ (n : ℕ) (a b : ℕ → Screen) (test : ℕ → Bool) (h : ℕ) (l : h < n) (holds : test h ≡ true) where
  -- a side for which the test does not hold, or the one that is given
  abbrev pick : ℕ → ℕ
  pick f = cond (test f) f h

  picked_within : (f : ℕ) → f < n → pick f < n
  picked_within f k = by (test f)
    where
      by : (t : Bool) → cond t f h < n
      by true = k
      by false = l

  picked_holds : (f : ℕ) → test (pick f) ≡ true
  picked_holds f = by (test f) refl
    where
      by : (t : Bool) → test f ≡ t → test (cond t f h) ≡ true
      by true e = e
      by false e = holds

  picked_same : (f : ℕ) → test f ≡ true → pick f ≡ f
  picked_same f e = ap (λ t. cond t f h) e

  module _ (x : Screen) where
    abbrev Over : ℕ → Screen → Type 0
    Over f y = SideCovers (a f) (b f) y

    pub highest_that : pos 0 <ℤ x.w → ((f : ℕ) → f < n → Over f x → pos 0 <ℤ length_of (a f) (b f)) → Over h x
        → (g : ℕ) × (g < n) × (test g ≡ true) × (v : Over g x) × ((f : ℕ) → f < n → test f ≡ true → ¬ Over f (weighed (a g) (b g) v.i v.j))
    highest_that x_pos long v =
        let r = highest n (λ f. a (pick f)) (λ f. b (pick f)) x x_pos (λ f k s. long (pick f) (picked_within f k) s) h l (subst (λ f. Over f x) (sym (picked_same h holds)) v) in (
          pick r.0,
          picked_within r.0 r.1,
          picked_holds r.0,
          r.2,
          λ f k e s. r.3 f k (subst (λ g. Over g (weighed (a (pick r.0)) (b (pick r.0)) r.2.i r.2.j)) (sym (picked_same f e)) s),
        )

-- ---- what is over a spot of a side
-- where a side is over a spot of another that is over x, it is over x too
module _ (a b c d x : Screen) (v : SideCovers a b x) (s : SideCovers c d (weighed a b v.i v.j)) (x_pos : pos 0 <ℤ x.w) where
  same : (p q r t u : ℤ) → ((s.i *ℤ r) +ℤ (s.j *ℤ t)) *ℤ (v.i +ℤ v.j) ≡ ((v.i *ℤ p) +ℤ (v.j *ℤ q)) *ℤ (s.i +ℤ s.j) → ((v.i *ℤ p) +ℤ (v.j *ℤ q)) *ℤ x.w ≡ u *ℤ (v.i +ℤ v.j)
      → ((s.i *ℤ r) +ℤ (s.j *ℤ t)) *ℤ x.w ≡ u *ℤ (s.i +ℤ s.j)
  same p q r t u e f =
      same_of_gap _ _ (zero_of_mul (v.i +ℤ v.j) _ v.some
      (by_two ((v.i +ℤ v.j) *ℤ ((((s.i *ℤ r) +ℤ (s.j *ℤ t)) *ℤ x.w) -ℤ (u *ℤ (s.i +ℤ s.j)))) (pos 0) _ _ x.w _ _ (s.i +ℤ s.j)
      (ring (v.i ∷ v.j ∷ s.i ∷ s.j ∷ p ∷ q ∷ r ∷ t ∷ u ∷ x.w ∷ [])
      (((var 0 ⊕ var 1) ⊗ ((((var 2 ⊗ var 6) ⊕ (var 3 ⊗ var 7)) ⊗ var 9) ⊖ (var 8 ⊗ (var 2 ⊕ var 3)))) ⊖ con (pos 0))
      ((((((var 2 ⊗ var 6) ⊕ (var 3 ⊗ var 7)) ⊗ (var 0 ⊕ var 1)) ⊖ (((var 0 ⊗ var 4) ⊕ (var 1 ⊗ var 5)) ⊗ (var 2 ⊕ var 3))) ⊗ var 9)
      ⊕ (((((var 0 ⊗ var 4) ⊕ (var 1 ⊗ var 5)) ⊗ var 9) ⊖ (var 8 ⊗ (var 0 ⊕ var 1))) ⊗ (var 2 ⊕ var 3))) refl) e f))

  -- of three heights with weights, the third over the second and that over the first
  higher : (h o p q r t : ℤ) → pos 0 <ℤ o → pos 0 <ℤ q → pos 0 <ℤ t → (h *ℤ q) <ℤ (p *ℤ o) → (p *ℤ t) <ℤ (r *ℤ q) → (h *ℤ t) <ℤ (r *ℤ o)
  higher h o p q r t o_pos q_pos t_pos first second =
      less_by _ _ _ refl (pos_of_mul q _ q_pos (positive_at _ _
      (ring (h ∷ o ∷ p ∷ q ∷ r ∷ t ∷ []) (var 3 ⊗ ((var 4 ⊗ var 1) ⊖ (var 0 ⊗ var 5))) ((var 1 ⊗ ((var 4 ⊗ var 3) ⊖ (var 2 ⊗ var 5))) ⊕ (var 5 ⊗ ((var 2 ⊗ var 1) ⊖ (var 0 ⊗ var 3)))) refl)
      (sum_positive_first _ _ (mul_pos o _ o_pos (gap_of_less _ _ second)) (not_negative_of_positive _ (mul_pos t _ t_pos (gap_of_less _ _ first))))))

  pub over_too : SideCovers c d x
  over_too = record {
    i = s.i;
    j = s.j;
    i_least = s.i_least;
    j_least = s.j_least;
    some = s.some;
    same_u = same a.u b.u c.u d.u x.u s.same_u v.same_u;
    same_v = same a.v b.v c.v d.v x.v s.same_v v.same_v;
    nearer = higher x.h x.w ((v.i *ℤ a.h) +ℤ (v.j *ℤ b.h)) (v.i +ℤ v.j) ((s.i *ℤ c.h) +ℤ (s.j *ℤ d.h)) (s.i +ℤ s.j) x_pos v.some s.some v.nearer s.nearer;
  }

-- ---- no corner is seen there

-- where all the weight is on b, or a is where b is
at_last : (i j a b w u : ℤ) → pos 0 <ℤ (i +ℤ j) → ((i *ℤ a) +ℤ (j *ℤ b)) *ℤ w ≡ u *ℤ (i +ℤ j) → i *ℤ (b -ℤ a) ≡ pos 0 → b *ℤ w ≡ u
at_last i j a b w u some same none =
    same_of_gap (b *ℤ w) u (zero_of_mul (i +ℤ j) ((b *ℤ w) -ℤ u) some
    (by_two ((i +ℤ j) *ℤ ((b *ℤ w) -ℤ u)) (pos 0) _ _ (pos 1) (i *ℤ (b -ℤ a)) (pos 0) w
    (ring (i ∷ j ∷ a ∷ b ∷ w ∷ u ∷ [])
    (((var 0 ⊕ var 1) ⊗ ((var 3 ⊗ var 4) ⊖ var 5)) ⊖ con (pos 0))
    ((((((var 0 ⊗ var 2) ⊕ (var 1 ⊗ var 3)) ⊗ var 4) ⊖ (var 5 ⊗ (var 0 ⊕ var 1))) ⊗ con (pos 1)) ⊕ (((var 0 ⊗ (var 3 ⊖ var 2)) ⊖ con (pos 0)) ⊗ var 4)) refl) same none))

no_weight : (i x : ℤ) → i ≡ pos 0 → i *ℤ x ≡ pos 0
no_weight i x e = by_one _ _ i (pos 0) x (ring (i ∷ x ∷ []) ((var 0 ⊗ var 1) ⊖ con (pos 0)) ((var 0 ⊖ con (pos 0)) ⊗ var 1) refl) e

no_way : (i a b : ℤ) → a ≡ b → i *ℤ (b -ℤ a) ≡ pos 0
no_way i a b e = by_one _ _ a b (pos 0 -ℤ i) (ring (i ∷ a ∷ b ∷ []) ((var 0 ⊗ (var 2 ⊖ var 1)) ⊖ con (pos 0)) ((var 1 ⊖ var 2) ⊗ (con (pos 0) ⊖ var 0)) refl) e

exchanged : (i j a b w u : ℤ) → ((i *ℤ a) +ℤ (j *ℤ b)) *ℤ w ≡ u *ℤ (i +ℤ j) → ((j *ℤ b) +ℤ (i *ℤ a)) *ℤ w ≡ u *ℤ (j +ℤ i)
exchanged i j a b w u e = (λ t. sum_exchanged (j *ℤ b) (i *ℤ a) t *ℤ w) ∙ e ∙ (λ t. u *ℤ sum_exchanged i j t)

-- a side over a spot where neither of its corners is seen is not seen end-on, and has the spot between them
module _ (a b x : Screen) (off_a : ¬ IsSeenAt a x) (off_b : ¬ IsSeenAt b x) (v : SideCovers a b x) where
  first_weight : pos 0 <ℤ v.i
  first_weight = pos_of_least v.i v.i_least (λ e. off_b (at_last v.i v.j a.u b.u x.w x.u v.some v.same_u (no_weight v.i _ e), at_last v.i v.j a.v b.v x.w x.v v.some v.same_v (no_weight v.i _ e)))

  last_weight : pos 0 <ℤ v.j
  last_weight =
      let some : pos 0 <ℤ (v.j +ℤ v.i) = positive_at _ _ (sum_exchanged v.j v.i) v.some in
      pos_of_least v.j v.j_least (λ e. off_a (
        at_last v.j v.i b.u a.u x.w x.u some (exchanged v.i v.j a.u b.u x.w x.u v.same_u) (no_weight v.j _ e),
        at_last v.j v.i b.v a.v x.w x.v some (exchanged v.i v.j a.v b.v x.w x.v v.same_v) (no_weight v.j _ e),
      ))

  long : pos 0 <ℤ length_of a b
  long = pos_of_least (length_of a b) (length_least a b) (λ e.
      let same = length_zero a b e in
      off_b (at_last v.i v.j a.u b.u x.w x.u v.some v.same_u (no_way v.i a.u b.u same.0), at_last v.i v.j a.v b.v x.w x.v v.some v.same_v (no_way v.i a.v b.v same.1)))

  pub between_corners : (pos 0 <ℤ length_of a b) × (pos 0 <ℤ v.i) × (pos 0 <ℤ v.j)
  between_corners = (long, first_weight, last_weight)
