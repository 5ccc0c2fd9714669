-- On which sides of an edge's line are the corners of a triangle, those of the part that a plane cuts off, and those of the rest.
use Rattle.std.proofs.Common.{◌≡◌, ◌⊎◌, inl, inr, [], ◌∷◌, refl, sym, ap, ◌∙◌, arith}
use Rattle.std.specs.Prelude.{ℤ, pos, ◌+ℤ◌, ◌-ℤ◌, ◌*ℤ◌, ◌≤ℤ◌, ◌<ℤ◌}
use Rattle.std.proofs.lemmas.Int.{ints, by_lt_z}
use Rattle.integers.proofs.Ring.{var, con, ◌⊕◌, ◌⊖◌, ◌⊗◌, ring}
use Rattle.integers.proofs.Signs.{mul_pos, mul_neg, mul_nonneg, mul_nonpos, pos_of_mul, zero_of_mul, mul_nonpos_first}
use Rattle.hiding_laws.proofs.Signs.{mul_neg_left, weak, weak_neg, clash_neg}

-- x, y and z are the corners' values; two sides are cut at f and g; i, j and k are the weights of a place on the edge's line
module _ (x y z ξ η ζ i j k : ℤ) (ξ_pos : pos 0 <ℤ ξ) (η_pos : pos 0 <ℤ η) (ζ_pos : pos 0 <ℤ ζ) where
  abbrev pub f_of : ℤ
  f_of = (η *ℤ x) +ℤ (ξ *ℤ y)

  abbrev pub g_of : ℤ
  g_of = (ζ *ℤ x) +ℤ (ξ *ℤ z)

  abbrev pub AnyWhole : Type 0
  AnyWhole = (pos 0 <ℤ x) ⊎ (pos 0 <ℤ y) ⊎ (pos 0 <ℤ z)

  abbrev pub AnyCorner : Type 0
  AnyCorner = (pos 0 <ℤ x) ⊎ (pos 0 <ℤ f_of) ⊎ (pos 0 <ℤ g_of)

  abbrev pub AnyRest : Type 0
  AnyRest = (pos 0 <ℤ y) ⊎ (pos 0 <ℤ z) ⊎ (pos 0 <ℤ f_of) ⊎ (pos 0 <ℤ g_of)

  one_of : (a b c d : ℤ) → pos 0 <ℤ a → pos 0 <ℤ b → pos 0 <ℤ ((a *ℤ c) +ℤ (b *ℤ d)) → (pos 0 <ℤ c) ⊎ (pos 0 <ℤ d)
  one_of a b c d a_pos b_pos h =
      by_lt_z (pos 0) c inl (λ c_most. by_lt_z (pos 0) d inr (λ d_most. absurd (over _ _ (mul_nonpos a c a_pos c_most) (mul_nonpos b d b_pos d_most) h)))
    where
      over : (u v : ℤ) → u ≤ℤ pos 0 → v ≤ℤ pos 0 → pos 0 <ℤ (u +ℤ v) → ⊥
      over u v h k l = omega (arith, ints)

  pub corner_whole : AnyCorner → AnyWhole
  corner_whole (inl h) = inl h
  corner_whole (inr (inl h)) = elim (one_of η ξ x y η_pos ξ_pos h) [ inl a ↦ inl a | inr a ↦ inr (inl a) ]
  corner_whole (inr (inr h)) = elim (one_of ζ ξ x z ζ_pos ξ_pos h) [ inl a ↦ inl a | inr a ↦ inr (inr a) ]

  pub rest_whole : AnyRest → AnyWhole
  rest_whole (inl h) = inr (inl h)
  rest_whole (inr (inl h)) = inr (inr h)
  rest_whole (inr (inr (inl h))) = corner_whole (inr (inl h))
  rest_whole (inr (inr (inr h))) = corner_whole (inr (inr h))

  module _ (j_least : pos 0 ≤ℤ j) (k_least : pos 0 ≤ℤ k) (even : ((i *ℤ x) +ℤ (j *ℤ y)) +ℤ (k *ℤ z) ≡ pos 0) where
    abbrev level : ℤ
    level = ((ξ *ℤ i) -ℤ (η *ℤ j)) -ℤ (ζ *ℤ k)

    pub balanced : ((level *ℤ x) +ℤ (j *ℤ f_of)) +ℤ (k *ℤ g_of) ≡ pos 0
    balanced = ring (x ∷ y ∷ z ∷ ξ ∷ η ∷ ζ ∷ i ∷ j ∷ k ∷ [])
        ((((((var 3 ⊗ var 6) ⊖ (var 4 ⊗ var 7)) ⊖ (var 5 ⊗ var 8)) ⊗ var 0) ⊕ (var 7 ⊗ ((var 4 ⊗ var 0) ⊕ (var 3 ⊗ var 1)))) ⊕ (var 8 ⊗ ((var 5 ⊗ var 0) ⊕ (var 3 ⊗ var 2))))
        (var 3 ⊗ (((var 6 ⊗ var 0) ⊕ (var 7 ⊗ var 1)) ⊕ (var 8 ⊗ var 2))) refl
        ∙ ap (λ v. ξ *ℤ v) even
        ∙ ring (ξ ∷ []) (var 0 ⊗ con (pos 0)) (con (pos 0)) refl

    back : (a b : ℤ) → pos 0 ≤ℤ a → b ≤ℤ pos 0 → (a *ℤ b) ≤ℤ pos 0
    back a b h l = at _ _ (ring (a ∷ b ∷ []) (var 0 ⊗ var 1) (var 1 ⊗ var 0) refl) (mul_nonpos_first b a l h)
      where
        at : (x y : ℤ) → x ≡ y → y ≤ℤ pos 0 → x ≤ℤ pos 0
        at x y e h = omega (arith, ints)

    below : (u v w : ℤ) → (u +ℤ v) +ℤ w ≡ pos 0 → u <ℤ pos 0 → v ≤ℤ pos 0 → w ≤ℤ pos 0 → ⊥
    below u v w e h k l = omega (arith, ints)

    -- on the rest's side of the cut
    module _ (under : level <ℤ pos 0) where
      other : pos 0 <ℤ x → AnyRest
      other h =
          by_lt_z (pos 0) f_of (λ l. inr (inr (inl l))) (λ f_most. by_lt_z (pos 0) g_of (λ l. inr (inr (inr l)))
          (λ g_most. absurd (below _ _ _ balanced (mul_neg_left level x under h) (back j f_of j_least f_most) (back k g_of k_least g_most))))

      pub whole_rest : AnyWhole → AnyRest
      whole_rest (inl h) = other h
      whole_rest (inr (inl h)) = inl h
      whole_rest (inr (inr h)) = inr (inl h)

    -- on the corner's side
    module _ (over : pos 0 <ℤ level) where
      -- an end of the cut stands for the corner behind it
      second : (a b : ℤ) → pos 0 <ℤ a → pos 0 ≤ℤ x → pos 0 <ℤ b → pos 0 <ℤ ((a *ℤ x) +ℤ (ξ *ℤ b))
      second a b a_pos x_least h = sum_up _ _ (nonneg a x a_pos x_least) (mul_pos ξ b ξ_pos h)
        where
          nonneg : (a x : ℤ) → pos 0 <ℤ a → pos 0 ≤ℤ x → pos 0 ≤ℤ (a *ℤ x)
          nonneg a x h k = mul_nonneg a x (weak a h) k

          sum_up : (u v : ℤ) → pos 0 ≤ℤ u → pos 0 <ℤ v → pos 0 <ℤ (u +ℤ v)
          sum_up u v h k = omega (arith, ints)

      behind : ((pos 0 ≤ℤ x) → AnyCorner) → AnyCorner
      behind by =
          by_lt_z (pos 0) f_of (λ l. inr (inl l)) (λ f_most. by_lt_z (pos 0) g_of (λ l. inr (inr l))
          (λ g_most. by_lt_z x (pos 0) (λ l. absurd (below _ _ _ balanced (mul_neg level x over l) (back j f_of j_least f_most) (back k g_of k_least g_most))) by))

      pub whole_corner : AnyWhole → AnyCorner
      whole_corner (inl h) = inl h
      whole_corner (inr (inl h)) = behind (λ l. inr (inl (second η y η_pos l h)))
      whole_corner (inr (inr h)) = behind (λ l. inr (inr (second ζ z ζ_pos l h)))

    -- on the cut itself, with its ends on the edge's line or on both sides of it
    module _ (on : level ≡ pos 0) where
      pub even_ends : (j *ℤ f_of) +ℤ (k *ℤ g_of) ≡ pos 0
      even_ends = last _ _ _ (ap (λ v. v *ℤ x) on ∙ ring (x ∷ []) (con (pos 0) ⊗ var 0) (con (pos 0)) refl) balanced
        where
          last : (u v w : ℤ) → u ≡ pos 0 → (u +ℤ v) +ℤ w ≡ pos 0 → v +ℤ w ≡ pos 0
          last u v w e h = omega (arith, ints)

-- two values that are even with weights of which one is some
module _ (j k f g : ℤ) (j_least : pos 0 ≤ℤ j) (k_least : pos 0 ≤ℤ k) (some : pos 0 <ℤ (j +ℤ k)) (even : (j *ℤ f) +ℤ (k *ℤ g) ≡ pos 0) where
  above : (u v : ℤ) → u +ℤ v ≡ pos 0 → pos 0 <ℤ u → pos 0 ≤ℤ v → ⊥
  above u v e h l = omega (arith, ints)

  above_last : (u v : ℤ) → u +ℤ v ≡ pos 0 → pos 0 ≤ℤ u → pos 0 <ℤ v → ⊥
  above_last u v e h l = omega (arith, ints)

  under_both : (u v : ℤ) → u +ℤ v ≡ pos 0 → u <ℤ pos 0 → v ≤ℤ pos 0 → ⊥
  under_both u v e h l = omega (arith, ints)

  under_last : (u v : ℤ) → u +ℤ v ≡ pos 0 → u ≤ℤ pos 0 → v <ℤ pos 0 → ⊥
  under_last u v e h l = omega (arith, ints)

  other_some : j ≤ℤ pos 0 → pos 0 <ℤ k
  other_some h = omega (arith, ints, some)

  down_weak : (a b : ℤ) → pos 0 ≤ℤ a → b <ℤ pos 0 → (a *ℤ b) ≤ℤ pos 0
  down_weak a b h l = at _ _ (ring (a ∷ b ∷ []) (var 0 ⊗ var 1) (var 1 ⊗ var 0) refl) (mul_nonpos_first b a (weak_neg b l) h)
    where
      at : (x y : ℤ) → x ≡ y → y ≤ℤ pos 0 → x ≤ℤ pos 0
      at x y e h = omega (arith, ints)

  not_both_up : pos 0 <ℤ f → pos 0 <ℤ g → ⊥
  not_both_up h l =
      by_lt_z (pos 0) j (λ up. above _ _ even (mul_pos j f up h) (mul_nonneg k g k_least (weak g l)))
      (λ none. above_last _ _ even (mul_nonneg j f j_least (weak f h)) (mul_pos k g (other_some none) l))

  not_both_down : f <ℤ pos 0 → g <ℤ pos 0 → ⊥
  not_both_down h l =
      by_lt_z (pos 0) j (λ up. under_both _ _ even (mul_neg j f up h) (down_weak k g k_least l))
      (λ none. under_last _ _ even (down_weak j f j_least h) (mul_neg k g (other_some none) l))

  pub opposite : ((f ≤ℤ pos 0) × (pos 0 ≤ℤ g)) ⊎ ((g ≤ℤ pos 0) × (pos 0 ≤ℤ f))
  opposite =
      by_lt_z f (pos 0) (λ h. by_lt_z g (pos 0) (λ l. absurd (not_both_down h l)) (λ l. inl (weak_neg f h, l)))
      (λ h. by_lt_z (pos 0) g (λ l. by_lt_z (pos 0) f (λ u. absurd (not_both_up u l)) (λ u. inl (u, weak g l))) (λ l. inr (l, h)))

  -- ends that are seen at one distance from the line are on it
  pub both_none : (p q : ℤ) → pos 0 <ℤ p → pos 0 <ℤ q → p *ℤ f ≡ q *ℤ g → (f ≡ pos 0) × (g ≡ pos 0)
  both_none p q p_pos q_pos e = (first, zero_of_mul q g q_pos (sym e ∙ ap (λ v. p *ℤ v) first ∙ ring (p ∷ []) (var 0 ⊗ con (pos 0)) (con (pos 0)) refl))
    where
      neg_of : (k a : ℤ) → pos 0 <ℤ k → (k *ℤ a) <ℤ pos 0 → a <ℤ pos 0
      neg_of k a h l = by_lt_z a (pos 0) (λ m. m) (λ m. absurd (clash_neg _ (mul_nonneg k a (weak k h) m) l))

      at_pos : (u v : ℤ) → u ≡ v → pos 0 <ℤ u → pos 0 <ℤ v
      at_pos u v e h = omega (arith, ints)

      at_neg : (u v : ℤ) → u ≡ v → u <ℤ pos 0 → v <ℤ pos 0
      at_neg u v e h = omega (arith, ints)

      nothing : (z : ℤ) → z ≤ℤ pos 0 → pos 0 ≤ℤ z → z ≡ pos 0
      nothing z h l = omega (arith, ints)

      first : f ≡ pos 0
      first =
          by_lt_z f (pos 0) (λ h. absurd (not_both_down h (neg_of q g q_pos (at_neg _ _ e (mul_neg p f p_pos h)))))
          (λ h. by_lt_z (pos 0) f (λ l. absurd (not_both_up l (pos_of_mul q g q_pos (at_pos _ _ e (mul_pos p f p_pos l))))) (λ l. nothing f l h))
