-- What holds next to an end of an edge: two such things at once, and when a linear value is at least 0 or above 0 there.
use Rattle.std.proofs.Common.{◌≡◌, inl, inr, [], ◌∷◌, refl, sym, subst, ap, ◌∙◌, arith}
use Rattle.std.specs.Prelude.{ℤ, pos, ◌+ℤ◌, ◌-ℤ◌, ◌*ℤ◌, ◌<ℤ◌, ◌≤ℤ◌, unsigned_abs}
use Rattle.std.proofs.lemmas.Int.{ints, by_lt_z}
use Rattle.integers.proofs.Comparisons.{not_negative_of_positive, gap_of_at_most, sum_not_negative, at_most_of_gap, less_of_gap, sum_positive_last, one_less_not_negative, negative_of_negation, zero_between, less_not_at_most, sum_positive_first}
use Rattle.integers.proofs.Ring.{Expr, var, con, ◌⊕◌, ◌⊖◌, ◌⊗◌, ring, gap_of_less}
use Rattle.integers.proofs.Signs.{mul_nonneg, mul_pos, pos_of_mul}
use Rattle.hiding_laws.specs.Values.{value_at}
use Rattle.cross_find.specs.Ends.{HoldsNext, IsNotBelow, IsAbove}

-- ---- two at once: below the product of the two shares
module _ (n m v w : ℤ) (n_some : pos 0 <ℤ n) (n_most : n ≤ℤ m) (v_some : pos 0 <ℤ v) (v_most : v ≤ℤ w) where
  m_some : pos 0 <ℤ m
  m_some = omega (arith, ints)

  w_some : pos 0 <ℤ w
  w_some = omega (arith, ints)

  pub product_within : (n *ℤ v) ≤ℤ (m *ℤ w)
  product_within =
      let same : (m *ℤ w) -ℤ (n *ℤ v) ≡ (m *ℤ (w -ℤ v)) +ℤ ((m -ℤ n) *ℤ v) =
      ring (n ∷ m ∷ v ∷ w ∷ []) ((var 1 ⊗ var 3) ⊖ (var 0 ⊗ var 2)) ((var 1 ⊗ (var 3 ⊖ var 2)) ⊕ ((var 1 ⊖ var 0) ⊗ var 2)) refl in
      at_most_of_gap (n *ℤ v) (m *ℤ w) (subst (λ (x : ℤ). pos 0 ≤ℤ x) (sym same)
      (sum_not_negative _ _ (mul_nonneg m (w -ℤ v) (not_negative_of_positive m m_some) (gap_of_at_most v w v_most)) (mul_nonneg (m -ℤ n) v (gap_of_at_most n m n_most) (not_negative_of_positive v v_some))))

  pub product_below : (k l : ℤ) → pos 0 <ℤ l → (k *ℤ (m *ℤ w)) <ℤ ((n *ℤ v) *ℤ l) → (k *ℤ m) <ℤ (n *ℤ l)
  product_below k l positive h =
      let same : w *ℤ ((n *ℤ l) -ℤ (k *ℤ m)) ≡ ((n *ℤ l) *ℤ (w -ℤ v)) +ℤ (((n *ℤ v) *ℤ l) -ℤ (k *ℤ (m *ℤ w))) =
      ring (n ∷ m ∷ v ∷ w ∷ k ∷ l ∷ []) (var 3 ⊗ ((var 0 ⊗ var 5) ⊖ (var 4 ⊗ var 1)))
      (((var 0 ⊗ var 5) ⊗ (var 3 ⊖ var 2)) ⊕ (((var 0 ⊗ var 2) ⊗ var 5) ⊖ (var 4 ⊗ (var 1 ⊗ var 3)))) refl in
      less_of_gap (k *ℤ m) (n *ℤ l) (pos_of_mul w _ w_some (subst (λ (x : ℤ). pos 0 <ℤ x) (sym same)
      (sum_positive_last _ _ (mul_nonneg (n *ℤ l) (w -ℤ v) (not_negative_of_positive _ (mul_pos n l n_some positive)) (gap_of_at_most v w v_most)) (gap_of_less _ _ h))))

swapped : (k m w n v l : ℤ) → (k *ℤ (m *ℤ w)) <ℤ ((n *ℤ v) *ℤ l) → (k *ℤ (w *ℤ m)) <ℤ ((v *ℤ n) *ℤ l)
swapped k m w n v l h =
    let left : k *ℤ (m *ℤ w) ≡ k *ℤ (w *ℤ m) = ring (k ∷ m ∷ w ∷ []) (var 0 ⊗ (var 1 ⊗ var 2)) (var 0 ⊗ (var 2 ⊗ var 1)) refl in
    let right : (n *ℤ v) *ℤ l ≡ (v *ℤ n) *ℤ l = ring (n ∷ v ∷ l ∷ []) ((var 0 ⊗ var 1) ⊗ var 2) ((var 1 ⊗ var 0) ⊗ var 2) refl in
    subst (λ (x : ℤ). x <ℤ ((v *ℤ n) *ℤ l)) left (subst (λ (x : ℤ). (k *ℤ (m *ℤ w)) <ℤ x) right h)

pub next_both : (P Q : ℤ → ℤ → Type 0) → HoldsNext P → HoldsNext Q → HoldsNext (λ k l. P k l × Q k l)
next_both P Q p q = record {
  n = p.n *ℤ q.n;
  m = p.m *ℤ q.m;
  some = mul_pos p.n q.n p.some q.some;
  within = product_within p.n p.m q.n q.m p.some p.within q.some q.within;
  over = λ k l hk hl h. (
    p.over k l hk hl (product_below p.n p.m q.n q.m p.some p.within q.some q.within k l hl h),
    q.over k l hk hl (product_below q.n q.m p.n p.m q.some q.within p.some p.within k l hl (swapped k p.m q.m p.n q.n l h)),
  );
}

pub next_map : (P Q : ℤ → ℤ → Type 0) → ((k l : ℤ) → pos 0 <ℤ k → pos 0 <ℤ l → P k l → Q k l) → HoldsNext P → HoldsNext Q
next_map P Q f p = record { n = p.n; m = p.m; some = p.some; within = p.within; over = λ k l hk hl h. f k l hk hl (p.over k l hk hl h) }

-- ---- linear values
abbrev values : Expr → Expr → Expr
values k l = ((l ⊖ k) ⊗ var 0) ⊕ (k ⊗ var 1)

-- at least as large as the value at the other end, with either sign
abbrev size : ℤ → ℤ
size g = pos (unsigned_abs g)

size_least : (g : ℤ) → pos 0 ≤ℤ size g
size_least g = omega (arith, ints)

size_up : (g : ℤ) → pos 0 ≤ℤ (size g +ℤ g)
size_up g = omega (arith, ints)

size_down : (g : ℤ) → pos 0 ≤ℤ (size g -ℤ g)
size_down g = omega (arith, ints)

module _ (f g : ℤ) where
  -- a value that is above 0 at the end is so up to the share f / (f + size g)
  positive_next : pos 0 <ℤ f → HoldsNext (λ k l. pos 0 <ℤ value_at f g k l)
  positive_next h = record {
    n = f;
    m = f +ℤ size g;
    some = h;
    within = grows f (size g) (size_least g);
    over = λ k l hk hl less. subst (λ (x : ℤ). pos 0 <ℤ x) (sym (same k l (size g)))
        (sum_positive_first _ _ (gap_of_less _ _ less) (mul_nonneg k (size g +ℤ g) (not_negative_of_positive k hk) (size_up g)));
  }
    where
      grows : (a b : ℤ) → pos 0 ≤ℤ b → a ≤ℤ (a +ℤ b)
      grows a b h = omega (arith, ints)

      same : (k l G : ℤ) → value_at f g k l ≡ ((f *ℤ l) -ℤ (k *ℤ (f +ℤ G))) +ℤ (k *ℤ (G +ℤ g))
      same k l G = ring (f ∷ g ∷ k ∷ l ∷ G ∷ []) (values (var 2) (var 3)) (((var 0 ⊗ var 3) ⊖ (var 2 ⊗ (var 0 ⊕ var 4))) ⊕ (var 2 ⊗ (var 4 ⊕ var 1))) refl

  -- a value that is 0 at the end has the sign of that at the other end
  level : (k l : ℤ) → f ≡ pos 0 → value_at f g k l ≡ k *ℤ g
  level k l none = ap (λ (x : ℤ). value_at x g k l) none ∙ ring (pos 0 ∷ g ∷ k ∷ l ∷ []) (((var 3 ⊖ var 2) ⊗ con (pos 0)) ⊕ (var 2 ⊗ var 1)) (var 2 ⊗ var 1) refl

  everywhere : (P : ℤ → ℤ → Type 0) → ((k l : ℤ) → pos 0 <ℤ k → P k l) → HoldsNext P
  everywhere P h = record { n = pos 1; m = pos 1; some = omega (arith, ints); within = omega (arith, ints); over = λ k l hk hl less. h k l hk }

  pub above_next : IsAbove f g → HoldsNext (λ k l. pos 0 <ℤ value_at f g k l)
  above_next (inl h) = positive_next h
  above_next (inr (none, h)) = everywhere (λ k l. pos 0 <ℤ value_at f g k l) (λ k l hk. subst (λ (x : ℤ). pos 0 <ℤ x) (sym (level k l none)) (mul_pos k g hk h))

  pub not_below_next : IsNotBelow f g → HoldsNext (λ k l. pos 0 ≤ℤ value_at f g k l)
  not_below_next (inl h) = next_map (λ k l. pos 0 <ℤ value_at f g k l) (λ k l. pos 0 ≤ℤ value_at f g k l) (λ k l hk hl h. not_negative_of_positive _ h) (positive_next h)
  not_below_next (inr (none, h)) = everywhere (λ k l. pos 0 ≤ℤ value_at f g k l) (λ k l hk. subst (λ (x : ℤ). pos 0 ≤ℤ x) (sym (level k l none)) (mul_nonneg k g (not_negative_of_positive k hk) h))

  -- ---- the other way, at the share 1 / (m + 1 + size g)
  module _ (n m : ℤ) (some : pos 0 <ℤ n) (within : n ≤ℤ m) where
    abbrev far : ℤ
    far = (m +ℤ pos 1) +ℤ size g

    far_positive : pos 0 <ℤ far
    far_positive = positive m (size g) n some within (size_least g)
      where
        positive : (m G n : ℤ) → pos 0 <ℤ n → n ≤ℤ m → pos 0 ≤ℤ G → pos 0 <ℤ ((m +ℤ pos 1) +ℤ G)
        positive m G n h k l = omega (arith, ints)

    far_below : (pos 1 *ℤ m) <ℤ (n *ℤ far)
    far_below = less_of_gap (pos 1 *ℤ m) (n *ℤ far) (subst (λ (x : ℤ). pos 0 <ℤ x) (sym (same (size g))) (sum _ _ (mul_nonneg (n -ℤ pos 1) far (one_less_not_negative n some) (not_negative_of_positive _ far_positive)) (size_least g)))
      where
        sum : (a b : ℤ) → pos 0 ≤ℤ a → pos 0 ≤ℤ b → pos 0 <ℤ (a +ℤ (pos 1 +ℤ b))
        sum a b h k = omega (arith, ints)

        same : (G : ℤ) → (n *ℤ ((m +ℤ pos 1) +ℤ G)) -ℤ (pos 1 *ℤ m) ≡ ((n -ℤ pos 1) *ℤ ((m +ℤ pos 1) +ℤ G)) +ℤ (pos 1 +ℤ G)
        same G = ring (n ∷ m ∷ G ∷ []) ((var 0 ⊗ ((var 1 ⊕ con (pos 1)) ⊕ var 2)) ⊖ (con (pos 1) ⊗ var 1)) (((var 0 ⊖ con (pos 1)) ⊗ ((var 1 ⊕ con (pos 1)) ⊕ var 2)) ⊕ (con (pos 1) ⊕ var 2)) refl

    -- a value that is below 0 at the end is so there
    falls : f <ℤ pos 0 → value_at f g (pos 1) far <ℤ pos 0
    falls h = negative_of_negation _ (subst (λ (x : ℤ). pos 0 <ℤ x) (sym (same (size g)))
        (sum _ _ _ (mul_nonneg (m +ℤ size g) ((pos 0 -ℤ f) -ℤ pos 1) (least m n (size g) some within (size_least g)) (rest f h)) (positive n m some within) (size_down g)))
      where
        rest : (f : ℤ) → f <ℤ pos 0 → pos 0 ≤ℤ ((pos 0 -ℤ f) -ℤ pos 1)
        rest f h = omega (arith, ints)

        positive : (n m : ℤ) → pos 0 <ℤ n → n ≤ℤ m → pos 0 <ℤ m
        positive n m h k = omega (arith, ints)

        least : (m n G : ℤ) → pos 0 <ℤ n → n ≤ℤ m → pos 0 ≤ℤ G → pos 0 ≤ℤ (m +ℤ G)
        least m n G h k l = omega (arith, ints)

        sum : (a b c : ℤ) → pos 0 ≤ℤ a → pos 0 <ℤ b → pos 0 ≤ℤ c → pos 0 <ℤ ((a +ℤ b) +ℤ c)
        sum a b c h k l = omega (arith, ints)

        same : (G : ℤ) → pos 0 -ℤ value_at f g (pos 1) ((m +ℤ pos 1) +ℤ G) ≡ (((m +ℤ G) *ℤ ((pos 0 -ℤ f) -ℤ pos 1)) +ℤ m) +ℤ (G -ℤ g)
        same G = ring (f ∷ g ∷ m ∷ G ∷ []) (con (pos 0) ⊖ values (con (pos 1)) ((var 2 ⊕ con (pos 1)) ⊕ var 3)) ((((var 2 ⊕ var 3) ⊗ ((con (pos 0) ⊖ var 0) ⊖ con (pos 1))) ⊕ var 2) ⊕ (var 3 ⊖ var 1)) refl

    once : f ≡ pos 0 → value_at f g (pos 1) far ≡ g
    once none = level (pos 1) far none ∙ same g
      where
        same : (g : ℤ) → pos 1 *ℤ g ≡ g
        same g = omega (arith, ints)

  pub above_of_next : HoldsNext (λ k l. pos 0 <ℤ value_at f g k l) → IsAbove f g
  above_of_next h =
      let here = h.over (pos 1) (far h.n h.m h.some h.within) (omega (arith, ints)) (far_positive h.n h.m h.some h.within) (far_below h.n h.m h.some h.within) in
      by_lt_z (pos 0) f (λ positive. inl positive) (λ most. by_lt_z f (pos 0)
      (λ negative. absurd (less_not_at_most _ (pos 0) (falls h.n h.m h.some h.within negative) (not_negative_of_positive _ here)))
      (λ least. let none = zero_between f least most in inr (none, subst (λ (x : ℤ). pos 0 <ℤ x) (once h.n h.m h.some h.within none) here)))

  pub not_below_of_next : HoldsNext (λ k l. pos 0 ≤ℤ value_at f g k l) → IsNotBelow f g
  not_below_of_next h =
      let here = h.over (pos 1) (far h.n h.m h.some h.within) (omega (arith, ints)) (far_positive h.n h.m h.some h.within) (far_below h.n h.m h.some h.within) in
      by_lt_z (pos 0) f (λ positive. inl positive) (λ most. by_lt_z f (pos 0)
      (λ negative. absurd (less_not_at_most _ (pos 0) (falls h.n h.m h.some h.within negative) here))
      (λ least. let none = zero_between f least most in inr (none, subst (λ (x : ℤ). pos 0 ≤ℤ x) (once h.n h.m h.some h.within none) here)))
