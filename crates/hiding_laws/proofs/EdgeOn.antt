-- What an edge-on triangle covers, one of its sides covers.
use Rattle.std.proofs.Common.{◌≡◌, List, [], ◌∷◌, refl, ◌∙◌, arith, ◌⊎◌, inl, inr, ⊎_elim}
use Rattle.std.specs.Prelude.{ℤ, pos, ◌+ℤ◌, ◌-ℤ◌, ◌*ℤ◌, ◌≤ℤ◌, ◌<ℤ◌}
use Rattle.std.proofs.lemmas.Int.{ints, by_lt_z}
use Rattle.integers.proofs.Comparisons.{positive_at, not_negative_at}
use Rattle.integers.proofs.Ring.{var, con, ◌⊕◌, ◌⊖◌, ◌⊗◌, ring, by_one, by_three, less_by, gap_of_less}
use Rattle.integers.proofs.Signs.{mul_nonneg, mul_pos}
use Rattle.hiding_laws.proofs.Decisions.{same_or}
use Rattle.hiding_laws.proofs.ScreenLetters.{A, B, C, P, I, J, K, area, weighed, values, X, Y, Z, values_falling}
use Rattle.hiding_laws.proofs.Screens.{Screen, area_of, Covers, SideCovers, AreApart, SomeSideCovers}

-- ---- which weight to use up: one that falls, and that is used up before the others
abbrev CanDrop : (x y z i j k : ℤ) → Type 0
CanDrop x y z i j k = (pos 0 <ℤ x) × (pos 0 ≤ℤ ((x *ℤ j) -ℤ (i *ℤ y))) × (pos 0 ≤ℤ ((x *ℤ k) -ℤ (i *ℤ z)))

-- here x, y and z are by how much the three weights fall
fall_least : (x j i y : ℤ) → pos 0 ≤ℤ x → pos 0 ≤ℤ j → pos 0 ≤ℤ i → y ≤ℤ pos 0 → pos 0 ≤ℤ ((x *ℤ j) -ℤ (i *ℤ y))
fall_least x j i y p q r s =
    let m = mul_nonneg x j p q in
    let n = mul_nonneg i (pos 0 -ℤ y) r (omega (arith, ints)) in
    let X = var 0 in let N = var 1 in let M = var 2 in let Y = var 3 in
    let e = ring (x ∷ j ∷ i ∷ y ∷ []) ((X ⊗ N) ⊖ (M ⊗ Y)) ((X ⊗ N) ⊕ (M ⊗ (con (pos 0) ⊖ Y))) refl in
    not_negative_at _ _ e (sum_least _ _ m n)
  where
    sum_least : (a b : ℤ) → pos 0 ≤ℤ a → pos 0 ≤ℤ b → pos 0 ≤ℤ (a +ℤ b)
    sum_least a b p q = omega (arith, ints)

-- of two that fall, one is used up first
first_of_two : (x y z i j k : ℤ) → pos 0 <ℤ x → pos 0 <ℤ y → z ≤ℤ pos 0 → pos 0 ≤ℤ i → pos 0 ≤ℤ j → pos 0 ≤ℤ k → CanDrop x y z i j k ⊎ CanDrop y z x j k i
first_of_two x y z i j k hx hy hz hi hj hk =
    by_lt_z ((x *ℤ j) -ℤ (i *ℤ y)) (pos 0)
    (λ n. inr (hy, fall_least y k j z (weak y hy) hk hj hz, turned n))
    (λ n. inl (hx, n, fall_least x k i z (weak x hx) hk hi hz))
  where
    weak : (x : ℤ) → pos 0 <ℤ x → pos 0 ≤ℤ x
    weak x h = omega (arith, ints)

    turned : ((x *ℤ j) -ℤ (i *ℤ y)) <ℤ pos 0 → pos 0 ≤ℤ ((y *ℤ i) -ℤ (j *ℤ x))
    turned n =
        let X = var 0 in let Y = var 1 in let M = var 2 in let N = var 3 in
        let e = ring (x ∷ y ∷ i ∷ j ∷ []) ((Y ⊗ M) ⊖ (N ⊗ X)) (con (pos 0) ⊖ ((X ⊗ N) ⊖ (M ⊗ Y))) refl in
        not_negative_at _ _ e (flip _ n)
      where
        flip : (a : ℤ) → a <ℤ pos 0 → pos 0 ≤ℤ (pos 0 -ℤ a)
        flip a h = omega (arith, ints)

can_drop : (x y z i j k : ℤ) → (x +ℤ y) +ℤ z ≡ pos 0 → ¬ ((x ≡ pos 0) × (y ≡ pos 0)) → pos 0 ≤ℤ i → pos 0 ≤ℤ j → pos 0 ≤ℤ k
    → CanDrop x y z i j k ⊎ CanDrop y z x j k i ⊎ CanDrop z x y k i j
can_drop x y z i j k e ne hi hj hk =
    by_lt_z (pos 0) x
    (λ hx. by_lt_z (pos 0) y
    (λ hy. ⊎_elim (λ d. inl d) (λ d. inr (inl d)) (first_of_two x y z i j k hx hy (omega (arith, ints)) hi hj hk))
    (λ ny. by_lt_z (pos 0) z
    (λ hz. ⊎_elim (λ d. inr (inr d)) (λ d. inl d) (first_of_two z x y k i j hz hx ny hk hi hj))
    (λ nz. inl (hx, fall_least x j i y (omega (arith, ints)) hj hi ny, fall_least x k i z (omega (arith, ints)) hk hi nz))))
    (λ nx. by_lt_z (pos 0) y
    (λ hy. by_lt_z (pos 0) z
    (λ hz. ⊎_elim (λ d. inr (inl d)) (λ d. inr (inr d)) (first_of_two y z x j k i hy hz nx hj hk hi))
    (λ nz. inr (inl (hy, fall_least y k j z (omega (arith, ints)) hk hj nz, fall_least y i j x (omega (arith, ints)) hi hj nx))))
    (λ ny. by_lt_z (pos 0) z
    (λ hz. inr (inr (hz, fall_least z i k x (omega (arith, ints)) hi hk nx, fall_least z j k y (omega (arith, ints)) hj hk ny)))
    (λ nz. absurd (ne (omega (arith, ints), omega (arith, ints))))))

-- ---- the corners in turn
abbrev turned : (a b c p : Screen) → Covers a b c p → Covers b c a p
turned a b c p q =
    let here = values a b c p q.i q.j q.k in
    record {
      i = q.j;
      j = q.k;
      k = q.i;
      i_least = q.j_least;
      j_least = q.k_least;
      k_least = q.i_least;
      some = positive_at _ _ (ring here ((J ⊕ K) ⊕ I) ((I ⊕ J) ⊕ K) refl) q.some;
      same_u = ring here (weighed J K I B.u C.u A.u ⊗ P.w) (weighed I J K A.u B.u C.u ⊗ P.w) refl ∙ q.same_u ∙ ring here (P.u ⊗ ((I ⊕ J) ⊕ K)) (P.u ⊗ ((J ⊕ K) ⊕ I)) refl;
      same_v = ring here (weighed J K I B.v C.v A.v ⊗ P.w) (weighed I J K A.v B.v C.v ⊗ P.w) refl ∙ q.same_v ∙ ring here (P.v ⊗ ((I ⊕ J) ⊕ K)) (P.v ⊗ ((J ⊕ K) ⊕ I)) refl;
      nearer = less_by _ _ _
          (ring here ((weighed J K I B.h C.h A.h ⊗ P.w) ⊖ (P.h ⊗ ((J ⊕ K) ⊕ I))) ((weighed I J K A.h B.h C.h ⊗ P.w) ⊖ (P.h ⊗ ((I ⊕ J) ⊕ K))) refl)
          (gap_of_less _ _ q.nearer);
    }

abbrev weighed_of : ℤ → ℤ → ℤ → ℤ → ℤ → ℤ → ℤ
weighed_of x y z a b c = ((x *ℤ a) +ℤ (y *ℤ b)) +ℤ (z *ℤ c)

-- ---- the first weight is used up, and the point rises
drop_first : (a b c p : Screen) (q : Covers a b c p) (x y z : ℤ) → pos 0 <ℤ p.w → (x +ℤ y) +ℤ z ≡ pos 0
    → weighed_of x y z a.u b.u c.u ≡ pos 0 → weighed_of x y z a.v b.v c.v ≡ pos 0 → weighed_of x y z a.h b.h c.h ≤ℤ pos 0
    → CanDrop x y z q.i q.j q.k → SideCovers b c p
drop_first a b c p q x y z w whole flat_u flat_v behind d =
    let here = values_falling a b c p q.i q.j q.k x y z in
    let O = con (pos 0) in
    let s = (I ⊕ J) ⊕ K in
    let xyz = (X ⊕ Y) ⊕ Z in
    let j' = (X ⊗ J) ⊖ (I ⊗ Y) in
    let k' = (X ⊗ K) ⊖ (I ⊗ Z) in
    let i_w = mul_nonneg q.i p.w q.i_least (omega (arith, ints)) in
    let up = mul_nonneg (q.i *ℤ p.w) (pos 0 -ℤ weighed_of x y z a.h b.h c.h) i_w (turn_down _ behind) in
    let near = mul_pos x _ d.0 (gap_of_less _ _ q.nearer) in
    record {
      i = (x *ℤ q.j) -ℤ (q.i *ℤ y);
      j = (x *ℤ q.k) -ℤ (q.i *ℤ z);
      i_least = d.1;
      j_least = d.2;
      some = positive_at _ _
          (by_one _ _ _ _ (pos 0 -ℤ q.i) (ring here ((j' ⊕ k') ⊖ (X ⊗ s)) ((xyz ⊖ O) ⊗ (O ⊖ I)) refl) whole)
          (mul_pos x _ d.0 q.some);
      same_u = by_three _ _ _ _ x _ _ (pos 0 -ℤ (q.i *ℤ p.w)) _ _ (p.u *ℤ q.i)
          (ring here ((((j' ⊗ B.u) ⊕ (k' ⊗ C.u)) ⊗ P.w) ⊖ (P.u ⊗ (j' ⊕ k')))
          (((((weighed I J K A.u B.u C.u ⊗ P.w) ⊖ (P.u ⊗ s)) ⊗ X) ⊕ ((weighed X Y Z A.u B.u C.u ⊖ O) ⊗ (O ⊖ (I ⊗ P.w)))) ⊕ ((xyz ⊖ O) ⊗ (P.u ⊗ I))) refl)
          q.same_u flat_u whole;
      same_v = by_three _ _ _ _ x _ _ (pos 0 -ℤ (q.i *ℤ p.w)) _ _ (p.v *ℤ q.i)
          (ring here ((((j' ⊗ B.v) ⊕ (k' ⊗ C.v)) ⊗ P.w) ⊖ (P.v ⊗ (j' ⊕ k')))
          (((((weighed I J K A.v B.v C.v ⊗ P.w) ⊖ (P.v ⊗ s)) ⊗ X) ⊕ ((weighed X Y Z A.v B.v C.v ⊖ O) ⊗ (O ⊖ (I ⊗ P.w)))) ⊕ ((xyz ⊖ O) ⊗ (P.v ⊗ I))) refl)
          q.same_v flat_v whole;
      nearer = less_by _ _ _
          (by_one _ _ _ _ (p.h *ℤ q.i)
          (ring here (((((j' ⊗ B.h) ⊕ (k' ⊗ C.h)) ⊗ P.w) ⊖ (P.h ⊗ (j' ⊕ k')))
          ⊖ ((X ⊗ ((weighed I J K A.h B.h C.h ⊗ P.w) ⊖ (P.h ⊗ s))) ⊕ ((I ⊗ P.w) ⊗ (O ⊖ weighed X Y Z A.h B.h C.h))))
          ((xyz ⊖ O) ⊗ (P.h ⊗ I)) refl)
          whole)
          (sum_pos _ _ near up);
    }
  where
    turn_down : (a : ℤ) → a ≤ℤ pos 0 → pos 0 ≤ℤ (pos 0 -ℤ a)
    turn_down a h = omega (arith, ints)

    sum_pos : (a b : ℤ) → pos 0 <ℤ a → pos 0 ≤ℤ b → pos 0 <ℤ (a +ℤ b)
    sum_pos a b p q = omega (arith, ints)

module _ (a b c p : Screen) (q : Covers a b c p) (w : pos 0 <ℤ p.w) where
  -- the weights fall by x, y and z
  one_side : (x y z : ℤ) → (x +ℤ y) +ℤ z ≡ pos 0 → ¬ ((x ≡ pos 0) × (y ≡ pos 0))
      → weighed_of x y z a.u b.u c.u ≡ pos 0 → weighed_of x y z a.v b.v c.v ≡ pos 0 → weighed_of x y z a.h b.h c.h ≤ℤ pos 0
      → (pos 0 <ℤ x → AreApart b c) → (pos 0 <ℤ y → AreApart c a) → (pos 0 <ℤ z → AreApart a b) → SomeSideCovers a b c p
  one_side x y z whole ne flat_u flat_v behind apart_x apart_y apart_z =
      let here = values_falling a b c p q.i q.j q.k x y z in
      let q' = turned a b c p q in
      let q'' = turned b c a p q' in
      let twice = λ (x y z a b c : ℤ). ring (x ∷ y ∷ z ∷ a ∷ b ∷ c ∷ []) (weighed (var 1) (var 2) (var 0) (var 4) (var 5) (var 3)) (weighed (var 0) (var 1) (var 2) (var 3) (var 4) (var 5)) refl in
      let thrice = λ (x y z a b c : ℤ). ring (x ∷ y ∷ z ∷ a ∷ b ∷ c ∷ []) (weighed (var 2) (var 0) (var 1) (var 5) (var 3) (var 4)) (weighed (var 0) (var 1) (var 2) (var 3) (var 4) (var 5)) refl in
      elim (can_drop x y z q.i q.j q.k whole ne q.i_least q.j_least q.k_least) [
        | inl d ↦ inl (apart_x d.0, drop_first a b c p q x y z w whole flat_u flat_v behind d)
        | inr more ↦ elim more [
          | inl d ↦ inr (inl (
            apart_y d.0,
            drop_first b c a p q' y z x w (around x y z whole)
                (twice x y z a.u b.u c.u ∙ flat_u) (twice x y z a.v b.v c.v ∙ flat_v) (at_most_at _ _ (twice x y z a.h b.h c.h) behind) d,
          ))
          | inr d ↦ inr (inr (
            apart_z d.0,
            drop_first c a b p q'' z x y w (around' x y z whole)
                (thrice x y z a.u b.u c.u ∙ flat_u) (thrice x y z a.v b.v c.v ∙ flat_v) (at_most_at _ _ (thrice x y z a.h b.h c.h) behind) d,
          ))
        ]
      ]
    where
      around : (x y z : ℤ) → (x +ℤ y) +ℤ z ≡ pos 0 → (y +ℤ z) +ℤ x ≡ pos 0
      around x y z e = omega (arith, ints)

      around' : (x y z : ℤ) → (x +ℤ y) +ℤ z ≡ pos 0 → (z +ℤ x) +ℤ y ≡ pos 0
      around' x y z e = omega (arith, ints)

      at_most_at : (x y : ℤ) → x ≡ y → y ≤ℤ pos 0 → x ≤ℤ pos 0
      at_most_at x y e h = omega (arith, ints)

  -- either way round, one of which lets the point behind
  either_way : (x y z : ℤ) → (x +ℤ y) +ℤ z ≡ pos 0 → ¬ ((x ≡ pos 0) × (y ≡ pos 0))
      → weighed_of x y z a.u b.u c.u ≡ pos 0 → weighed_of x y z a.v b.v c.v ≡ pos 0
      → (¬ (x ≡ pos 0) → AreApart b c) → (¬ (y ≡ pos 0) → AreApart c a) → (¬ (z ≡ pos 0) → AreApart a b) → SomeSideCovers a b c p
  either_way x y z whole ne flat_u flat_v apart_x apart_y apart_z =
      let turn = λ (x y z a b c : ℤ). ring (x ∷ y ∷ z ∷ a ∷ b ∷ c ∷ []) (weighed (con (pos 0) ⊖ var 0) (con (pos 0) ⊖ var 1) (con (pos 0) ⊖ var 2) (var 3) (var 4) (var 5)) (con (pos 0) ⊖ weighed (var 0) (var 1) (var 2) (var 3) (var 4) (var 5)) refl in
      by_lt_z (pos 0) (weighed_of x y z a.h b.h c.h)
      (λ up. one_side (pos 0 -ℤ x) (pos 0 -ℤ y) (pos 0 -ℤ z) (omega (arith, ints)) (λ e. ne (omega (arith, ints, e.0), omega (arith, ints, e.1)))
      (zero_at _ _ (turn x y z a.u b.u c.u) flat_u) (zero_at _ _ (turn x y z a.v b.v c.v) flat_v) (falls _ _ (turn x y z a.h b.h c.h) up)
      (λ h. apart_x (apart_of_minus x h)) (λ h. apart_y (apart_of_minus y h)) (λ h. apart_z (apart_of_minus z h)))
      (λ behind. one_side x y z whole ne flat_u flat_v behind (λ h. apart_x (apart_of x h)) (λ h. apart_y (apart_of y h)) (λ h. apart_z (apart_of z h)))
    where
      zero_at : (x y : ℤ) → x ≡ pos 0 -ℤ y → y ≡ pos 0 → x ≡ pos 0
      zero_at x y e f = omega (arith, ints)

      falls : (x y : ℤ) → x ≡ pos 0 -ℤ y → pos 0 <ℤ y → x ≤ℤ pos 0
      falls x y e f = omega (arith, ints)

      apart_of : (x : ℤ) → pos 0 <ℤ x → ¬ (x ≡ pos 0)
      apart_of x h e = omega (arith, ints)

      apart_of_minus : (x : ℤ) → pos 0 <ℤ (pos 0 -ℤ x) → ¬ (x ≡ pos 0)
      apart_of_minus x h e = omega (arith, ints)

  abbrev here : List ℤ
  here = values a b c p (pos 0) (pos 0) (pos 0)

  pub edge_on : area_of a b c ≡ pos 0 → ¬ ((a.u ≡ b.u) × (a.v ≡ b.v) × (b.u ≡ c.u) × (b.v ≡ c.v)) → SomeSideCovers a b c p
  edge_on flat ne =
      elim (differ a.u b.u c.u) [
        | inr n ↦ either_way (b.u -ℤ c.u) (c.u -ℤ a.u) (a.u -ℤ b.u) (omega (arith, ints)) (λ e. n (omega (arith, ints, e.0, e.1), omega (arith, ints, e.0, e.1)))
            (ring here (weighed (B.u ⊖ C.u) (C.u ⊖ A.u) (A.u ⊖ B.u) A.u B.u C.u) (con (pos 0)) refl)
            (zero_minus _ _ (ring here (weighed (B.u ⊖ C.u) (C.u ⊖ A.u) (A.u ⊖ B.u) A.v B.v C.v) (con (pos 0) ⊖ area A B C) refl) flat)
            (λ h e. h (omega (arith, ints, e.0))) (λ h e. h (omega (arith, ints, e.0))) (λ h e. h (omega (arith, ints, e.0)))
        | inl same ↦ either_way (b.v -ℤ c.v) (c.v -ℤ a.v) (a.v -ℤ b.v) (omega (arith, ints))
            (λ e. ne (same.0, omega (arith, ints, e.0, e.1), same.1, omega (arith, ints, e.0, e.1)))
            (ring here (weighed (B.v ⊖ C.v) (C.v ⊖ A.v) (A.v ⊖ B.v) A.u B.u C.u) (area A B C) refl ∙ flat)
            (ring here (weighed (B.v ⊖ C.v) (C.v ⊖ A.v) (A.v ⊖ B.v) A.v B.v C.v) (con (pos 0)) refl)
            (λ h e. h (omega (arith, ints, e.1))) (λ h e. h (omega (arith, ints, e.1))) (λ h e. h (omega (arith, ints, e.1)))
      ]
    where
      zero_minus : (x y : ℤ) → x ≡ pos 0 -ℤ y → y ≡ pos 0 → x ≡ pos 0
      zero_minus x y e f = omega (arith, ints)

      differ : (x y z : ℤ) → ((x ≡ y) × (y ≡ z)) ⊎ ¬ ((x ≡ y) × (y ≡ z))
      differ x y z = elim (same_or x y) [ inr n ↦ inr (λ e. n e.0) | inl s ↦ elim (same_or y z) [ inr n ↦ inr (λ e. n e.1) | inl t ↦ inl (s, t) ] ]
