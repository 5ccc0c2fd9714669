-- When a triangle that is not edge-on covers a point: three determinants and a height.
use Rattle.std.proofs.Common.{◌≡◌, List, refl, arith}
use Rattle.std.specs.Prelude.{ℤ, pos, ◌+ℤ◌, ◌-ℤ◌, ◌*ℤ◌, ◌≤ℤ◌, ◌<ℤ◌}
use Rattle.std.proofs.lemmas.Int.{ints}
use Rattle.integers.proofs.Comparisons.{positive_at, not_negative_at}
use Rattle.integers.proofs.Ring.{Expr, ◌⊕◌, ◌⊖◌, ◌⊗◌, ring, by_two, by_three, less_by, gap_of_less}
use Rattle.integers.proofs.Signs.{mul_nonneg, mul_pos, nonneg_of_mul, pos_of_mul}
use Rattle.hiding_laws.proofs.ScreenLetters.{A, B, C, P, I, J, K, area, turn, weighed, values}
use Rattle.hiding_laws.proofs.Screens.{Screen, area_of, turn_of, lead_of, Covers}

module _ (a b c p : Screen) where
  abbrev none : List ℤ
  none = values a b c p (pos 0) (pos 0) (pos 0)

  turns : (turn_of p b c +ℤ turn_of p c a) +ℤ turn_of p a b ≡ p.w *ℤ area_of a b c
  turns = ring none ((turn P B C ⊕ turn P C A) ⊕ turn P A B) (P.w ⊗ area A B C) refl

  pub covers_from : pos 0 <ℤ p.w → pos 0 <ℤ area_of a b c → pos 0 ≤ℤ turn_of p b c → pos 0 ≤ℤ turn_of p c a → pos 0 ≤ℤ turn_of p a b → pos 0 <ℤ lead_of a b c p → Covers a b c p
  covers_from w area_up i_least j_least k_least lead =
      let i = turn P B C in let j = turn P C A in let k = turn P A B in
      let s = (i ⊕ j) ⊕ k in
      let whole = turns in
      let size = mul_pos p.w (area_of a b c) w area_up in
      let high = mul_pos p.w (lead_of a b c p) w lead in
      record {
        i = turn_of p b c;
        j = turn_of p c a;
        k = turn_of p a b;
        i_least = i_least;
        j_least = j_least;
        k_least = k_least;
        some = positive_at _ _ whole size;
        same_u = ring none (weighed i j k A.u B.u C.u ⊗ P.w) (P.u ⊗ s) refl;
        same_v = ring none (weighed i j k A.v B.v C.v ⊗ P.w) (P.v ⊗ s) refl;
        nearer = less_by _ _ _
            (ring none ((weighed i j k A.h B.h C.h ⊗ P.w) ⊖ (P.h ⊗ s)) (P.w ⊗ (weighed i j k A.h B.h C.h ⊖ (P.h ⊗ area A B C))) refl) high;
      }

  -- the other way: the weights of a cover are in proportion to the determinants
  module _ (q : Covers a b c p) where
    abbrev sum : ℤ
    sum = (q.i +ℤ q.j) +ℤ q.k

    abbrev here : List ℤ
    here = values a b c p q.i q.j q.k

    -- what the two equations of `q` say, as expressions
    abbrev left_u : Expr
    left_u = weighed I J K A.u B.u C.u ⊗ P.w

    abbrev right_u : Expr
    right_u = P.u ⊗ ((I ⊕ J) ⊕ K)

    abbrev left_v : Expr
    left_v = weighed I J K A.v B.v C.v ⊗ P.w

    abbrev right_v : Expr
    right_v = P.v ⊗ ((I ⊕ J) ⊕ K)

    -- `sum` times a determinant is p's w times the weight times the area
    first : sum *ℤ turn_of p b c ≡ p.w *ℤ (q.i *ℤ area_of a b c)
    first = by_two _ _ _ _ (c.v -ℤ b.v) _ _ (b.u -ℤ c.u)
        (ring here ((((I ⊕ J) ⊕ K) ⊗ turn P B C) ⊖ (P.w ⊗ (I ⊗ area A B C)))
        (((left_u ⊖ right_u) ⊗ (C.v ⊖ B.v)) ⊕ ((left_v ⊖ right_v) ⊗ (B.u ⊖ C.u))) refl) q.same_u q.same_v

    second : sum *ℤ turn_of p c a ≡ p.w *ℤ (q.j *ℤ area_of a b c)
    second = by_two _ _ _ _ (a.v -ℤ c.v) _ _ (c.u -ℤ a.u)
        (ring here ((((I ⊕ J) ⊕ K) ⊗ turn P C A) ⊖ (P.w ⊗ (J ⊗ area A B C)))
        (((left_u ⊖ right_u) ⊗ (A.v ⊖ C.v)) ⊕ ((left_v ⊖ right_v) ⊗ (C.u ⊖ A.u))) refl) q.same_u q.same_v

    third : sum *ℤ turn_of p a b ≡ p.w *ℤ (q.k *ℤ area_of a b c)
    third = by_two _ _ _ _ (b.v -ℤ a.v) _ _ (a.u -ℤ b.u)
        (ring here ((((I ⊕ J) ⊕ K) ⊗ turn P A B) ⊖ (P.w ⊗ (K ⊗ area A B C)))
        (((left_u ⊖ right_u) ⊗ (B.v ⊖ A.v)) ⊕ ((left_v ⊖ right_v) ⊗ (A.u ⊖ B.u))) refl) q.same_u q.same_v

    module _ (w : pos 0 <ℤ p.w) (area_up : pos 0 <ℤ area_of a b c) where
      not_behind : (k t : ℤ) → pos 0 ≤ℤ k → sum *ℤ t ≡ p.w *ℤ (k *ℤ area_of a b c) → pos 0 ≤ℤ t
      not_behind k t h e =
          let m = mul_nonneg p.w (k *ℤ area_of a b c) (omega (arith, ints)) (mul_nonneg k (area_of a b c) h (omega (arith, ints))) in
          nonneg_of_mul sum t q.some (not_negative_at _ _ e m)

      pub covers_to : (pos 0 ≤ℤ turn_of p b c) × (pos 0 ≤ℤ turn_of p c a) × (pos 0 ≤ℤ turn_of p a b) × (pos 0 <ℤ lead_of a b c p)
      covers_to = (
        not_behind q.i _ q.i_least first,
        not_behind q.j _ q.j_least second,
        not_behind q.k _ q.k_least third,
        pos_of_mul sum (lead_of a b c p) q.some (positive_at _ _
            (by_three _ _ _ _ a.h _ _ b.h _ _ c.h
            (ring here
            ((((I ⊕ J) ⊕ K) ⊗ (weighed (turn P B C) (turn P C A) (turn P A B) A.h B.h C.h ⊖ (P.h ⊗ area A B C)))
            ⊖ (area A B C ⊗ ((weighed I J K A.h B.h C.h ⊗ P.w) ⊖ (P.h ⊗ ((I ⊕ J) ⊕ K)))))
            ((((((((I ⊕ J) ⊕ K) ⊗ turn P B C) ⊖ (P.w ⊗ (I ⊗ area A B C))) ⊗ A.h)
            ⊕ (((((I ⊕ J) ⊕ K) ⊗ turn P C A) ⊖ (P.w ⊗ (J ⊗ area A B C))) ⊗ B.h))
            ⊕ (((((I ⊕ J) ⊕ K) ⊗ turn P A B) ⊖ (P.w ⊗ (K ⊗ area A B C))) ⊗ C.h))) refl)
            first second third)
            (mul_pos (area_of a b c) _ area_up (gap_of_less _ _ q.nearer))),
      )
