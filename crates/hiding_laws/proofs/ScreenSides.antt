-- When a side that is not seen end-on covers a point.
use Rattle.std.proofs.Common.{◌≡◌, List, [], ◌∷◌, refl, sym, ◌∙◌, arith}
use Rattle.std.specs.Prelude.{ℤ, pos, ◌+ℤ◌, ◌-ℤ◌, ◌*ℤ◌, ◌≤ℤ◌, ◌<ℤ◌}
use Rattle.std.proofs.lemmas.Int.{ints}
use Rattle.integers.proofs.Comparisons.{not_negative_of_positive, not_negative_at, positive_at, sum_not_negative, same_of_gap_back}
use Rattle.integers.proofs.Ring.{Expr, var, con, ◌⊕◌, ◌⊖◌, ◌⊗◌, ring, by_one, by_two, less_by, gap_of_less}
use Rattle.integers.proofs.Signs.{mul_nonneg, mul_pos, nonneg_of_mul, pos_of_mul, zero_of_mul, square_nonneg, square_zero}
use Rattle.hiding_laws.proofs.ScreenLetters.{A, B, P, I, J, turn, values}
use Rattle.hiding_laws.proofs.Screens.{Screen, turn_of, along_of, length_of, rest_of, side_lead_of, SideCovers}

abbrev E : Expr
E = B.u ⊖ A.u

abbrev F : Expr
F = B.v ⊖ A.v

abbrev L : Expr
L = (E ⊗ E) ⊕ (F ⊗ F)

abbrev T : Expr
T = (E ⊗ (P.u ⊖ (P.w ⊗ A.u))) ⊕ (F ⊗ (P.v ⊖ (P.w ⊗ A.v)))

-- the way that is left
abbrev R : Expr
R = (P.w ⊗ L) ⊖ T

abbrev Zero : Expr
Zero = con (pos 0)

module _ (a b p : Screen) where
  abbrev none : List ℤ
  none = values a b a p (pos 0) (pos 0) (pos 0)

  pub side_from : pos 0 <ℤ p.w → pos 0 <ℤ length_of a b → turn_of p a b ≡ pos 0 → pos 0 ≤ℤ along_of a b p → pos 0 ≤ℤ rest_of a b p → pos 0 <ℤ side_lead_of a b p → SideCovers a b p
  side_from w long on t_least r_least lead = record {
    i = rest_of a b p;
    j = along_of a b p;
    i_least = r_least;
    j_least = t_least;
    some = positive_at _ _ (ring none (R ⊕ T) (P.w ⊗ L) refl) (mul_pos p.w (length_of a b) w long);
    same_u = by_one _ _ _ _ (p.w *ℤ (b.v -ℤ a.v))
        (ring none ((((R ⊗ A.u) ⊕ (T ⊗ B.u)) ⊗ P.w) ⊖ (P.u ⊗ (R ⊕ T))) ((turn P A B ⊖ Zero) ⊗ (P.w ⊗ F)) refl) on;
    same_v = by_one _ _ _ _ (p.w *ℤ (a.u -ℤ b.u))
        (ring none ((((R ⊗ A.v) ⊕ (T ⊗ B.v)) ⊗ P.w) ⊖ (P.v ⊗ (R ⊕ T))) ((turn P A B ⊖ Zero) ⊗ (P.w ⊗ (A.u ⊖ B.u))) refl) on;
    nearer = less_by _ _ _
        (ring none ((((R ⊗ A.h) ⊕ (T ⊗ B.h)) ⊗ P.w) ⊖ (P.h ⊗ (R ⊕ T))) (P.w ⊗ (((R ⊗ A.h) ⊕ (T ⊗ B.h)) ⊖ (P.h ⊗ L))) refl)
        (mul_pos p.w (side_lead_of a b p) w lead);
  }

  module _ (q : SideCovers a b p) where
    abbrev sum : ℤ
    sum = q.i +ℤ q.j

    abbrev S : Expr
    S = I ⊕ J

    abbrev here : List ℤ
    here = values a b a p q.i q.j (pos 0)

    abbrev gap_u : Expr
    gap_u = (((I ⊗ A.u) ⊕ (J ⊗ B.u)) ⊗ P.w) ⊖ (P.u ⊗ S)

    abbrev gap_v : Expr
    gap_v = (((I ⊗ A.v) ⊕ (J ⊗ B.v)) ⊗ P.w) ⊖ (P.v ⊗ S)

    on_line : sum *ℤ turn_of p a b ≡ pos 0
    on_line = by_two _ _ _ _ (b.v -ℤ a.v) _ _ (a.u -ℤ b.u)
        (ring here ((S ⊗ turn P A B) ⊖ Zero) ((gap_u ⊗ (B.v ⊖ A.v)) ⊕ (gap_v ⊗ (A.u ⊖ B.u))) refl) q.same_u q.same_v

    way : sum *ℤ along_of a b p ≡ p.w *ℤ (q.j *ℤ length_of a b)
    way = by_two _ _ _ _ (a.u -ℤ b.u) _ _ (a.v -ℤ b.v)
        (ring here ((S ⊗ T) ⊖ (P.w ⊗ (J ⊗ L))) ((gap_u ⊗ (A.u ⊖ B.u)) ⊕ (gap_v ⊗ (A.v ⊖ B.v))) refl) q.same_u q.same_v

    left : sum *ℤ rest_of a b p ≡ p.w *ℤ (q.i *ℤ length_of a b)
    left = by_two _ _ _ _ (b.u -ℤ a.u) _ _ (b.v -ℤ a.v)
        (ring here ((S ⊗ R) ⊖ (P.w ⊗ (I ⊗ L))) ((gap_u ⊗ (B.u ⊖ A.u)) ⊕ (gap_v ⊗ (B.v ⊖ A.v))) refl) q.same_u q.same_v

    pub side_to : pos 0 <ℤ p.w → pos 0 <ℤ length_of a b
        → (turn_of p a b ≡ pos 0) × (pos 0 ≤ℤ along_of a b p) × (pos 0 ≤ℤ rest_of a b p) × (pos 0 <ℤ side_lead_of a b p)
    side_to w long =
        let w_least : pos 0 ≤ℤ p.w = omega (arith, ints) in
        let l_least : pos 0 ≤ℤ length_of a b = not_negative_of_positive _ long in (
          zero_of_mul sum _ q.some on_line,
          nonneg_of_mul sum _ q.some (not_negative_at _ _ way (mul_nonneg p.w _ w_least (mul_nonneg q.j _ q.j_least l_least))),
          nonneg_of_mul sum _ q.some (not_negative_at _ _ left (mul_nonneg p.w _ w_least (mul_nonneg q.i _ q.i_least l_least))),
          pos_of_mul sum _ q.some (positive_at _ _
              (by_two _ _ _ _ a.h _ _ b.h
              (ring here ((S ⊗ (((R ⊗ A.h) ⊕ (T ⊗ B.h)) ⊖ (P.h ⊗ L))) ⊖ (L ⊗ ((((I ⊗ A.h) ⊕ (J ⊗ B.h)) ⊗ P.w) ⊖ (P.h ⊗ S))))
              ((((S ⊗ R) ⊖ (P.w ⊗ (I ⊗ L))) ⊗ A.h) ⊕ (((S ⊗ T) ⊖ (P.w ⊗ (J ⊗ L))) ⊗ B.h)) refl)
              left way)
              (mul_pos (length_of a b) _ long (gap_of_less _ _ q.nearer))),
        )

-- ---- the length of a side
pub length_least : (a b : Screen) → pos 0 ≤ℤ length_of a b
length_least a b = sum_not_negative _ _ (square_nonneg (b.u -ℤ a.u)) (square_nonneg (b.v -ℤ a.v))

pub length_zero : (a b : Screen) → length_of a b ≡ pos 0 → (a.u ≡ b.u) × (a.v ≡ b.v)
length_zero a b e =
    let p = square_nonneg (b.u -ℤ a.u) in
    let q = square_nonneg (b.v -ℤ a.v) in
    (same_of_gap_back _ _ (square_zero _ (left _ _ e q)), same_of_gap_back _ _ (square_zero _ (right _ _ e p)))
  where
    left : (x y : ℤ) → x +ℤ y ≡ pos 0 → pos 0 ≤ℤ y → x ≤ℤ pos 0
    left x y e h = omega (arith, ints)

    right : (x y : ℤ) → x +ℤ y ≡ pos 0 → pos 0 ≤ℤ x → y ≤ℤ pos 0
    right x y e h = omega (arith, ints)

pub length_none : (a b : Screen) → (a.u ≡ b.u) × (a.v ≡ b.v) → length_of a b ≡ pos 0
length_none a b e =
    (λ t. ((sym e.0 t -ℤ a.u) *ℤ (sym e.0 t -ℤ a.u)) +ℤ ((sym e.1 t -ℤ a.v) *ℤ (sym e.1 t -ℤ a.v)))
    ∙ ring (a.u ∷ a.v ∷ []) (((var 0 ⊖ var 0) ⊗ (var 0 ⊖ var 0)) ⊕ ((var 1 ⊖ var 1) ⊗ (var 1 ⊖ var 1))) (con (pos 0)) refl

pub pos_of_least : (x : ℤ) → pos 0 ≤ℤ x → ¬ (x ≡ pos 0) → pos 0 <ℤ x
pos_of_least x h n = omega (arith, ints)
