-- A face about a corner that it does not have: it is over an angle between two of its sides, or over all ways, or none.
use Rattle.std.proofs.Common.{◌≡◌, inl, inr, List, [], ◌∷◌, refl, sym, ap, ◌∙◌, arith}
use Rattle.std.specs.Prelude.{ℤ, pos, ◌+ℤ◌, ◌-ℤ◌, ◌*ℤ◌, ◌≤ℤ◌, ◌<ℤ◌}
use Rattle.std.proofs.lemmas.Int.{ints, by_lt_z}
use Rattle.integers.proofs.Comparisons.{positive_at}
use Rattle.hiding_laws.proofs.OfSides.{of_ab}
use Rattle.hiding_laws.proofs.ScreenFaces.{covers_to}
use Rattle.hiding_laws.proofs.ScreenSides.{side_to}
use Rattle.hiding_laws.proofs.Screens.{lead_of, Screen, area_of, turn_of, SideCovers}
use Rattle.integers.proofs.Ring.{Expr, var, con, ◌⊕◌, ◌⊖◌, ◌⊗◌, ring, by_one}
use Rattle.integers.proofs.Signs.{mul_pos, pos_of_mul, zero_of_mul}
use Rattle.hiding_laws.specs.inner.Tallies.{IsTally}
use Rattle.geometry.specs.Turns.{Way, turn_from, Passes}
use Rattle.hiding_laws.proofs.CornerLaws.{way, IsWithin, IsOverWay, Ends, FrontCornerLaw}
use Rattle.hiding_laws.proofs.ScreenLetters.{ScreenPoint, area, turn}
use Rattle.hiding_laws.proofs.EdgeScreenLetters.{P, A, B, C, Zero, flat_values}
use Rattle.hiding_laws.proofs.Signs.{weak, clash, clash_neg, clash_zero}
use Rattle.hiding_laws.proofs.Sides.{tally_of, same_tally}
use Rattle.hiding_laws.proofs.OneFace.{none_tally}
use Rattle.hiding_laws.proofs.Lone.{area-rotate, lead-rotate}
use Rattle.hiding_laws.proofs.SideOver.{side_over}
use Rattle.hiding_laws.proofs.Turns.{turn_law}
use Rattle.hiding_laws.proofs.Near.{near_law, long_of, leans_off}

-- ---- where a side has a strictly nearer spot on the line of sight
module _ (o a b d : Screen) (ow : o.w ≡ pos 1) (area_up : pos 0 <ℤ area_of a b d) where
  o_pos : pos 0 <ℤ o.w
  o_pos = positive_at _ _ ow (omega (arith, ints))

  covers_side : turn_of o a b ≡ pos 0 → pos 0 ≤ℤ turn_of o b d → pos 0 ≤ℤ turn_of o d a → pos 0 <ℤ lead_of a b d o → SideCovers a b o
  covers_side = side_over a b d o o_pos area_up

  pub side_is : SideCovers a b o → (turn_of o a b ≡ pos 0) × (pos 0 ≤ℤ turn_of o b d) × (pos 0 ≤ℤ turn_of o d a) × (pos 0 <ℤ lead_of a b d o)
  side_is s =
      let r = covers_to a b d o (of_ab a b d o s) o_pos area_up in
      ((side_to a b o s o_pos (long_of a b d area_up)).0, r.0, r.1, r.3)

-- ---- what is known about the corner and the two ways
pub record Around (o a b d : Screen) (x y : Way) : Type 0 where
  pub ow : o.w ≡ pos 1
  pub area_up : pos 0 <ℤ area_of a b d
  pub ab : turn_of o a b ≡ pos 0 → (¬ (turn_from (way a b) x ≡ pos 0)) × (¬ (turn_from (way a b) y ≡ pos 0))
  pub bd : turn_of o b d ≡ pos 0 → (¬ (turn_from (way b d) x ≡ pos 0)) × (¬ (turn_from (way b d) y ≡ pos 0))
  pub da : turn_of o d a ≡ pos 0 → (¬ (turn_from (way d a) x ≡ pos 0)) × (¬ (turn_from (way d a) y ≡ pos 0))

around_rotate : {o a b d : Screen} {x y : Way} → Around o a b d x y → Around o b d a x y
around_rotate {a = a} {b = b} {d = d} r = record {
  ow = r.ow;
  area_up = positive_at _ _ (sym (area-rotate b d a)) r.area_up;
  ab = r.bd;
  bd = r.da;
  da = r.ab;
}

ends_rotate : {o a b d : Screen} {x y : Way} {ab_a ab_b bd_b bd_d da_d da_a : ℤ} → Ends o a b d x y ab_a ab_b bd_b bd_d da_d da_a → Ends o b d a x y bd_b bd_d da_d da_a ab_a ab_b
ends_rotate e = record {
  at_ab_a = e.at_bd_b;
  at_ab_b = e.at_bd_d;
  at_bd_b = e.at_da_d;
  at_bd_d = e.at_da_a;
  at_da_d = e.at_ab_a;
  at_da_a = e.at_ab_b;
}

over_rotate : (o a b d : Screen) (x : Way) → IsOverWay o a b d x → IsOverWay o b d a x
over_rotate o a b d x v = (positive_at _ _ (sym (lead-rotate b d a o)) v.0, v.2, v.3, v.1)

over_back : (o a b d : Screen) (x : Way) → IsOverWay o b d a x → IsOverWay o a b d x
over_back o a b d x v = (positive_at _ _ (lead-rotate b d a o) v.0, v.3, v.1, v.2)

-- ---- identities about the corner
module _ (o a b d : Screen) (x : Way) (ow : o.w ≡ pos 1) where
  abbrev X : Expr
  X = var 10

  abbrev Y : Expr
  Y = var 11

  abbrev here : List ℤ
  here = flat_values o o a b d x.u x.v

  abbrev across : ScreenPoint → ScreenPoint → Expr
  across a b = ((b.u ⊖ a.u) ⊗ Y) ⊖ ((b.v ⊖ a.v) ⊗ X)

  abbrev back : ScreenPoint → ScreenPoint → Expr
  back a b = (X ⊗ (b.v ⊖ a.v)) ⊖ (Y ⊗ (b.u ⊖ a.u))

  -- the way to b turns from x as the side from a to b does
  to_b : turn_of o a b ≡ pos 0 → area_of a b d *ℤ turn_from (way o b) x ≡ turn_of o b d *ℤ turn_from (way a b) x
  to_b e =
      by_one _ _ _ _ (turn_from (way d b) x)
      ((λ t. let w : Screen = record { u = o.u; v = o.v; h = o.h; w = ow t } in (area_of a b d *ℤ turn_from (way o b) x) -ℤ (turn_of w b d *ℤ turn_from (way a b) x))
      ∙ ring here ((area A B C ⊗ across P B) ⊖ (turn P B C ⊗ across A B)) ((turn P A B ⊖ Zero) ⊗ across C B) refl
      ∙ (λ t. let w : Screen = record { u = o.u; v = o.v; h = o.h; w = sym ow t } in (turn_of w a b -ℤ pos 0) *ℤ turn_from (way d b) x)) e

  to_a : turn_of o a b ≡ pos 0 → area_of a b d *ℤ turn_from x (way o a) ≡ turn_of o d a *ℤ turn_from (way a b) x
  to_a e =
      by_one _ _ _ _ (turn_from x (way d a))
      ((λ t. let w : Screen = record { u = o.u; v = o.v; h = o.h; w = ow t } in (area_of a b d *ℤ turn_from x (way o a)) -ℤ (turn_of w d a *ℤ turn_from (way a b) x))
      ∙ ring here ((area A B C ⊗ back P A) ⊖ (turn P C A ⊗ across A B)) ((turn P A B ⊖ Zero) ⊗ back C A) refl
      ∙ (λ t. let w : Screen = record { u = o.u; v = o.v; h = o.h; w = sym ow t } in (turn_of w a b -ℤ pos 0) *ℤ turn_from x (way d a))) e

  -- the two ways along the side from a to b are opposite, about a place of its line
  pub to_both : turn_from (way o a) (way o b) ≡ turn_of o a b
  to_both =
      ring here (((A.u ⊖ P.u) ⊗ (B.v ⊖ P.v)) ⊖ ((A.v ⊖ P.v) ⊗ (B.u ⊖ P.u))) (turn P A B) refl
      ∙ (λ t. turn_of record { u = o.u; v = o.v; h = o.h; w = sym ow t } a b)

-- ---- the law, from the face's cone
abbrev total : ℤ → ℤ → ℤ → ℤ → ℤ → ℤ → ℤ
total ab_a ab_b bd_b bd_d da_d da_a = ((ab_b -ℤ ab_a) +ℤ (bd_d -ℤ bd_b)) +ℤ (da_a -ℤ da_d)

module _ {o a b d : Screen} {x y : Way} (r : Around o a b d x y) {before after ab_a ab_b bd_b bd_d da_d da_a : ℤ}
    (t : IsTally (IsOverWay o a b d x) before) (t' : IsTally (IsOverWay o a b d y) after) (e : Ends o a b d x y ab_a ab_b bd_b bd_d da_d da_a) where
  sides_zero : (x y p q r s u v : ℤ) → x ≡ y → p ≡ pos 0 → q ≡ pos 0 → r ≡ pos 0 → s ≡ pos 0 → u ≡ pos 0 → v ≡ pos 0 → y -ℤ x ≡ total p q r s u v
  sides_zero x y p q r s u v e a b c d f g = omega (arith, ints)

  -- no side has a spot over the corner
  quiet : (IsOverWay o a b d x → IsOverWay o a b d y) → (IsOverWay o a b d y → IsOverWay o a b d x) → ¬ SideCovers a b o → ¬ SideCovers b d o → ¬ SideCovers d a o
      → after -ℤ before ≡ total ab_a ab_b bd_b bd_d da_d da_a
  quiet f g n k l =
      sides_zero before after ab_a ab_b bd_b bd_d da_d da_a (same_tally (tally_of f g t) t')
      (none_tally (λ z. n z.0) e.at_ab_a) (none_tally (λ z. n z.0) e.at_ab_b) (none_tally (λ z. k z.0) e.at_bd_b) (none_tally (λ z. k z.0) e.at_bd_d)
      (none_tally (λ z. l z.0) e.at_da_d) (none_tally (λ z. l z.0) e.at_da_a)

  twice : (x : ℤ) → pos 0 <ℤ x → x ≡ pos 0 → ⊥
  twice x h e = omega (arith, ints)

  area-turns : (turn_of o b d +ℤ turn_of o d a) +ℤ turn_of o a b ≡ area_of a b d
  area-turns =
      (λ t. let w : Screen = record { u = o.u; v = o.v; h = o.h; w = r.ow t } in (turn_of w b d +ℤ turn_of w d a) +ℤ turn_of w a b)
      ∙ ring (flat_values o o a b d (pos 0) (pos 0)) ((turn P B C ⊕ turn P C A) ⊕ turn P A B) (area A B C) refl

  -- two ends at one point of the view
  at_first : (c d : Screen) → (o.u ≡ c.u) × (o.v ≡ c.v) → turn_of o c d ≡ pos 0
  at_first c d s =
      (λ t. let w : Screen = record { u = s.0 t; v = s.1 t; h = o.h; w = r.ow t } in turn_of w c d)
      ∙ ring (c.u ∷ c.v ∷ d.u ∷ d.v ∷ []) (((var 0 ⊗ (var 1 ⊖ var 3)) ⊖ (var 1 ⊗ (var 0 ⊖ var 2))) ⊕ (con (pos 1) ⊗ ((var 0 ⊗ var 3) ⊖ (var 2 ⊗ var 1)))) Zero refl

  at_second : (c d : Screen) → (o.u ≡ d.u) × (o.v ≡ d.v) → turn_of o c d ≡ pos 0
  at_second c d s =
      (λ t. let w : Screen = record { u = s.0 t; v = s.1 t; h = o.h; w = r.ow t } in turn_of w c d)
      ∙ ring (d.u ∷ d.v ∷ c.u ∷ c.v ∷ []) (((var 0 ⊗ (var 3 ⊖ var 1)) ⊖ (var 1 ⊗ (var 2 ⊖ var 0))) ⊕ (con (pos 1) ⊗ ((var 2 ⊗ var 1) ⊖ (var 0 ⊗ var 3)))) Zero refl

  nonzero_turn : (p k s : ℤ) (z : ℤ) → pos 0 <ℤ k → p *ℤ z ≡ k *ℤ s → ¬ (s ≡ pos 0) → ¬ (z ≡ pos 0)
  nonzero_turn p k s z h e n f = n (zero_of_mul k s h (sym e ∙ ap (λ v. p *ℤ v) f ∙ ring (p ∷ []) (var 0 ⊗ Zero) Zero refl))

  reversed : (x y : Way) → turn_from y x ≡ pos 0 -ℤ turn_from x y
  reversed x y = ring (x.u ∷ x.v ∷ y.u ∷ y.v ∷ []) ((var 2 ⊗ var 1) ⊖ (var 3 ⊗ var 0)) (con (pos 0) ⊖ ((var 0 ⊗ var 3) ⊖ (var 1 ⊗ var 2))) refl

  nonzero_back : (x y : Way) → ¬ (turn_from x y ≡ pos 0) → ¬ (turn_from y x ≡ pos 0)
  nonzero_back x y n e = n (flip _ _ (reversed x y) e)
    where
      flip : (p q : ℤ) → p ≡ pos 0 -ℤ q → p ≡ pos 0 → q ≡ pos 0
      flip p q e h = omega (arith, ints)

  -- ---- the corner is under an inner place of the side from a to b
  module _ (l : pos 0 <ℤ lead_of a b d o) (zd : turn_of o a b ≡ pos 0) (ta : pos 0 <ℤ turn_of o b d) (tb : pos 0 <ℤ turn_of o d a) where
    side : SideCovers a b o
    side = covers_side o a b d r.ow r.area_up zd (weak _ ta) (weak _ tb) l

    not_a : ¬ ((o.u ≡ a.u) × (o.v ≡ a.v))
    not_a s = twice _ tb (at_second d a s)

    not_b : ¬ ((o.u ≡ b.u) × (o.v ≡ b.v))
    not_b s = twice _ ta (at_first b d s)

    -- over the way where the angle from b to a holds it
    in_angle : (z : Way) → IsOverWay o a b d z → Passes (way o b) z (way o a)
    in_angle z (l', wa, wb, inl h) = absurd (twice _ h zd)
    in_angle z (l', wa, wb, inr h) = inl (
      pos_of_mul _ _ r.area_up (positive_at _ _ (to_b o a b d z r.ow zd) (mul_pos _ _ ta h.1)),
      pos_of_mul _ _ r.area_up (positive_at _ _ (to_a o a b d z r.ow zd) (mul_pos _ _ tb h.1)),
    )

    no_turn : ¬ (pos 0 <ℤ turn_from (way o a) (way o b))
    no_turn h = twice _ h (to_both o a b d x r.ow ∙ zd)

    of_angle : (z : Way) → Passes (way o b) z (way o a) → IsOverWay o a b d z
    of_angle z (inl h) = (l, inl ta, inl tb, inr (zd, pos_of_mul _ _ ta (positive_at _ _ (sym (to_b o a b d z r.ow zd)) (mul_pos _ _ r.area_up h.0))))
    of_angle z (inr (inl h)) = absurd (no_turn h.1)
    of_angle z (inr (inr h)) = absurd (no_turn h.0)

    off_b : (z : Way) → ¬ (turn_from (way a b) z ≡ pos 0) → ¬ (turn_from (way o b) z ≡ pos 0)
    off_b z = nonzero_turn (area_of a b d) (turn_of o b d) (turn_from (way a b) z) (turn_from (way o b) z) ta (to_b o a b d z r.ow zd)

    off_a : (z : Way) → ¬ (turn_from (way a b) z ≡ pos 0) → ¬ (turn_from z (way o a) ≡ pos 0)
    off_a z = nonzero_turn (area_of a b d) (turn_of o d a) (turn_from (way a b) z) (turn_from z (way o a)) tb (to_a o a b d z r.ow zd)

    pub one_side : after -ℤ before ≡ total ab_a ab_b bd_b bd_d da_d da_a
    one_side =
        turn_law x y (way o b) (way o a) before after ab_b ab_a
        (nonzero_back (way o b) x (off_b x (r.ab zd).0)) (off_a x (r.ab zd).0) (off_b y (r.ab zd).1) (nonzero_back y (way o a) (off_a y (r.ab zd).1))
        (tally_of (in_angle x) (of_angle x) t) (tally_of (in_angle y) (of_angle y) t')
        (tally_of (λ z. z.2) (λ p. (side, not_b, p)) e.at_ab_b) (tally_of (λ z. z.2) (λ p. (side, not_a, p)) e.at_ab_a)
        ∙ alone ab_a ab_b bd_b bd_d da_d da_a
        (none_tally (λ z. no_bd z.0) e.at_bd_b) (none_tally (λ z. no_bd z.0) e.at_bd_d) (none_tally (λ z. no_da z.0) e.at_da_d) (none_tally (λ z. no_da z.0) e.at_da_a)
      where
        no_bd : ¬ SideCovers b d o
        no_bd s = twice _ ta ((side_is o b d a r.ow (positive_at _ _ (sym (area-rotate b d a)) r.area_up) s).0)

        no_da : ¬ SideCovers d a o
        no_da s = twice _ tb ((side_is o d a b r.ow (positive_at _ _ (area-rotate a b d) r.area_up) s).0)

        alone : (p q r s u v : ℤ) → r ≡ pos 0 → s ≡ pos 0 → u ≡ pos 0 → v ≡ pos 0 → q -ℤ p ≡ total p q r s u v
        alone p q r s u v e f g h = omega (arith, ints)

  -- ---- the corner is under b
  module _ (l : pos 0 <ℤ lead_of a b d o) (zd : turn_of o a b ≡ pos 0) (za : turn_of o b d ≡ pos 0) (tb : pos 0 <ℤ turn_of o d a) where
    under : (o.u ≡ b.u) × (o.v ≡ b.v)
    under = (same _ _ (zero_of_mul (area_of a b d) (b.u -ℤ o.u) r.area_up across_zero), same _ _ (zero_of_mul (area_of a b d) (b.v -ℤ o.v) r.area_up upward_zero))
      where
        same : (x y : ℤ) → y -ℤ x ≡ pos 0 → x ≡ y
        same x y e = omega (arith, ints)

        nothing : (x y : ℤ) → (pos 0 *ℤ x) +ℤ (pos 0 *ℤ y) ≡ pos 0
        nothing x y = ring (x ∷ y ∷ []) ((Zero ⊗ var 0) ⊕ (Zero ⊗ var 1)) Zero refl

        across_zero : area_of a b d *ℤ (b.u -ℤ o.u) ≡ pos 0
        across_zero =
            ring (flat_values o o a b d (pos 0) (pos 0)) (area A B C ⊗ (B.u ⊖ P.u)) ((turn P B C ⊗ (B.u ⊖ A.u)) ⊕ (turn P A B ⊗ (B.u ⊖ C.u))) refl
            ∙ (λ t. let w : Screen = record { u = o.u; v = o.v; h = o.h; w = sym r.ow t } in (turn_of w b d *ℤ (b.u -ℤ a.u)) +ℤ (turn_of w a b *ℤ (b.u -ℤ d.u)))
            ∙ (λ t. (za t *ℤ (b.u -ℤ a.u)) +ℤ (zd t *ℤ (b.u -ℤ d.u))) ∙ nothing (b.u -ℤ a.u) (b.u -ℤ d.u)

        upward_zero : area_of a b d *ℤ (b.v -ℤ o.v) ≡ pos 0
        upward_zero =
            ring (flat_values o o a b d (pos 0) (pos 0)) (area A B C ⊗ (B.v ⊖ P.v)) ((turn P B C ⊗ (B.v ⊖ A.v)) ⊕ (turn P A B ⊗ (B.v ⊖ C.v))) refl
            ∙ (λ t. let w : Screen = record { u = o.u; v = o.v; h = o.h; w = sym r.ow t } in (turn_of w b d *ℤ (b.v -ℤ a.v)) +ℤ (turn_of w a b *ℤ (b.v -ℤ d.v)))
            ∙ (λ t. (za t *ℤ (b.v -ℤ a.v)) +ℤ (zd t *ℤ (b.v -ℤ d.v))) ∙ nothing (b.v -ℤ a.v) (b.v -ℤ d.v)

    side_ab : SideCovers a b o
    side_ab = covers_side o a b d r.ow r.area_up zd (least za) (weak _ tb) l
      where
        least : {x : ℤ} → x ≡ pos 0 → pos 0 ≤ℤ x
        least e = omega (arith, ints)

    side_bd : SideCovers b d o
    side_bd = covers_side o b d a r.ow (positive_at _ _ (sym (area-rotate b d a)) r.area_up) za (weak _ tb) (least zd) (positive_at _ _ (sym (lead-rotate b d a o)) l)
      where
        least : {x : ℤ} → x ≡ pos 0 → pos 0 ≤ℤ x
        least e = omega (arith, ints)

    first_not_a : ¬ ((o.u ≡ a.u) × (o.v ≡ a.v))
    first_not_a s = twice _ tb (at_second d a s)

    second_not_d : ¬ ((o.u ≡ d.u) × (o.v ≡ d.v))
    second_not_d s = twice _ tb (at_first d a s)

    to_d : (z : Way) → turn_from (way o d) z ≡ turn_from (way b d) z
    to_d z t = ((d.u -ℤ under.0 t) *ℤ z.v) -ℤ ((d.v -ℤ under.1 t) *ℤ z.u)

    from_a : (z : Way) → turn_from z (way o a) ≡ turn_from (way a b) z
    from_a z =
        (λ t. (z.u *ℤ (a.v -ℤ under.1 t)) -ℤ (z.v *ℤ (a.u -ℤ under.0 t)))
        ∙ ring (z.u ∷ z.v ∷ a.u ∷ a.v ∷ b.u ∷ b.v ∷ []) ((var 0 ⊗ (var 3 ⊖ var 5)) ⊖ (var 1 ⊗ (var 2 ⊖ var 4))) (((var 4 ⊖ var 2) ⊗ var 1) ⊖ ((var 5 ⊖ var 3) ⊗ var 0)) refl

    -- the angle is below a half turn
    narrow : turn_from (way o a) (way o d) ≡ pos 0 -ℤ area_of a b d
    narrow =
        (λ t. ((a.u -ℤ under.0 t) *ℤ (d.v -ℤ under.1 t)) -ℤ ((a.v -ℤ under.1 t) *ℤ (d.u -ℤ under.0 t)))
        ∙ ring (flat_values a a a b d (pos 0) (pos 0)) (((A.u ⊖ B.u) ⊗ (C.v ⊖ B.v)) ⊖ ((A.v ⊖ B.v) ⊗ (C.u ⊖ B.u))) (Zero ⊖ area A B C) refl

    not_wide : ¬ (pos 0 <ℤ turn_from (way o a) (way o d))
    not_wide h = under_zero _ _ narrow r.area_up h
      where
        under_zero : (x y : ℤ) → x ≡ pos 0 -ℤ y → pos 0 <ℤ y → pos 0 <ℤ x → ⊥
        under_zero x y e h k = omega (arith, ints)

    in_corner : (z : Way) → IsOverWay o a b d z → Passes (way o d) z (way o a)
    in_corner z (l', inl h, wb, wd) = absurd (twice _ h za)
    in_corner z (l', inr h, wb, inl k) = absurd (twice _ k zd)
    in_corner z (l', inr h, wb, inr k) = inl (positive_at _ _ (to_d z) h.1, positive_at _ _ (from_a z) k.1)

    of_corner : (z : Way) → Passes (way o d) z (way o a) → IsOverWay o a b d z
    of_corner z (inl h) = (l, inr (za, positive_at _ _ (sym (to_d z)) h.0), inl tb, inr (zd, positive_at _ _ (sym (from_a z)) h.1))
    of_corner z (inr (inl h)) = absurd (not_wide h.1)
    of_corner z (inr (inr h)) = absurd (not_wide h.0)

    pub two_sides : after -ℤ before ≡ total ab_a ab_b bd_b bd_d da_d da_a
    two_sides =
        turn_law x y (way o d) (way o a) before after bd_d ab_a
        (nonzero_back (way o d) x (λ z. (r.bd za).0 (sym (to_d x) ∙ z))) (λ z. (r.ab zd).0 (sym (from_a x) ∙ z))
        (λ z. (r.bd za).1 (sym (to_d y) ∙ z)) (nonzero_back y (way o a) (λ z. (r.ab zd).1 (sym (from_a y) ∙ z)))
        (tally_of (in_corner x) (of_corner x) t) (tally_of (in_corner y) (of_corner y) t')
        (tally_of (λ z. z.2) (λ p. (side_bd, second_not_d, p)) e.at_bd_d) (tally_of (λ z. z.2) (λ p. (side_ab, first_not_a, p)) e.at_ab_a)
        ∙ alone ab_a ab_b bd_b bd_d da_d da_a
        (none_tally (λ z. z.1 under) e.at_ab_b) (none_tally (λ z. z.1 under) e.at_bd_b) (none_tally (λ z. no_da z.0) e.at_da_d) (none_tally (λ z. no_da z.0) e.at_da_a)
      where
        no_da : ¬ SideCovers d a o
        no_da s = twice _ tb ((side_is o d a b r.ow (positive_at _ _ (area-rotate a b d) r.area_up) s).0)

        alone : (p q r s u v : ℤ) → q ≡ pos 0 → r ≡ pos 0 → u ≡ pos 0 → v ≡ pos 0 → s -ℤ p ≡ total p q r s u v
        alone p q r s u v e f g h = omega (arith, ints)

-- ---- all cases
data At (z : ℤ) : Type 0 where
  below : z <ℤ pos 0 → At z
  zero_at : z ≡ pos 0 → At z
  above : pos 0 <ℤ z → At z

at : (z : ℤ) → At z
at z = by_lt_z z (pos 0) below (λ h. by_lt_z (pos 0) z above (λ l. zero_at (zero_of z h l)))
  where
    zero_of : (x : ℤ) → pos 0 ≤ℤ x → x ≤ℤ pos 0 → x ≡ pos 0
    zero_of x h l = omega (arith, ints)

least_of : (o a b : Screen) (x : Way) → IsWithin o a b x → pos 0 ≤ℤ turn_of o a b
least_of o a b x (inl h) = weak _ h
least_of o a b x (inr h) = third h.0
  where
    third : {k : ℤ} → k ≡ pos 0 → pos 0 ≤ℤ k
    third e = omega (arith, ints)

module _ {o a b d : Screen} {x y : Way} (r : Around o a b d x y) {before after ab_a ab_b bd_b bd_d da_d da_a : ℤ}
    (t : IsTally (IsOverWay o a b d x) before) (t' : IsTally (IsOverWay o a b d y) after) (e : Ends o a b d x y ab_a ab_b bd_b bd_d da_d da_a) where
  abbrev Law : Type 0
  Law = after -ℤ before ≡ total ab_a ab_b bd_b bd_d da_d da_a

  out : ¬ ((pos 0 ≤ℤ turn_of o b d) × (pos 0 ≤ℤ turn_of o d a) × (pos 0 ≤ℤ turn_of o a b) × (pos 0 <ℤ lead_of a b d o)) → Law
  out n =
      quiet r t t' e (λ v. absurd (n (held x v))) (λ v. absurd (n (held y v)))
      (λ s. let z = side_is o a b d r.ow r.area_up s in n (z.1, z.2, least z.0, z.3))
      (λ s. let z = side_is o b d a r.ow (positive_at _ _ (sym (area-rotate b d a)) r.area_up) s in n (least z.0, z.1, z.2, positive_at _ _ (lead-rotate b d a o) z.3))
      (λ s. let z = side_is o d a b r.ow (positive_at _ _ (area-rotate a b d) r.area_up) s in n (z.2, least z.0, z.1, positive_at _ _ (sym (lead-rotate a b d o)) z.3))
    where
      least : {k : ℤ} → k ≡ pos 0 → pos 0 ≤ℤ k
      least e = omega (arith, ints)

      held : (z : Way) → IsOverWay o a b d z → (pos 0 ≤ℤ turn_of o b d) × (pos 0 ≤ℤ turn_of o d a) × (pos 0 ≤ℤ turn_of o a b) × (pos 0 <ℤ lead_of a b d o)
      held z v = (least_of o b d z v.1, least_of o d a z v.2, least_of o a b z v.3, v.0)

  inside : pos 0 <ℤ lead_of a b d o → pos 0 <ℤ turn_of o b d → pos 0 <ℤ turn_of o d a → pos 0 <ℤ turn_of o a b → Law
  inside l ta tb td =
      quiet r t t' e (λ v. (l, inl ta, inl tb, inl td)) (λ v. (l, inl ta, inl tb, inl td))
      (λ s. clash_zero _ td (side_is o a b d r.ow r.area_up s).0)
      (λ s. clash_zero _ ta (side_is o b d a r.ow (positive_at _ _ (sym (area-rotate b d a)) r.area_up) s).0)
      (λ s. clash_zero _ tb (side_is o d a b r.ow (positive_at _ _ (area-rotate a b d) r.area_up) s).0)

  once : {z : ℤ} (x : Way) → IsTally (IsOverWay o a b d x) z → IsTally (IsOverWay o b d a x) z
  once x = tally_of (over_rotate o a b d x) (over_back o a b d x)

  twice_over : {z : ℤ} (x : Way) → IsTally (IsOverWay o a b d x) z → IsTally (IsOverWay o d a b x) z
  twice_over x = tally_of (λ v. over_rotate o b d a x (over_rotate o a b d x v)) (λ v. over_back o a b d x (over_back o b d a x v))

  from_once : (k p q r s u v : ℤ) → k ≡ total r s u v p q → k ≡ total p q r s u v
  from_once k p q r s u v e = omega (arith, ints)

  from_twice : (k p q r s u v : ℤ) → k ≡ total u v p q r s → k ≡ total p q r s u v
  from_twice k p q r s u v e = omega (arith, ints)

  none_left : turn_of o b d ≡ pos 0 → turn_of o d a ≡ pos 0 → turn_of o a b ≡ pos 0 → ⊥
  none_left za zb zd = clash_zero _ r.area_up (sym (area-turns r t t' e) ∙ (λ i. (za i +ℤ zb i) +ℤ zd i))

  cases : pos 0 <ℤ lead_of a b d o → At (turn_of o b d) → At (turn_of o d a) → At (turn_of o a b) → Law
  cases l (below h) vb vd = out (λ z. clash_neg _ z.0 h)
  cases l (zero_at za) (below h) vd = out (λ z. clash_neg _ z.1 h)
  cases l (above ta) (below h) vd = out (λ z. clash_neg _ z.1 h)
  cases l (zero_at za) (zero_at zb) (below h) = out (λ z. clash_neg _ z.2 h)
  cases l (zero_at za) (above tb) (below h) = out (λ z. clash_neg _ z.2 h)
  cases l (above ta) (zero_at zb) (below h) = out (λ z. clash_neg _ z.2 h)
  cases l (above ta) (above tb) (below h) = out (λ z. clash_neg _ z.2 h)
  cases l (above ta) (above tb) (above td) = inside l ta tb td
  cases l (above ta) (above tb) (zero_at zd) = one_side r t t' e l zd ta tb
  cases l (zero_at za) (above tb) (above td) =
      from_once _ ab_a ab_b bd_b bd_d da_d da_a (one_side (around_rotate r) (once x t) (once y t') (ends_rotate e) (positive_at _ _ (sym (lead-rotate b d a o)) l) za tb td)
  cases l (above ta) (zero_at zb) (above td) =
      from_twice _ ab_a ab_b bd_b bd_d da_d da_a (one_side (around_rotate (around_rotate r)) (twice_over x t) (twice_over y t') (ends_rotate (ends_rotate e)) (positive_at _ _ (lead-rotate a b d o) l) zb td ta)
  cases l (zero_at za) (above tb) (zero_at zd) = two_sides r t t' e l zd za tb
  cases l (zero_at za) (zero_at zb) (above td) =
      from_once _ ab_a ab_b bd_b bd_d da_d da_a (two_sides (around_rotate r) (once x t) (once y t') (ends_rotate e) (positive_at _ _ (sym (lead-rotate b d a o)) l) za zb td)
  cases l (above ta) (zero_at zb) (zero_at zd) =
      from_twice _ ab_a ab_b bd_b bd_d da_d da_a (two_sides (around_rotate (around_rotate r)) (twice_over x t) (twice_over y t') (ends_rotate (ends_rotate e)) (positive_at _ _ (lead-rotate a b d o) l) zb zd ta)
  cases l (zero_at za) (zero_at zb) (zero_at zd) = absurd (none_left za zb zd)

  pub cone_change : Law
  cone_change = by_lt_z (pos 0) (lead_of a b d o) (λ l. cases l (at _) (at _) (at _)) (λ low. out (λ z. clash _ z.3 low))

pub front_corner : FrontCornerLaw
front_corner c c' o q q' a b d k n m n' m' before after ab_a ab_b bd_b bd_d da_d da_a ow qw qw' apart apart' area_up free f_ab f_bd f_da f_lead near f_ab' f_bd' f_da' f_lead' near' t t' e =
    cone_change
    record {
      ow = ow;
      area_up = area_up;
      ab = λ z. (leans_off c o q a b d k ow qw apart area_up f_ab z, leans_off c' o q' a b d k ow qw' apart' area_up f_ab' z);
      bd = λ z. (leans_off c o q b d a k ow qw apart up_bd f_bd z, leans_off c' o q' b d a k ow qw' apart' up_bd f_bd' z);
      da = λ z. (leans_off c o q d a b k ow qw apart up_da f_da z, leans_off c' o q' d a b k ow qw' apart' up_da f_da' z);
    }
    (let w = near_law c o q a b d k n m ow qw apart area_up free f_ab f_bd f_da f_lead near in tally_of w.0 w.1 t)
    (let w = near_law c' o q' a b d k n' m' ow qw' apart' area_up free f_ab' f_bd' f_da' f_lead' near' in tally_of w.0 w.1 t')
    e
  where
    up_bd : pos 0 <ℤ area_of b d a
    up_bd = positive_at _ _ (sym (area-rotate b d a)) area_up

    up_da : pos 0 <ℤ area_of d a b
    up_da = positive_at _ _ (area-rotate a b d) area_up
