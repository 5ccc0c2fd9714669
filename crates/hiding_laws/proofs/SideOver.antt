-- A side that has a spot on a line of sight, from the face's own weights there.
use Rattle.std.proofs.Common.{◌≡◌, refl}
use Rattle.std.specs.Prelude.{pos, ◌+ℤ◌, ◌-ℤ◌, ◌*ℤ◌, ◌≤ℤ◌, ◌<ℤ◌}
use Rattle.integers.proofs.Comparisons.{positive_at}
use Rattle.hiding_laws.proofs.ScreenLetters.{A, B, C, P, area, turn, weighed, values}
use Rattle.hiding_laws.proofs.Screens.{lead_of, Screen, area_of, turn_of, SideCovers}
use Rattle.integers.proofs.Ring.{◌⊕◌, ◌⊖◌, ◌⊗◌, con, ring, by_one, less_by}
use Rattle.integers.proofs.Signs.{mul_pos}

pub side_over : (a b c p : Screen) → pos 0 <ℤ p.w → pos 0 <ℤ area_of a b c → turn_of p a b ≡ pos 0 → pos 0 ≤ℤ turn_of p b c → pos 0 ≤ℤ turn_of p c a → pos 0 <ℤ lead_of a b c p → SideCovers a b p
side_over a b c p w area_up e i_least j_least lead =
    let i = turn P B C in let j = turn P C A in let k = turn P A B in
    let zero = con (pos 0) in
    let none = values a b c p (pos 0) (pos 0) (pos 0) in
    record {
      i = turn_of p b c;
      j = turn_of p c a;
      i_least = i_least;
      j_least = j_least;
      some = positive_at _ _ (by_one (turn_of p b c +ℤ turn_of p c a) (p.w *ℤ area_of a b c) _ _ (pos 0 -ℤ pos 1) (ring none ((i ⊕ j) ⊖ (P.w ⊗ area A B C)) ((k ⊖ zero) ⊗ (zero ⊖ con (pos 1))) refl) e) (mul_pos p.w (area_of a b c) w area_up);
      same_u = by_one _ _ _ _ (p.u -ℤ (c.u *ℤ p.w)) (ring none ((((i ⊗ A.u) ⊕ (j ⊗ B.u)) ⊗ P.w) ⊖ (P.u ⊗ (i ⊕ j))) ((k ⊖ zero) ⊗ (P.u ⊖ (C.u ⊗ P.w))) refl) e;
      same_v = by_one _ _ _ _ (p.v -ℤ (c.v *ℤ p.w)) (ring none ((((i ⊗ A.v) ⊕ (j ⊗ B.v)) ⊗ P.w) ⊖ (P.v ⊗ (i ⊕ j))) ((k ⊖ zero) ⊗ (P.v ⊖ (C.v ⊗ P.w))) refl) e;
      nearer = less_by _ _ _
          (by_one ((((turn_of p b c *ℤ a.h) +ℤ (turn_of p c a *ℤ b.h)) *ℤ p.w) -ℤ (p.h *ℤ (turn_of p b c +ℤ turn_of p c a))) (p.w *ℤ lead_of a b c p) _ _ (p.h -ℤ (c.h *ℤ p.w))
          (ring none (((((i ⊗ A.h) ⊕ (j ⊗ B.h)) ⊗ P.w) ⊖ (P.h ⊗ (i ⊕ j))) ⊖ (P.w ⊗ (weighed i j k A.h B.h C.h ⊖ (P.h ⊗ area A B C)))) ((k ⊖ zero) ⊗ (P.h ⊖ (C.h ⊗ P.w))) refl) e)
          (mul_pos p.w (lead_of a b c p) w lead);
    }
