-- A spot that a triangle covers at its own height is on the triangle.
use Rattle.std.proofs.Common.{◌≡◌, refl}
use Rattle.std.specs.Prelude.{pos, ◌≤ℤ◌, ◌<ℤ◌}
use Rattle.integers.proofs.Comparisons.{positive_at}
use Rattle.hiding_laws.proofs.ScreenLetters.{A, B, C, P, area, turn, weighed, values}
use Rattle.hiding_laws.proofs.Screens.{lead_of, Screen, area_of, turn_of}
use Rattle.integers.proofs.Ring.{◌⊕◌, ◌⊖◌, ◌⊗◌, con, ring, by_one}
use Rattle.integers.proofs.Signs.{mul_pos}
use Rattle.hiding_laws.proofs.Shares.{Touches}

pub touches : (a b c p : Screen) → pos 0 <ℤ p.w → pos 0 <ℤ area_of a b c
    → pos 0 ≤ℤ turn_of p b c → pos 0 ≤ℤ turn_of p c a → pos 0 ≤ℤ turn_of p a b → lead_of a b c p ≡ pos 0 → Touches a b c p
touches a b c p w area_up i_least j_least k_least level =
    let i = turn P B C in let j = turn P C A in let k = turn P A B in
    let s = (i ⊕ j) ⊕ k in
    let none = values a b c p (pos 0) (pos 0) (pos 0) in
    record {
      i = turn_of p b c;
      j = turn_of p c a;
      k = turn_of p a b;
      i_least = i_least;
      j_least = j_least;
      k_least = k_least;
      some = positive_at _ _ (ring none s (P.w ⊗ area A B C) refl) (mul_pos p.w (area_of a b c) w area_up);
      same_u = ring none (weighed i j k A.u B.u C.u ⊗ P.w) (P.u ⊗ s) refl;
      same_v = ring none (weighed i j k A.v B.v C.v ⊗ P.w) (P.v ⊗ s) refl;
      same_h = by_one _ _ _ _ p.w
          (ring none ((weighed i j k A.h B.h C.h ⊗ P.w) ⊖ (P.h ⊗ s)) (((weighed i j k A.h B.h C.h ⊖ (P.h ⊗ area A B C)) ⊖ con (pos 0)) ⊗ P.w) refl) level;
    }
