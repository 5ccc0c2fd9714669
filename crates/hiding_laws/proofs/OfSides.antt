-- What a side of a triangle covers, the triangle covers.
use Rattle.std.proofs.Common.{refl, ◌∙◌, arith}
use Rattle.std.specs.Prelude.{pos}
use Rattle.std.proofs.lemmas.Int.{ints}
use Rattle.integers.proofs.Comparisons.{positive_at}
use Rattle.integers.proofs.Ring.{con, ◌⊕◌, ◌⊖◌, ◌⊗◌, ring, less_by, gap_of_less}
use Rattle.hiding_laws.proofs.ScreenLetters.{A, B, C, P, I, J, weighed, values}
use Rattle.hiding_laws.proofs.Screens.{Screen, Covers, SideCovers}

pub of_ab : (a b c p : Screen) → SideCovers a b p → Covers a b c p
of_ab a b c p q =
    let here = values a b c p q.i q.j (pos 0) in
    let O = con (pos 0) in
    record {
      i = q.i;
      j = q.j;
      k = pos 0;
      i_least = q.i_least;
      j_least = q.j_least;
      k_least = omega (arith, ints);
      some = positive_at _ _ (ring here ((I ⊕ J) ⊕ O) (I ⊕ J) refl) q.some;
      same_u = ring here (weighed I J O A.u B.u C.u ⊗ P.w) (((I ⊗ A.u) ⊕ (J ⊗ B.u)) ⊗ P.w) refl ∙ q.same_u ∙ ring here (P.u ⊗ (I ⊕ J)) (P.u ⊗ ((I ⊕ J) ⊕ O)) refl;
      same_v = ring here (weighed I J O A.v B.v C.v ⊗ P.w) (((I ⊗ A.v) ⊕ (J ⊗ B.v)) ⊗ P.w) refl ∙ q.same_v ∙ ring here (P.v ⊗ (I ⊕ J)) (P.v ⊗ ((I ⊕ J) ⊕ O)) refl;
      nearer = less_by _ _ _
          (ring here ((weighed I J O A.h B.h C.h ⊗ P.w) ⊖ (P.h ⊗ ((I ⊕ J) ⊕ O))) ((((I ⊗ A.h) ⊕ (J ⊗ B.h)) ⊗ P.w) ⊖ (P.h ⊗ (I ⊕ J))) refl)
          (gap_of_less _ _ q.nearer);
    }
