-- Where both faces of an edge are edge-on, one of them reaches higher over each of its inner spots.
use Rattle.std.proofs.Common.{◌≡◌, inl, inr, List, [], ◌∷◌, refl}
use Rattle.std.specs.Prelude.{ℤ, pos, negsuc, ◌+ℤ◌, ◌-ℤ◌, ◌*ℤ◌, ◌<ℤ◌}
use Rattle.hiding_laws.proofs.Screens.{Screen, area_of, length_of}
use Rattle.integers.proofs.Ring.{Expr, var, con, ◌⊕◌, ◌⊖◌, ◌⊗◌, ring, by_one}
use Rattle.hiding_laws.proofs.Uprights.{Stands, foot_of, rise_of, UpperLaw}
use Rattle.hiding_laws.proofs.Signs.{up, sign_cases}
use Rattle.hiding_laws.proofs.Upright.{no_fold, higher_side}

-- an edge-on triangle stands up from its edge, or hangs down
data Stance (a b c : Screen) : Type 0 where
  stands : pos 0 <ℤ rise_of a b c → Stands a b c (length_of a b) (foot_of a b c) (pos 1) (rise_of a b c) → Stance a b c
  hangs : pos 0 <ℤ (pos 0 -ℤ rise_of a b c) → Stands a b c (length_of a b) (foot_of a b c) (negsuc 0) (pos 0 -ℤ rise_of a b c) → Stance a b c

module _ (a b c : Screen) (flat : area_of a b c ≡ pos 0) where
  abbrev here : List ℤ
  here = a.u ∷ a.v ∷ b.u ∷ b.v ∷ c.u ∷ c.v ∷ a.h ∷ b.h ∷ c.h ∷ []

  abbrev E : Expr
  E = var 2 ⊖ var 0

  abbrev F : Expr
  F = var 3 ⊖ var 1

  abbrev L : Expr
  L = (E ⊗ E) ⊕ (F ⊗ F)

  abbrev T : Expr
  T = (E ⊗ (var 4 ⊖ var 0)) ⊕ (F ⊗ (var 5 ⊖ var 1))

  abbrev flatness : Expr
  flatness = (E ⊗ (var 5 ⊖ var 1)) ⊖ (F ⊗ (var 4 ⊖ var 0))

  foot_u : length_of a b *ℤ c.u ≡ ((length_of a b -ℤ foot_of a b c) *ℤ a.u) +ℤ (foot_of a b c *ℤ b.u)
  foot_u = by_one _ _ _ _ (a.v -ℤ b.v) (ring here ((L ⊗ var 4) ⊖ (((L ⊖ T) ⊗ var 0) ⊕ (T ⊗ var 2))) ((flatness ⊖ con (pos 0)) ⊗ (var 1 ⊖ var 3)) refl) flat

  foot_v : length_of a b *ℤ c.v ≡ ((length_of a b -ℤ foot_of a b c) *ℤ a.v) +ℤ (foot_of a b c *ℤ b.v)
  foot_v = by_one _ _ _ _ (b.u -ℤ a.u) (ring here ((L ⊗ var 5) ⊖ (((L ⊖ T) ⊗ var 1) ⊕ (T ⊗ var 3))) ((flatness ⊖ con (pos 0)) ⊗ (var 2 ⊖ var 0)) refl) flat

  stance : ¬ (rise_of a b c ≡ pos 0) → Stance a b c
  stance n = elim (sign_cases _ n) [
    | inr h ↦ stands h record {
      same_u = foot_u;
      same_v = foot_v;
      height = ring here (L ⊗ var 8) ((((L ⊖ T) ⊗ var 6) ⊕ (T ⊗ var 7)) ⊕ (con (pos 1) ⊗ ((L ⊗ var 8) ⊖ (((L ⊖ T) ⊗ var 6) ⊕ (T ⊗ var 7))))) refl;
    }
    | inl h ↦ hangs (up _ h) record {
      same_u = foot_u;
      same_v = foot_v;
      height = ring here (L ⊗ var 8) ((((L ⊖ T) ⊗ var 6) ⊕ (T ⊗ var 7)) ⊕ (con (negsuc 0) ⊗ (con (pos 0) ⊖ ((L ⊗ var 8) ⊖ (((L ⊖ T) ⊗ var 6) ⊕ (T ⊗ var 7)))))) refl;
    }
  ]

pub upper : UpperLaw
upper a b c d i j aw cw dw long i_pos j_pos flat flat' rises rises' free free' = elim (stance a b c flat rises) [
  | stands h s ↦ elim (higher_side a b c _ _ _ i j long h i_pos j_pos s) [ inl x ↦ inl x | inr x ↦ inr (inl x) ]
  | hangs h s ↦ elim (stance a b d flat' rises') [
    | stands h' s' ↦ elim (higher_side a b d _ _ _ i j long h' i_pos j_pos s') [ inl x ↦ inr (inr (inl x)) | inr x ↦ inr (inr (inr x)) ]
    | hangs h' s' ↦ absurd (no_fold a b c d _ _ _ _ _ _ aw cw dw long h h' s s' free free')
  ]
]
