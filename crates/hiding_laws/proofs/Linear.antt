-- What is linear in a point goes evenly along an edge.
use Rattle.std.proofs.Common.{◌≡◌, [], ◌∷◌, refl, sym, ◌∙◌}
use Rattle.std.specs.Prelude.{ℤ, pos}
use Rattle.integers.proofs.Ring.{Expr, var, con, ◌⊕◌, ◌⊖◌, ◌⊗◌, ring}
use Rattle.hiding_laws.proofs.Screens.{Screen, turn_of, lead_of}
use Rattle.hiding_laws.specs.Values.{value_at}
use Rattle.hiding_laws.proofs.Places.{place_of}

-- what is linear in a spot goes evenly along an edge
pub turn-place : (e f b c : Screen) (n m : ℤ) → e.w ≡ pos 1 → f.w ≡ pos 1 → turn_of (place_of e f n m) b c ≡ value_at (turn_of e b c) (turn_of f b c) n m
turn-place e f b c n m ew fw =
    ring (e.u ∷ e.v ∷ f.u ∷ f.v ∷ b.u ∷ b.v ∷ c.u ∷ c.v ∷ n ∷ m ∷ []) (turn (mix (var 0) (var 2)) (mix (var 1) (var 3)) M) (mix (turn (var 0) (var 1) (con (pos 1))) (turn (var 2) (var 3) (con (pos 1)))) refl
    ∙ (λ t. value_at (turn_of record { u = e.u; v = e.v; h = e.h; w = sym ew t } b c) (turn_of record { u = f.u; v = f.v; h = f.h; w = sym fw t } b c) n m)
  where
    N : Expr
    N = var 8

    M : Expr
    M = var 9

    mix : Expr → Expr → Expr
    mix x y = ((M ⊖ N) ⊗ x) ⊕ (N ⊗ y)

    turn : Expr → Expr → Expr → Expr
    turn u v w = ((u ⊗ (var 5 ⊖ var 7)) ⊖ (v ⊗ (var 4 ⊖ var 6))) ⊕ (w ⊗ ((var 4 ⊗ var 7) ⊖ (var 6 ⊗ var 5)))

pub lead-place : (e f a b c : Screen) (n m : ℤ) → e.w ≡ pos 1 → f.w ≡ pos 1 → lead_of a b c (place_of e f n m) ≡ value_at (lead_of a b c e) (lead_of a b c f) n m
lead-place e f a b c n m ew fw =
    ring (e.u ∷ e.v ∷ f.u ∷ f.v ∷ n ∷ m ∷ e.h ∷ f.h ∷ a.u ∷ a.v ∷ a.h ∷ b.u ∷ b.v ∷ b.h ∷ c.u ∷ c.v ∷ c.h ∷ [])
    (lead (mix (var 0) (var 2)) (mix (var 1) (var 3)) (mix (var 6) (var 7)) M)
    (mix (lead (var 0) (var 1) (var 6) (con (pos 1))) (lead (var 2) (var 3) (var 7) (con (pos 1)))) refl
    ∙ (λ t. value_at (lead_of a b c record { u = e.u; v = e.v; h = e.h; w = sym ew t }) (lead_of a b c record { u = f.u; v = f.v; h = f.h; w = sym fw t }) n m)
  where
    N : Expr
    N = var 4

    M : Expr
    M = var 5

    mix : Expr → Expr → Expr
    mix x y = ((M ⊖ N) ⊗ x) ⊕ (N ⊗ y)

    turn : Expr → Expr → Expr → Expr → Expr → Expr → Expr → Expr
    turn u v w bu bv cu cv = ((u ⊗ (bv ⊖ cv)) ⊖ (v ⊗ (bu ⊖ cu))) ⊕ (w ⊗ ((bu ⊗ cv) ⊖ (cu ⊗ bv)))

    area : Expr
    area = ((var 11 ⊖ var 8) ⊗ (var 15 ⊖ var 9)) ⊖ ((var 12 ⊖ var 9) ⊗ (var 14 ⊖ var 8))

    lead : Expr → Expr → Expr → Expr → Expr
    lead u v h w =
        (((turn u v w (var 11) (var 12) (var 14) (var 15) ⊗ var 10) ⊕ (turn u v w (var 14) (var 15) (var 8) (var 9) ⊗ var 13)) ⊕ (turn u v w (var 8) (var 9) (var 11) (var 12) ⊗ var 16))
        ⊖ (h ⊗ area)
