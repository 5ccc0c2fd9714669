-- The ends of an edge, three corners and a place on a screen, as expressions for `ring`.
use Rattle.std.proofs.Common.{List, [], ◌∷◌}
use Rattle.std.specs.Prelude.{ℤ, pos}
use Rattle.hiding_laws.proofs.Screens.{Screen}
use Rattle.hiding_laws.proofs.ScreenLetters.{ScreenPoint, area, turn}
use Rattle.integers.proofs.Ring.{Expr, var, con, ◌⊕◌, ◌⊖◌, ◌⊗◌}

abbrev pub One : Expr
One = con (pos 1)

abbrev pub Zero : Expr
Zero = con (pos 0)

abbrev pub P : ScreenPoint
P = record { u = var 0; v = var 1; h = var 10; w = One }

abbrev pub Q : ScreenPoint
Q = record { u = var 2; v = var 3; h = var 11; w = One }

abbrev pub A : ScreenPoint
A = record { u = var 4; v = var 5; h = var 12; w = One }

abbrev pub B : ScreenPoint
B = record { u = var 6; v = var 7; h = var 13; w = One }

abbrev pub C : ScreenPoint
C = record { u = var 8; v = var 9; h = var 14; w = One }

-- a place of the edge, where no height is needed
abbrev pub N : Expr
N = var 10

abbrev pub M : Expr
M = var 11

abbrev pub flat_values : Screen → Screen → Screen → Screen → Screen → ℤ → ℤ → List ℤ
flat_values p q a b c n m = p.u ∷ p.v ∷ q.u ∷ q.v ∷ a.u ∷ a.v ∷ b.u ∷ b.v ∷ c.u ∷ c.v ∷ n ∷ m ∷ []

abbrev pub values : Screen → Screen → Screen → Screen → Screen → List ℤ
values p q a b c = p.u ∷ p.v ∷ q.u ∷ q.v ∷ a.u ∷ a.v ∷ b.u ∷ b.v ∷ c.u ∷ c.v ∷ p.h ∷ q.h ∷ a.h ∷ b.h ∷ c.h ∷ []

abbrev pub lead : ScreenPoint → ScreenPoint → ScreenPoint → ScreenPoint → Expr
lead a b c p = (((turn p b c ⊗ a.h) ⊕ (turn p c a ⊗ b.h)) ⊕ (turn p a b ⊗ c.h)) ⊖ (p.h ⊗ area a b c)

abbrev pub numerator : ScreenPoint → ScreenPoint → ScreenPoint → Expr
numerator p a b = ((a.u ⊖ p.u) ⊗ (b.v ⊖ a.v)) ⊖ ((a.v ⊖ p.v) ⊗ (b.u ⊖ a.u))

abbrev pub denominator : ScreenPoint → ScreenPoint → ScreenPoint → ScreenPoint → Expr
denominator p q a b = ((q.u ⊖ p.u) ⊗ (b.v ⊖ a.v)) ⊖ ((q.v ⊖ p.v) ⊗ (b.u ⊖ a.u))

abbrev pub depth : ScreenPoint → ScreenPoint → ScreenPoint → ScreenPoint → Expr
depth p q a b =
    ((((q.v ⊖ p.v) ⊗ (b.h ⊖ a.h)) ⊖ ((q.h ⊖ p.h) ⊗ (b.v ⊖ a.v))) ⊗ (a.u ⊖ p.u)
    ⊕ ((((q.h ⊖ p.h) ⊗ (b.u ⊖ a.u)) ⊖ ((q.u ⊖ p.u) ⊗ (b.h ⊖ a.h))) ⊗ (a.v ⊖ p.v)))
    ⊕ ((((q.u ⊖ p.u) ⊗ (b.v ⊖ a.v)) ⊖ ((q.v ⊖ p.v) ⊗ (b.u ⊖ a.u))) ⊗ (a.h ⊖ p.h))

abbrev pub at : Expr → Expr → Expr
at f g = ((M ⊖ N) ⊗ f) ⊕ (N ⊗ g)
