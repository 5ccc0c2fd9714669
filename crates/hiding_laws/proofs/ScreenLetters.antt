-- Three corners, a point and weights on a screen, as expressions for `ring`.
use Rattle.std.proofs.Common.{List, [], ◌∷◌}
use Rattle.std.specs.Prelude.{ℤ, pos}
use Rattle.integers.proofs.Ring.{Expr, var, con, ◌⊕◌, ◌⊖◌, ◌⊗◌}
use Rattle.hiding_laws.proofs.Screens.{Screen}

pub record ScreenPoint : Type 0 where
  pub u : Expr
  pub v : Expr
  pub h : Expr
  pub w : Expr

abbrev pub A : ScreenPoint
A = record { u = var 0; v = var 1; h = var 2; w = con (pos 1) }

abbrev pub B : ScreenPoint
B = record { u = var 3; v = var 4; h = var 5; w = con (pos 1) }

abbrev pub C : ScreenPoint
C = record { u = var 6; v = var 7; h = var 8; w = con (pos 1) }

abbrev pub P : ScreenPoint
P = record { u = var 9; v = var 10; h = var 11; w = var 12 }

abbrev pub I : Expr
I = var 13

abbrev pub J : Expr
J = var 14

abbrev pub K : Expr
K = var 15

abbrev pub area : ScreenPoint → ScreenPoint → ScreenPoint → Expr
area a b c = ((b.u ⊖ a.u) ⊗ (c.v ⊖ a.v)) ⊖ ((b.v ⊖ a.v) ⊗ (c.u ⊖ a.u))

abbrev pub turn : ScreenPoint → ScreenPoint → ScreenPoint → Expr
turn p b c = ((p.u ⊗ (b.v ⊖ c.v)) ⊖ (p.v ⊗ (b.u ⊖ c.u))) ⊕ (p.w ⊗ ((b.u ⊗ c.v) ⊖ (c.u ⊗ b.v)))

abbrev pub weighed : Expr → Expr → Expr → Expr → Expr → Expr → Expr
weighed i j k x y z = ((i ⊗ x) ⊕ (j ⊗ y)) ⊕ (k ⊗ z)

abbrev pub values : Screen → Screen → Screen → Screen → ℤ → ℤ → ℤ → List ℤ
values a b c p i j k = a.u ∷ a.v ∷ a.h ∷ b.u ∷ b.v ∷ b.h ∷ c.u ∷ c.v ∷ c.h ∷ p.u ∷ p.v ∷ p.h ∷ p.w ∷ i ∷ j ∷ k ∷ []

-- by how much the three weights fall
abbrev pub X : Expr
X = var 16

abbrev pub Y : Expr
Y = var 17

abbrev pub Z : Expr
Z = var 18

abbrev pub values_falling : Screen → Screen → Screen → Screen → ℤ → ℤ → ℤ → ℤ → ℤ → ℤ → List ℤ
values_falling a b c p i j k x y z = a.u ∷ a.v ∷ a.h ∷ b.u ∷ b.v ∷ b.h ∷ c.u ∷ c.v ∷ c.h ∷ p.u ∷ p.v ∷ p.h ∷ p.w ∷ i ∷ j ∷ k ∷ x ∷ y ∷ z ∷ []
