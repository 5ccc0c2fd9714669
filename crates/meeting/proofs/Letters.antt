-- A triangle, an edge and a direction as expressions for `ring`.
use Rattle.std.proofs.Common.{List, ◌∷◌}
use Rattle.std.specs.Prelude.{ℤ}
use Rattle.integers.proofs.Ring.{Expr}
use Rattle.lattice.specs.declared.points.Corner.{Corner}
use Rattle.lattice.specs.Triple.{Triple}
use Rattle.lattice.proofs.PointLetters.{ways, normals}
use Rattle.lattice.proofs.Vectors.{Letters, letters, dots}

-- the direction, the triangle's corners and the edge's
abbrev pub D : Letters
D = letters 0

abbrev pub A : Letters
A = letters 3

abbrev pub B : Letters
B = letters 6

abbrev pub C : Letters
C = letters 9

abbrev pub P : Letters
P = letters 12

abbrev pub Q : Letters
Q = letters 15

abbrev pub heights : Letters → Letters → Letters → Letters → Expr
heights a b c p = dots (ways a p) (normals a b c)

abbrev pub facings : Letters → Letters → Letters → Expr
facings a b c = dots D (normals a b c)

abbrev pub values : Triple → Corner → Corner → Corner → Corner → Corner → List ℤ → List ℤ
values d a b c p q more = d.x ∷ d.y ∷ d.z ∷ a.x ∷ a.y ∷ a.z ∷ b.x ∷ b.y ∷ b.z ∷ c.x ∷ c.y ∷ c.z ∷ p.x ∷ p.y ∷ p.z ∷ q.x ∷ q.y ∷ q.z ∷ more
