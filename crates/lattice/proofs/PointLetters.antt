-- Points, ways and normals as expressions for `ring`.
use Rattle.std.proofs.Common.{ℕ, suc}
use Rattle.std.specs.Prelude.{pos}
use Rattle.integers.proofs.Ring.{Expr, var, con, ◌⊖◌, ◌⊗◌}
use Rattle.lattice.proofs.Vectors.{Letters, crosses}

-- a point of expressions
pub record PointLetters : Type 0 where
  pub x : Expr
  pub y : Expr
  pub z : Expr
  pub w : Expr

-- four neighbouring values of the list, from place n on
abbrev pub point_letters : ℕ → PointLetters
point_letters n = record { x = var n; y = var (suc n); z = var (suc (suc n)); w = var (suc (suc (suc n))) }

-- a corner as a point
abbrev pub corner_letters : Letters → PointLetters
corner_letters a = record { x = a.x; y = a.y; z = a.z; w = con (pos 1) }

-- from one corner to another
abbrev pub ways : Letters → Letters → Letters
ways a b = record { x = b.x ⊖ a.x; y = b.y ⊖ a.y; z = b.z ⊖ a.z }

-- from a corner to a point
abbrev pub offsets : Letters → PointLetters → Letters
offsets a p = record { x = p.x ⊖ (p.w ⊗ a.x); y = p.y ⊖ (p.w ⊗ a.y); z = p.z ⊖ (p.w ⊗ a.z) }

abbrev pub normals : Letters → Letters → Letters → Letters
normals a b c = crosses (ways a b) (ways a c)
