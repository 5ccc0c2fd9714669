-- The corner numbers of triangles.
use Rattle.std.specs.Prelude.{ℕ, ◌<◌}
use Rattle.lattice.specs.declared.soup.Tri.{Tri}

-- the three corner numbers are below n
pub record IsBelow (n : ℕ) (t : Tri) : Type 0 where
  pub a : t.a < n
  pub b : t.b < n
  pub c : t.c < n
