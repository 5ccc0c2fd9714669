-- Where a border crosses an edge, in the code's terms.
use Rattle.std.specs.Prelude.{◌≡◌, ◌≢◌, ◌⊎◌, ℤ, pos, ◌+ℤ◌, ◌-ℤ◌, ◌*ℤ◌, ◌≤ℤ◌}
use Rattle.lattice.specs.declared.lines.Line.{Line}
use Rattle.lattice.specs.Triple.{Triple}
use Rattle.lattice.specs.Points.{Point, across_of, upward_of}

-- what a U + b V is worth at the point beyond c, times w: 0 on the line
abbrev pub line_value : Triple → Line → Point → ℤ
line_value d l p = ((l.a *ℤ across_of d p) +ℤ (l.b *ℤ upward_of d p)) -ℤ (l.c *ℤ p.w)

-- k / l is from n / m to n' / m', in one order or the other
abbrev pub IsAmid : ℤ → ℤ → ℤ → ℤ → ℤ → ℤ → Type 0
IsAmid n m n' m' k l = (((n *ℤ l) ≤ℤ (k *ℤ m)) × ((k *ℤ m') ≤ℤ (n' *ℤ l))) ⊎ (((n' *ℤ l) ≤ℤ (k *ℤ m')) × ((k *ℤ m) ≤ℤ (n *ℤ l)))

-- the U of r is from that of p to that of q, and so is its V
pub record IsSeenBetween (d : Triple) (p q r : Point) : Type 0 where
  pub across : IsAmid (across_of d p) p.w (across_of d q) q.w (across_of d r) r.w
  pub upward : IsAmid (upward_of d p) p.w (upward_of d q) q.w (upward_of d r) r.w

-- n / m is where a value that is linear along an edge, x at 0 and y at 1, changes its sign
pub record IsRootOf (x y n m : ℤ) : Type 0 where
  pub root : ((m -ℤ n) *ℤ x) +ℤ (n *ℤ y) ≡ pos 0
  pub changes : x ≢ y
