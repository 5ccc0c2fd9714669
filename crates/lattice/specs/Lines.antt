-- What is on a line of a view, when two lines are one, and when two spots are the ends of a strip.
use Rattle.std.specs.Prelude.{◌≡◌, ℤ, ◌<◌, ◌+ℤ◌, ◌*ℤ◌, unsigned_abs}
use Rattle.lattice.specs.declared.lines.Line.{Line}
use Rattle.lattice.specs.declared.points.Spot.{Spot}
use Rattle.lattice.specs.declared.points.Dir.{Dir}
use Rattle.lattice.specs.Triple.{Triple}
use Rattle.lattice.specs.Points.{Point, of_dir, of_spot, across_of, upward_of, OnOneSight}

-- the point is seen on the line: a U + b V = c
abbrev pub IsOnLine : Triple → Line → Point → Type 0
IsOnLine d l p = (l.a *ℤ across_of d p) +ℤ (l.b *ℤ upward_of d p) ≡ l.c *ℤ p.w

-- the very same numbers; in lowest terms a line has no others
pub record IsSameLine (l m : Line) : Type 0 where
  pub a : l.a ≡ m.a
  pub b : l.b ≡ m.b
  pub c : l.c ≡ m.c

-- the line is x U + y V = z: these are its numbers, each times one number that isn't 0
pub record IsLineOf (l : Line) (x y z : ℤ) : Type 0 where
  pub n : ℤ
  pub somewhere : 0 < unsigned_abs n
  pub a : x ≡ l.a *ℤ n
  pub b : y ≡ l.b *ℤ n
  pub c : z ≡ l.c *ℤ n

-- both spots are seen on the line, and not at one place
pub record AreStripEnds (d : Triple) (l : Line) (a b : Spot) : Type 0 where
  pub first : IsOnLine d l (of_spot a)
  pub second : IsOnLine d l (of_spot b)
  pub apart : ¬ OnOneSight d (of_spot a) (of_spot b)

-- they are so from some direction, since a strip has none of its own
abbrev pub AreStripEndsInSomeView : Line → Spot → Spot → Type 0
AreStripEndsInSomeView l a b = (d : Dir) × AreStripEnds (of_dir d) l a b
