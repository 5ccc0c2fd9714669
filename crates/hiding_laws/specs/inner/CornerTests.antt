-- When an outline is strictly nearer over a corner, by the signs of numbers.
use Rattle.std.specs.Prelude.{◌≡◌, ◌≢◌, ℕ, ℤ, pos, ◌+ℤ◌, ◌-ℤ◌, ◌*ℤ◌, ◌≤ℤ◌, ◌<ℤ◌}
use Rattle.lattice.specs.declared.points.Corner.{Corner}
use Rattle.lattice.specs.Triple.{Triple}
use Rattle.lattice.specs.Points.{point_of, height_of}
use Rattle.geometry.specs.Parts.{Part, Edge}
use Rattle.geometry.specs.Turns.{Way, turn_from, product_of, way_to}

-- the line between two points, which is not seen end-on, is strictly nearer over a corner; v and w are the ways from there to the two, f and g how much nearer they are
pub record PassesBetween (v w : Way) (f g : ℤ) : Type 0 where
  pub on_line : turn_from v w ≡ pos 0
  pub between : product_of v w ≤ℤ pos 0
  pub nearer : pos 0 <ℤ (((product_of w w -ℤ product_of v w) *ℤ f) +ℤ ((product_of v v -ℤ product_of v w) *ℤ g))

-- how much nearer q is than p
abbrev pub rise_to : Triple → Corner → Corner → ℤ
rise_to d p q = height_of d (point_of q) -ℤ height_of d (point_of p)

-- the outline does not have the corner c with this number, is not seen end-on, and is strictly nearer over it
pub record IsOver (d : Triple) (number : ℕ) (c : Corner) {s : Part} (o : Edge s) : Type 0 where
  pub not_first : o.m ≢ number
  pub not_second : o.n ≢ number
  pub between : PassesBetween (way_to d c o.a) (way_to d c o.b) (rise_to d c o.a) (rise_to d c o.b)
