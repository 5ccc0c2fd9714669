-- What the crate's ways and sides stand for.
use Rattle.std.specs.Prelude.{◌≡◌, ℤ, ◌-ℤ◌, ◌*ℤ◌, Bool, true, false}
use Rattle.geometry.specs.Counts.{Side, to_left, to_right}
use Rattle.geometry.specs.Turns as turns
use Rattle.hiding_laws.specs.inner.Tallies.{IsTally}
use Rattle.cross_find.specs.declared.ways.Way.{Way}

abbrev pub way_of : Way → turns.Way
way_of w = record { u = w.u; v = w.v }

-- the left side, or the right
abbrev pub side_of : Bool → Side
side_of true = to_left
side_of false = to_right

-- the turn times the difference of two tallies, of the first statement and of the second
pub record IsShare (turn : ℤ) (P Q : Type 0) (z : ℤ) : Type 0 where
  pub first : ℤ
  pub second : ℤ
  pub passes_first : IsTally P first
  pub passes_second : IsTally Q second
  pub is : z ≡ turn *ℤ (second -ℤ first)
