-- What lies between two spots of a line is on the line.
use Rattle.std.proofs.Common.{ℕ, ◌+◌, ◌<◌}
use Rattle.std.specs.Prelude.{pos}
use Rattle.integers.proofs.Weighted.{sum_pos}
use Rattle.lattice.specs.Triple.{Triple}
use Rattle.lattice.specs.Points.{Point, IsPoint, of_spot}
use Rattle.lattice.specs.declared.lines.Line.{Line}
use Rattle.lattice.specs.declared.points.Spot.{Spot}
use Rattle.lattice.specs.Lines.{IsOnLine}
use Rattle.lattice.proofs.OnLines.{on_line_of_sight, on_line_of_sum}
use Rattle.geometry.specs.Pieces.{spot_sum, LiesBetween}

pub sum_is_point : (a b : Spot) (i j : ℕ) → 0 < i + j → IsPoint (spot_sum a b i j)
sum_is_point a b i j some = sum_pos a.w b.w i j a.positive b.positive some

pub on_line_between : (d : Triple) (l : Line) (a b : Spot) (p : Point) → IsOnLine d l (of_spot a) → IsOnLine d l (of_spot b) → LiesBetween d a b p → IsOnLine d l p
on_line_between d l a b p first second (i, j, some, same) =
    on_line_of_sight d l (spot_sum a b i j) p (sum_is_point a b i j some) same (on_line_of_sum d l (pos i) (pos j) (of_spot a) (of_spot b) first second)
