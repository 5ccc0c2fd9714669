use Rattle.std.proofs.Common.{pos, ◌<ℤ◌, sym, subst}
use Rattle.lattice.specs.Points.{of_dir}
use Rattle.lattice.specs.Triple.{Triple, dot}
use Rattle.sheet_plan.proofs.Axes.{right_axis-square}
use Rattle.sheet_plan.proofs.numbers.Ruler.whole_across.Goals as goal

pub square-requires-clause-somewhere : goal.square-requires-clause-somewhere
square-requires-clause-somewhere c = let P : Triple → Type 0 = λ r. pos 0 <ℤ dot r r in subst P (sym c.right.ensures.axis) (right_axis-square (of_dir c.args.d.now))
