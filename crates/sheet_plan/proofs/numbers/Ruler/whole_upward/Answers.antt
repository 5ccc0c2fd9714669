use Rattle.std.proofs.Common.{pos, ◌<ℤ◌, sym, subst}
use Rattle.lattice.specs.Points.{of_dir}
use Rattle.lattice.specs.Triple.{Triple, dot}
use Rattle.sheet_plan.proofs.Axes.{up_axis-square}
use Rattle.sheet_plan.proofs.numbers.Ruler.whole_upward.Goals as goal

pub square-requires-clause-somewhere : goal.square-requires-clause-somewhere
square-requires-clause-somewhere c = let P : Triple → Type 0 = λ r. pos 0 <ℤ dot r r in subst P (sym c.up.ensures.axis) (up_axis-square (of_dir c.args.d.now) c.args.d.now.not_zero)
