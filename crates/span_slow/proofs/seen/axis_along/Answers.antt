use Rattle.std.proofs.Common.{◌≡◌, sym, subst}
use Rattle.std.specs.Prelude.{pos}
use Rattle.lattice.specs.Triple.{Triple, dot, right_axis}
use Rattle.lattice.specs.Points.{of_dir}
use Rattle.lattice.proofs.SightLines.{right_axis-is, up_axis-level}
use Rattle.lattice.proofs.VectorSizes.{wider}
use Rattle.span_slow.proofs.seen.axis_along.Goals as goal

pub returns-in-Some-clause-level : goal.returns-in-Some-clause-level
returns-in-Some-clause-level c =
    let d = of_dir c.args.d.now in
    c.in-Some.ensures.level d (subst (λ (r : Triple). dot r d ≡ pos 0) (sym c.right.ensures.axis) (right_axis-is d).level)

pub returns-in-Some-clause-small : goal.returns-in-Some-clause-small
returns-in-Some-clause-small c = c.in-Some.ensures.small 162 (wider _ c.right.ensures.size)

pub returns-in-Some-toward-clause-level : goal.returns-in-Some-toward-clause-level
returns-in-Some-toward-clause-level c =
    let d = of_dir c.args.d.now in
    c.in-Some-toward.ensures.level d (subst (λ (r : Triple). dot r d ≡ pos 0) (sym c.up.ensures.axis) (up_axis-level d (right_axis d)))

pub returns-in-Some-toward-clause-small : goal.returns-in-Some-toward-clause-small
returns-in-Some-toward-clause-small c = c.in-Some-toward.ensures.small 162 c.up.ensures.size
