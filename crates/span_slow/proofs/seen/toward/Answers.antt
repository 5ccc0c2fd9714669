use Rattle.std.proofs.Common.{arith, subst}
use Rattle.std.specs.Prelude.{ℤ, pos, ◌<ℤ◌}
use Rattle.std.proofs.lemmas.Int.{ints}
use Rattle.lattice.specs.Points.{of_vector}
use Rattle.span_slow.proofs.Axes.{reversed_forward, reversed_level}
use Rattle.span_slow.proofs.seen.toward.Goals as goal

pub returns-then-along-lt0-clause-forward : goal.returns-then-along-lt0-clause-forward
returns-then-along-lt0-clause-forward c =
    let backward : c.dot-along.result <ℤ pos 0 = omega (arith, ints) in
    reversed_forward (of_vector c.reversed.result) (of_vector c.args.axis) c.reversed.ensures.value (of_vector c.args.way.now)
    (subst (λ (z : ℤ). z <ℤ pos 0) c.dot-along.ensures.value backward)

pub returns-then-along-lt0-clause-level : goal.returns-then-along-lt0-clause-level
returns-then-along-lt0-clause-level c t level = reversed_level (of_vector c.reversed.result) (of_vector c.args.axis) c.reversed.ensures.value t level
