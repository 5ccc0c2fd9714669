use Rattle.cross_find.proofs.Passed.{difference_passed}
use Rattle.cross_find.proofs.cross.lines.Goals as goal

pub returns-clause-denominator : goal.returns-clause-denominator
returns-clause-denominator c = let x = c.args.sides.now in difference_passed x.to x.from x.to_small x.from_small
