use Rattle.std.proofs.Common.{arith}
use Rattle.std.proofs.lemmas.Grind.{common_steps}
use Rattle.lattice.specs.Points.{of_dir, of_spot}
use Rattle.lattice.proofs.Vectors.{dot_itself}
use Rattle.lattice.proofs.SightLines.{along_by_sight}
use Rattle.lattice.proofs.products.same_sight.Goals as goal

pub returns-then-eq-clause-along : goal.returns-then-eq-clause-along
returns-then-eq-clause-along c =
    along_by_sight (of_dir c.args.d.now) (of_spot c.args.p.now) (of_spot c.args.q.now) (dot_itself (of_dir c.args.d.now) c.args.d.now.not_zero) (grind (arith, common_steps))

pub returns-else-eq-clause-along : goal.returns-else-eq-clause-along
returns-else-eq-clause-along c =
    along_by_sight (of_dir c.args.d.now) (of_spot c.args.p.now) (of_spot c.args.q.now) (dot_itself (of_dir c.args.d.now) c.args.d.now.not_zero) (grind (arith, common_steps))
