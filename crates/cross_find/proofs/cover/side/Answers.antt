use Rattle.std.proofs.Common.{◌∙◌}
use Rattle.lattice.specs.Points.{of_dir}
use Rattle.hiding_laws.proofs.CornerValues.{side_at}
use Rattle.cross_find.proofs.Passed.{passed}
use Rattle.cross_find.proofs.cover.side.Goals as goal

pub returns-clause-value : goal.returns-clause-value
returns-clause-value c = passed c.orientation_of.result c.orientation_of.ensures.size ∙ c.orientation_of.ensures.value ∙ side_at (of_dir c.args.d.now) c.args.k.now c.args.l.now c.args.p.now
