use Rattle.std.proofs.Common.{arith}
use Rattle.solid_mesh.proofs.Facts.{few_edges, edges_are}
use Rattle.solid_mesh.proofs.solid.Solid.edges.Goals as goal

pub overflow_cast-result : goal.overflow_cast-result
overflow_cast-result c = omega (arith, few_edges c.args.self.now, c.args.self.now.lower_halves.ok.0)

pub returns-clause-numbered : goal.returns-clause-numbered
returns-clause-numbered c = edges_are c.args.self.now
