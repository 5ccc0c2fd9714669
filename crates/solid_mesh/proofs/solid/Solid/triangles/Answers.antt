use Rattle.solid_mesh.proofs.Facts.{sound}
use Rattle.solid_mesh.proofs.solid.Solid.triangles.Goals as goal

pub returns-clause-sound : goal.returns-clause-sound
returns-clause-sound c = sound c.args.self.now
