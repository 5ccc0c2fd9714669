use Rattle.std.proofs.Common.{inr}
use Rattle.solid_mesh.proofs.beside.leaves.Goals as goal

pub returns : goal.returns
returns c h = inr (c.passes_by.ensures h)
