use Rattle.std.proofs.Common.{inl, inr}
use Rattle.solid_mesh.proofs.beside.is_beside.Goals as goal

pub returns-then-is_end : goal.returns-then-is_end
returns-then-is_end c t = inl (c.is_end.ensures.0 c.if-is_end.true, c.leaves.ensures t)

pub returns : goal.returns
returns c t = inr (c.passes_round.ensures t)
