use Rattle.flip_slivers.proofs.queue.faces_across.Goals as goal

pub returns : goal.returns
returns c j _ there = c.is_triangle.ensures j there
