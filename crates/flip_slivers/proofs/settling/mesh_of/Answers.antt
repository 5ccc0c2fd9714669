use Rattle.flip_slivers.proofs.SettlingLemmas.{start_laid}
use Rattle.flip_slivers.proofs.settling.mesh_of.Goals as goal

pub returns-clause-laid : goal.returns-clause-laid
returns-clause-laid c =
    start_laid c.args.corners.now c.args.triangles.now c.in_ok-start_of.field-0.items c.in_ok-measure_all.field-0.items c.in_ok-list_all.field-0.items c.in_ok-start_of.ensures c.in_ok-list_all.ensures.count
    c.in_ok-measure_all.ensures c.in_ok-list_all.ensures.listed c.requires.in_range
