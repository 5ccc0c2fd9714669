use Rattle.flip_slivers.proofs.MeasureLemmas.{MeasuresFirst}
use Rattle.flip_slivers.proofs.measures.measure_all.Given as goal

abbrev pub invariant-loop-t : goal.invariant-loop-t
invariant-loop-t l = MeasuresFirst l.corners l.triangles l.t-index l.measures.items
