use Rattle.section_look.specs.Regions.{lists_of}
use Rattle.section_look.proofs.LoopPlaces.{AreTaken}
use Rattle.section_look.proofs.loops.loops_of.Given as goal

abbrev pub invariant-loop-k : goal.invariant-loop-k
invariant-loop-k l = AreTaken l.section.segments.items l.section.loops.items l.k (lists_of l.loops.items)
