use Rattle.lattice.specs.Points.{of_dir}
use Rattle.section_look.specs.Regions.{AreRegionsUntil, lists_of}
use Rattle.section_look.proofs.regions.regions_of.Given as goal

abbrev pub invariant-loop-k : goal.invariant-loop-k
invariant-loop-k l = AreRegionsUntil (of_dir l.d) (lists_of l.loops) l.k l.regions.items
