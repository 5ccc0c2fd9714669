use Rattle.std.proofs.Common.{take}
use Rattle.std.specs.List.{AllZip}
use Rattle.lattice.specs.Cuts.{plane_of}
use Rattle.section_look.specs.Spacings.{IsHatched}
use Rattle.section_look.proofs.spacings.are_hatched.Given as goal

-- all so far are
abbrev pub invariant-loop-k : goal.invariant-loop-k
invariant-loop-k l = AllZip (IsHatched (plane_of l.cut) l.spacing) (take l.k l.regions) (take l.k l.marks)
