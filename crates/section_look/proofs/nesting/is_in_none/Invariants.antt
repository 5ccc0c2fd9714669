use Rattle.std.proofs.Common.{take}
use Rattle.std.specs.List.{All}
use Rattle.lattice.specs.Points.{of_dir}
use Rattle.section_look.specs.Regions.{IsIn}
use Rattle.section_look.proofs.nesting.is_in_none.Given as goal

-- it is in none so far
abbrev pub invariant-loop-other : goal.invariant-loop-other
invariant-loop-other l = All (λ other. ¬ IsIn (of_dir l.d) l.inner other.items) (take l.other-index l.others)
