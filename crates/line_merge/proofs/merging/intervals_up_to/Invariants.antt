use Rattle.std.proofs.Common.{take}
use Rattle.std.specs.List.{AllZip, filter}
use Rattle.lattice.specs.Points.{of_dir}
use Rattle.line_merge.specs.inner.Ends.{IsIntervalOf}
use Rattle.line_merge.specs.inner.Kinds.{is_up_to}
use Rattle.line_merge.proofs.merging.intervals_up_to.Given as goal

-- the intervals of the strips so far that are of these kinds
abbrev pub invariant-loop-x : goal.invariant-loop-x
invariant-loop-x l = AllZip (IsIntervalOf (of_dir l.d)) (filter (λ x. is_up_to l.last x.strip.kind) (take l.x-index l.numbered)) l.intervals.items
