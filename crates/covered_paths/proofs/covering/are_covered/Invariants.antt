use Rattle.std.proofs.Common.{◌≡◌, drop}
use Rattle.std.specs.List.{list_all}
use Rattle.covered_paths.specs.Covering.{is_covered}
use Rattle.covered_paths.proofs.covering.are_covered.Given as goal

-- those that are left decide
abbrev pub invariant-loop-leg : goal.invariant-loop-leg
invariant-loop-leg l = list_all (is_covered l.far l.others) (drop l.leg-index l.legs) ≡ list_all (is_covered l.far l.others) l.legs
