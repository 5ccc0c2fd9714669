use Rattle.std.proofs.Common.{◌≡◌, drop}
use Rattle.std.specs.Prelude.{pos}
use Rattle.std.specs.List.{list_any}
use Rattle.covered_paths.specs.Within.{is_within}
use Rattle.covered_paths.proofs.drawn.is_start_near.Given as goal

-- those that are left decide
abbrev pub invariant-loop-other : goal.invariant-loop-other
invariant-loop-other l = list_any (is_within l.far l.leg (record { part = pos 0; whole = pos 1 })) (drop l.other-index l.others) ≡ list_any (is_within l.far l.leg (record { part = pos 0; whole = pos 1 })) l.others
