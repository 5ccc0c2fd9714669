use Rattle.std.proofs.Common.{◌≡◌, drop}
use Rattle.std.specs.List.{list_any}
use Rattle.covered_paths.specs.Covering.{is_reached}
use Rattle.covered_paths.proofs.covering.is_one_reached.Given as goal

-- those that are left decide
abbrev pub invariant-loop-other : goal.invariant-loop-other
invariant-loop-other l = list_any (is_reached l.far l.leg l.from l.to) (drop l.other-index l.near) ≡ list_any (is_reached l.far l.leg l.from l.to) l.near
