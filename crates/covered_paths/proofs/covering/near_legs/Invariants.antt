use Rattle.std.proofs.Common.{◌≡◌, ◌++◌, drop}
use Rattle.std.specs.List.{filter}
use Rattle.covered_paths.specs.Covering.{may_cover}
use Rattle.covered_paths.proofs.covering.near_legs.Given as goal

-- those so far, and those of what is left
abbrev pub invariant-loop-other : goal.invariant-loop-other
invariant-loop-other l = l.near.items ++ filter (may_cover l.far l.leg) (drop l.other-index l.others) ≡ filter (may_cover l.far l.leg) l.others
