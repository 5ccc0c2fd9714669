use Rattle.std.proofs.Common.{◌≡◌, ◌++◌, drop}
use Rattle.std.specs.List.{flat_map}
use Rattle.covered_paths.specs.Splits.{splits}
use Rattle.covered_paths.proofs.splits.all_splits.Given as goal

-- the places so far, and those by what is left
abbrev pub invariant-loop-other : goal.invariant-loop-other
invariant-loop-other l = l.places.items ++ flat_map (splits l.leg) (drop l.other-index l.near) ≡ flat_map (splits l.leg) l.near
