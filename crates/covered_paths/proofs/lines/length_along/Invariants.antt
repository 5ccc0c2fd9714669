use Rattle.std.proofs.Common.{◌≡◌, ◌+◌, ◌≤◌, ◌^◌, drop, map, min}
use Rattle.std.specs.Prelude.{sum}
use Rattle.covered_paths.specs.Places.{length_along, length_of}
use Rattle.covered_paths.proofs.lines.length_along.Given as goal

-- the length so far and that of the legs that are left are the whole length
abbrev pub invariant-loop-leg : goal.invariant-loop-leg
invariant-loop-leg l = record {
  all : min (l.total + sum (map length_of (drop l.leg-index l.legs))) (2 ^ 63) ≡ length_along l.legs;
  small : l.total ≤ 2 ^ 63;
}
