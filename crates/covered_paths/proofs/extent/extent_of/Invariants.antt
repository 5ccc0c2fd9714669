use Rattle.std.proofs.Common.{◌≡◌, drop}
use Rattle.std.specs.Prelude.{fold}
use Rattle.covered_paths.specs.inner.Boxes.{extent_of, widened}
use Rattle.covered_paths.proofs.extent.extent_of.Given as goal

-- with the legs that are left it is the box of all
abbrev pub invariant-loop-leg : goal.invariant-loop-leg
invariant-loop-leg l = fold widened l.extent (drop l.leg-index l.legs) ≡ extent_of l.legs
