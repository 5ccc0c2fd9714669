use Rattle.std.proofs.Common.{◌≡◌, vec_len}
use Rattle.test_fixtures.proofs.solids.corners_of.Given as goal

abbrev pub invariant-loop-place : goal.invariant-loop-place
invariant-loop-place l = vec_len l.corners ≡ l.place-index
