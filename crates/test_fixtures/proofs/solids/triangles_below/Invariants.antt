use Rattle.std.proofs.Common.{◌≡◌, vec_len}
use Rattle.std.specs.List.{All}
use Rattle.lattice.specs.Triangles.{IsBelow}
use Rattle.test_fixtures.proofs.solids.triangles_below.Given as goal

abbrev pub invariant-loop-n : goal.invariant-loop-n
invariant-loop-n l = record {
  long : vec_len l.triangles ≡ l.n-index;
  in_range : All (IsBelow l.count) l.triangles.items;
}
