use Rattle.std.proofs.Common.{◌≡◌, ◌≤◌, length, map}
use Rattle.stl_reader.specs.inner.Views.{of_facet}
use Rattle.stl_reader.proofs.Turns.{IsDone}
use Rattle.stl_reader.proofs.facets.read_facets.Given as goal

abbrev pub decreases-loop-follows : goal.decreases-loop-follows
decreases-loop-follows l = length l.tokens.left

abbrev pub invariant-loop-follows : goal.invariant-loop-follows
invariant-loop-follows l = record {
  done : IsDone l.decimals l.unit l.bytes l.fn.tokens.left l.tokens.left (map of_facet l.facets.items);
  text : l.tokens.text ≡ l.bytes;
  most : length l.facets.items ≤ 20000;
}
