use Rattle.std.specs.Prelude.{pos}
use Rattle.cross_find.specs.declared.meter.Crossing.{Crossing}
use Rattle.span_count.proofs.CarriedCounts.{AreSums}
use Rattle.span_count.proofs.along.change_over.Given as goal

-- the sums so far
abbrev pub invariant-loop-x : goal.invariant-loop-x
invariant-loop-x l = record {
  on_left : AreSums (λ (y : Crossing). y.left) l.crossings (pos 0) l.x-index l.left;
  on_right : AreSums (λ (y : Crossing). y.right) l.crossings (pos 0) l.x-index l.right;
}
