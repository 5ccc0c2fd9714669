use Rattle.span_count.proofs.Tours.{AreStepsSoFar}
use Rattle.span_count.proofs.StepTests.{AreTestsSoFar}
use Rattle.span_count.proofs.spans_counted.Given as goal

-- what the steps so far found, and their tests
abbrev pub invariant-loop-step : goal.invariant-loop-step
invariant-loop-step g l = record {
  found : AreStepsSoFar (g.S.Sight.sight l.fn.sight) l.fn.picked l.step-items l.step-index (g.S.Sight.sight l.sight) l.found.entries.items l.found.ends.items;
  tests : AreTestsSoFar (g.S.Sight.sight l.fn.sight) l.fn.picked (g.F.Finder.list_along l.finder) (g.F.Finder.list_over l.finder) (g.F.Finder.is_near l.finder) l.step-items l.step-index (g.S.Sight.sight l.sight);
}
