use Rattle.std.proofs.Common.{◌⊎◌}
use Rattle.stroke_paths.specs.inner.Pairs.{AreAfter, AreBefore, IsBest}
use Rattle.stroke_paths.proofs.pairs.best_with.Given as goal

-- the best of the pairs so far
abbrev pub invariant-loop-j : goal.invariant-loop-j
invariant-loop-j l = IsBest l.strokes l.ends (λ g h. AreBefore l.ends l.fn.i g h ⊎ AreAfter l.ends l.fn.i l.j g h) l.best
