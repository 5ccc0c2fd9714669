use Rattle.stroke_paths.specs.inner.Pairs.{AreBefore, IsBest}
use Rattle.stroke_paths.proofs.pairs.first_least.Given as goal

-- the best of the pairs so far
abbrev pub invariant-loop-i : goal.invariant-loop-i
invariant-loop-i l = IsBest l.strokes l.ends (AreBefore l.ends l.i) l.best
