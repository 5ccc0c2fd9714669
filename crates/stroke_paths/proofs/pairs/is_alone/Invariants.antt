use Rattle.stroke_paths.specs.declared.path.End.{End}
use Rattle.stroke_paths.specs.inner.Pairs.{AreBefore, IsLessThan}
use Rattle.stroke_paths.proofs.pairs.is_alone.Given as goal

-- each pair so far turns more
abbrev pub invariant-loop-i : goal.invariant-loop-i
invariant-loop-i l = (g h : End) → AreBefore l.ends l.i g h → IsLessThan l.strokes l.best g h
