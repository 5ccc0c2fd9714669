use Rattle.stroke_paths.specs.declared.path.End.{End}
use Rattle.stroke_paths.specs.inner.Pairs.{AreAfter, IsLessThan}
use Rattle.stroke_paths.proofs.pairs.is_alone_at.Given as goal

-- each pair so far turns more
abbrev pub invariant-loop-j : goal.invariant-loop-j
invariant-loop-j l = (g h : End) → AreAfter l.ends l.fn.i l.j g h → IsLessThan l.strokes l.best g h
