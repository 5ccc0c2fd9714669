use Rattle.std.proofs.Common.{◌≡◌, drop}
use Rattle.covered_paths.specs.Drawn.{is_covered_among}
use Rattle.covered_paths.proofs.drawn.is_covered_among.Given as goal

-- those that are left decide
abbrev pub invariant-loop-other : goal.invariant-loop-other
invariant-loop-other l = is_covered_among l.left l.line (drop l.other-index l.drawn) ≡ is_covered_among l.most l.line l.drawn
