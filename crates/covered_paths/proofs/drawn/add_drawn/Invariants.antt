use Rattle.std.proofs.Common.{◌≡◌, []}
use Rattle.std.specs.Vec.Iter.{into_iter_items}
use Rattle.covered_paths.specs.Drawn.{drawn_after}
use Rattle.covered_paths.proofs.drawn.add_drawn.Given as goal

-- what is left is taken after those so far
abbrev pub invariant-loop-line : goal.invariant-loop-line
invariant-loop-line l = drawn_after l.drawn.items (into_iter_items l.line-iterator) ≡ drawn_after [] l.fn.lines.items
