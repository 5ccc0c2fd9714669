use Rattle.std.proofs.Common.{◌≡◌, List, ◌++◌, take}
use Rattle.std.specs.List.{AllZip}
use Rattle.lattice.specs.declared.pieces.Strip.{Strip}
use Rattle.drawn_strips.specs.Strips.{IsBorderStrip}
use Rattle.drawn_strips.proofs.border_strips.add_borders.Given as goal

-- the strips of the segments so far came to the end
abbrev pub invariant-loop-segment : goal.invariant-loop-segment
invariant-loop-segment l = (here : List Strip) × (l.strips.items ≡ l.fn.strips.items ++ here) × AllZip IsBorderStrip (take l.segment-index l.segment-items) here
