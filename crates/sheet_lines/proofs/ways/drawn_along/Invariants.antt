use Rattle.std.proofs.Common.{◌≡◌, map, take}
use Rattle.sheet_lines.specs.Ways.{is_drawn}
use Rattle.sheet_lines.proofs.ways.drawn_along.Given as goal

-- which of the strokes so far are drawn
abbrev pub invariant-loop-stroke : goal.invariant-loop-stroke
invariant-loop-stroke l = l.drawn.items ≡ map (is_drawn l.hidden l.ways) (take l.stroke-index l.strokes)
