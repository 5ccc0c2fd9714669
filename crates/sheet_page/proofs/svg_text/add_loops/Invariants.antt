use Rattle.std.proofs.Common.{◌≡◌, ◌++◌, drop}
use Rattle.std.specs.List.{flat_map}
use Rattle.sheet_page.specs.Svg.{loop_route}
use Rattle.sheet_page.proofs.svg_text.add_loops.Given as goal

-- the loops so far and what is left are all loops
abbrev pub invariant-loop-points : goal.invariant-loop-points
invariant-loop-points l = l.text.items ++ flat_map loop_route (drop l.points-index l.loops) ≡ l.fn.text.items ++ flat_map loop_route l.loops
