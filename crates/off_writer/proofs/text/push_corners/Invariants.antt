use Rattle.std.proofs.Common.{◌≡◌, ◌++◌, drop}
use Rattle.std.specs.List.{flat_map}
use Rattle.off_writer.specs.OffTexts.{corner_line}
use Rattle.off_writer.proofs.text.push_corners.Given as goal

-- the lines so far, and those that are left
abbrev pub invariant-loop-corner : goal.invariant-loop-corner
invariant-loop-corner l =
    l.text.items ++ flat_map (corner_line l.decimals) (drop l.corner-index l.corners) ≡ l.fn.text.items ++ flat_map (corner_line l.decimals) l.corners
