use Rattle.std.proofs.Common.{◌≡◌, ◌++◌, drop}
use Rattle.std.specs.List.{flat_map}
use Rattle.off_writer.specs.OffTexts.{triangle_line}
use Rattle.off_writer.proofs.text.push_triangles.Given as goal

-- the lines so far, and those that are left
abbrev pub invariant-loop-triangle : goal.invariant-loop-triangle
invariant-loop-triangle l =
    l.text.items ++ flat_map triangle_line (drop l.triangle-index l.triangles) ≡ l.fn.text.items ++ flat_map triangle_line l.triangles
