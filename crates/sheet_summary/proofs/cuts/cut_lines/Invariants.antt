use Rattle.std.proofs.Common.{◌≡◌, ◌++◌, drop, string_bytes}
use Rattle.solid_mesh.specs.Solids.{solid_part}
use Rattle.sheet_summary.specs.CutLines.{cut_lines}
use Rattle.sheet_summary.proofs.cuts.cut_lines.Given as goal

-- the lines so far, and then those of the views that are left
abbrev pub invariant-loop-view : goal.invariant-loop-view
invariant-loop-view l =
    string_bytes l.text ++ cut_lines (solid_part l.fn.drawing.solid) l.fn.drawing.job.decimals l.fn.in_units (drop l.view l.fn.drawing.job.views.items) (drop l.view l.fn.marks)
    ≡ cut_lines (solid_part l.fn.drawing.solid) l.fn.drawing.job.decimals l.fn.in_units l.fn.drawing.job.views.items l.fn.marks
