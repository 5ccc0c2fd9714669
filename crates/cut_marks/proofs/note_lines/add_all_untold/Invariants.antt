use Rattle.std.proofs.Common.{◌≡◌, ◌++◌, drop, string_bytes}
use Rattle.std.specs.List.{flat_map}
use Rattle.cut_marks.specs.Notes.{untold_in}
use Rattle.cut_marks.proofs.note_lines.add_all_untold.Given as goal

-- the lines so far, and those that are left
abbrev pub invariant-loop-view : goal.invariant-loop-view
invariant-loop-view l = string_bytes l.text ++ flat_map (untold_in l.views) (drop l.view-index l.views) ≡ string_bytes l.fn.text ++ flat_map (untold_in l.views) l.views
