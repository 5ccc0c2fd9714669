use Rattle.std.proofs.Common.{◌≡◌, ◌++◌, drop, string_bytes}
use Rattle.cut_marks.specs.Notes.{notes_from}
use Rattle.cut_marks.proofs.note_lines.lines_by_view.Given as goal

-- the lines so far, and those of the views that are left
abbrev pub invariant-loop-view : goal.invariant-loop-view
invariant-loop-view l = string_bytes l.text ++ notes_from l.view (drop l.view l.views) ≡ notes_from 0 l.views
