use Rattle.std.proofs.Common.{◌≡◌, ◌++◌, drop, string_bytes}
use Rattle.std.specs.List.{flat_map}
use Rattle.cut_marks.specs.Notes.{left_out_line}
use Rattle.cut_marks.proofs.note_lines.add_left_out.Given as goal

-- the lines so far, and those that are left
abbrev pub invariant-loop-letter : goal.invariant-loop-letter
invariant-loop-letter l = string_bytes l.text ++ flat_map (left_out_line l.view) (drop l.letter-index l.letters) ≡ string_bytes l.fn.text ++ flat_map (left_out_line l.view) l.letters
