use Rattle.std.proofs.Common.{ap, ◌++◌, ◌∙◌, List, ℕ, string_bytes}
use Rattle.cut_marks.specs.Notes.{left_out_line}
use Rattle.cut_marks.proofs.Written.{one_written}
use Rattle.cut_marks.proofs.note_lines.add_left_out.Goals as goal

pub loop-letter-preserved : goal.loop-letter-preserved
loop-letter-preserved c =
    one_written (left_out_line c.args.view) c.args.letters.now c.loop-letter.letter-index 0 _ _ _ c.loop-letter-test.true
    (c.in_ok-push_str.ensures.bytes ∙ ap (λ (line : List ℕ). string_bytes c.loop-letter.text ++ line) (c.deref.ensures ∙ c.in_ok-left_out_line.ensures)) c.loop-letter.invariant
