use Rattle.std.proofs.Common.{◌≡◌, ◌+◌, ◌*◌, ◌≤◌, length, drop}
use Rattle.std.specs.Str.{chars}
use Rattle.text_fit.specs.Widths.{chars_width, text_width}
use Rattle.text_fit.proofs.widths.text_width.Given as goal

-- the width of the characters so far, and of those that are left
abbrev pub invariant-loop-c : goal.invariant-loop-c
invariant-loop-c l = record {
  whole : l.width + chars_width (drop (length l.yielded) (chars l.text)) ≡ text_width l.text;
  few : l.width ≤ 65_536 * length l.yielded;
}
