use Rattle.std.proofs.Common.{◌≡◌, ◌+◌, length, take}
use Rattle.std.specs.Prelude.{string_bytes, encode_utf8_all}
use Rattle.std.specs.Str.{chars}
use Rattle.text_fit.specs.Widths.{chars_width}
use Rattle.text_fit.proofs.fit.kept.Given as goal

-- the characters so far are kept, and what they leave is left
abbrev pub invariant-loop-c : goal.invariant-loop-c
invariant-loop-c l = record {
  kept : string_bytes l.kept ≡ encode_utf8_all (take (length l.yielded) (chars l.text));
  left : l.left + chars_width (take (length l.yielded) (chars l.text)) ≡ l.width;
}
