use Rattle.std.proofs.Common.{◌≡◌, length, drop}
use Rattle.std.specs.Prelude.{encode_utf8_all, string_bytes}
use Rattle.std.specs.Str.{chars}
use Rattle.sheet_input.specs.Titles.{before_stop}
use Rattle.sheet_input.proofs.TitleChars.{front_with}
use Rattle.sheet_input.proofs.title.before_stop.Given as goal

-- what is read so far and the characters that are left are the whole
abbrev pub invariant-loop-c : goal.invariant-loop-c
invariant-loop-c l = front_with (string_bytes l.front) (string_bytes l.all) (drop (length l.yielded) (chars l.name)) ≡ encode_utf8_all (before_stop (chars l.name))
