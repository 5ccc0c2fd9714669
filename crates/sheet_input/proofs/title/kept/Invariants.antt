use Rattle.std.proofs.Common.{◌≡◌, length, drop}
use Rattle.std.specs.Prelude.{string_bytes}
use Rattle.std.specs.Str.{chars}
use Rattle.sheet_input.specs.Titles.{kept}
use Rattle.sheet_input.proofs.TitleChars.{kept_with}
use Rattle.sheet_input.proofs.title.kept.Given as goal

-- what is kept so far and what the rest has room for
abbrev pub invariant-loop-c : goal.invariant-loop-c
invariant-loop-c l = kept_with (string_bytes l.kept) l.left (drop (length l.yielded) (chars l.text)) ≡ kept l.room (chars l.text)
