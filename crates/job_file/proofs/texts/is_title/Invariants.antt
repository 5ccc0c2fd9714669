use Rattle.std.proofs.Common.{◌≡◌, length, drop}
use Rattle.std.specs.List.{list_all}
use Rattle.std.specs.Str.{chars}
use Rattle.job_file.specs.Texts.{is_title_char}
use Rattle.job_file.proofs.texts.is_title.Given as goal

-- the characters that are left decide
abbrev pub invariant-loop-c : goal.invariant-loop-c
invariant-loop-c l = list_all is_title_char (drop (length l.yielded) (chars l.text)) ≡ list_all is_title_char (chars l.text)
