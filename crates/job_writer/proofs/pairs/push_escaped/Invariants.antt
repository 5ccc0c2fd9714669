use Rattle.std.proofs.Common.{◌≡◌, ◌++◌, drop, length, string_bytes}
use Rattle.std.specs.List.{flat_map}
use Rattle.std.specs.Str.{chars}
use Rattle.job_writer.specs.Pairs.{escaped_char, escaped_title}
use Rattle.job_writer.proofs.pairs.push_escaped.Given as goal

-- what is written, and the characters that are left
abbrev pub invariant-loop-c : goal.invariant-loop-c
invariant-loop-c l = string_bytes l.text ++ flat_map escaped_char (drop (length l.yielded) (chars l.title)) ≡ string_bytes l.fn.text ++ escaped_title l.title
