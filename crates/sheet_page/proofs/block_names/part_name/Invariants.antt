use Rattle.std.proofs.Common.{◌≡◌, length, drop}
use Rattle.std.specs.Prelude.{string_bytes}
use Rattle.std.specs.Str.{chars}
use Rattle.sheet_page.specs.BlockNames.{part_name}
use Rattle.sheet_page.proofs.PartNames.{with_rest}
use Rattle.sheet_page.proofs.block_names.part_name.Given as goal

-- what is shown so far and the characters that are left are the whole name
abbrev pub invariant-loop-c : goal.invariant-loop-c
invariant-loop-c l = with_rest (string_bytes l.text) (drop (length l.yielded) (chars l.part)) ≡ part_name l.part
