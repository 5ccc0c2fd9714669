use Rattle.std.proofs.Common.{◌≡◌, ◌++◌, map, drop, string_bytes}
use Rattle.fault_lines.specs.Lines.{shown_byte}
use Rattle.fault_lines.proofs.lines.shown_bytes.Given as goal

-- what was told and what is left to tell are the whole name
abbrev pub invariant-loop-byte : goal.invariant-loop-byte
invariant-loop-byte l = string_bytes l.text ++ map shown_byte (drop l.byte-index l.bytes) ≡ map shown_byte l.bytes
