use Rattle.std.proofs.Common.{◌≡◌, drop}
use Rattle.std.specs.List.{list_all}
use Rattle.job_file.specs.Texts.{is_output_byte}
use Rattle.job_file.proofs.texts.are_output_bytes.Given as goal

-- the bytes that are left decide
abbrev pub invariant-loop-byte : goal.invariant-loop-byte
invariant-loop-byte l = list_all is_output_byte (drop l.byte-index l.bytes) ≡ list_all is_output_byte l.bytes
