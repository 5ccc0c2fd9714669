use Rattle.std.proofs.Common.{◌≡◌, ◌++◌, drop, map, string_bytes}
use Rattle.job_writer.specs.Pairs.{in_quotes, behind_commas}
use Rattle.job_writer.proofs.pairs.push_others.Given as goal

-- what is written, and the names that are left
abbrev pub invariant-loop-name : goal.invariant-loop-name
invariant-loop-name l = string_bytes l.text ++ behind_commas (map in_quotes (drop l.name-index l.names)) ≡ string_bytes l.fn.text ++ behind_commas (map in_quotes l.names)
