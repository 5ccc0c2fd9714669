use Rattle.std.proofs.Common.{◌≡◌, ◌&&◌, drop}
use Rattle.std.specs.List.{list_all}
use Rattle.job_file.specs.Texts.{is_output, are_different}
use Rattle.job_file.proofs.texts.are_outputs.Given as goal

-- the names that are left decide
abbrev pub invariant-loop-i : goal.invariant-loop-i
invariant-loop-i l =
    (list_all is_output (drop l.i l.names) && are_different (drop l.i l.names)) ≡ (list_all is_output l.names && are_different l.names)
