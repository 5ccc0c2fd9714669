use Rattle.std.proofs.Common.{◌≡◌, drop}
use Rattle.sheet_job.specs.WrittenValues.{has_point_form}
use Rattle.sheet_job.proofs.numbers.has_point_form.Given as goal

-- the bytes that are left decide
abbrev pub invariant-loop-i : goal.invariant-loop-i
invariant-loop-i l = has_point_form (drop l.i l.text) ≡ has_point_form l.text
