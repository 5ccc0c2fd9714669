use Rattle.std.proofs.Common.{◌≡◌}
use Rattle.std.specs.BTreeMap.{keys}
use Rattle.job_file.proofs.KeyLemmas.{unknown_in}
use Rattle.job_file.proofs.table.unknown_key.Given as goal

-- the first unknown key is among those that are left
abbrev pub invariant-loop-key : goal.invariant-loop-key
invariant-loop-key l =
    (goal.iterator-loop-key).can_next l.key-iterator ×
    (goal.iterator-loop-key).is_finite l.key-iterator ×
    (unknown_in l.kind l.key-iterator ≡ unknown_in l.kind (keys l.table))
