use Rattle.std.proofs.Common.{◌≡◌, ◌++◌, drop, option_map, map}
use Rattle.toml.specs.View.{view}
use Rattle.job_file.specs.Documents.{texts_of}
use Rattle.job_file.proofs.texts.texts_of.Given as goal

-- the texts so far, before those of the values that are left
abbrev pub invariant-loop-value : goal.invariant-loop-value
invariant-loop-value l = option_map (λ texts. l.names.items ++ texts) (texts_of (map view (drop l.value-index l.values))) ≡ texts_of (map view l.values)
