use Rattle.std.proofs.Common.{◌≡◌, drop}
use Rattle.clap.specs.Simple.{app_of}
use Rattle.command_words.specs.Seen.{table_seen}
use Rattle.command_words.specs.inner.App.{table_app}
use Rattle.command_words.proofs.RuleLemmas.{with_left}
use Rattle.command_words.proofs.command.table_command.Given as goal

-- the options so far, and those that are left
abbrev pub invariant-loop-option : goal.invariant-loop-option
invariant-loop-option l = with_left (app_of l.command) (drop l.option-index l.options) ≡ table_app (table_seen l.plain l.options)
