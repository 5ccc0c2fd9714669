use Rattle.clap.specs.Built.{AddsArg}
use Rattle.clap.specs.Simple.{app_of}
use Rattle.command_words.proofs.RuleLemmas.{all_added, one_added}
use Rattle.command_words.proofs.command.table_command.Goals as goal

pub loop-option-preserved : goal.loop-option-preserved
loop-option-preserved c =
    let added : AddsArg c.loop-option.command c.option_arg.result c.in_ok-command-2.command = c.in_ok-command-2.ensures in
    one_added c.args.options.now c.loop-option.option-index _ (app_of c.loop-option.command) _ _ _ c.loop-option-test.true (added.shape c.option_arg.ensures.local) c.option_arg.ensures.rule c.loop-option.invariant

pub returns : goal.returns
returns c = all_added c.args.options.now c.loop-option.option-index (app_of c.loop-option.command) _ c.loop-option-test.false c.loop-option.invariant
