use Rattle.std.proofs.Common.{rules, arith, ◌∙◌, None, Some, ◌≡◌}
use Rattle.std.proofs.lemmas.Grind.{common_steps}
use Rattle.job_file.proofs.KeyLemmas.{unknown_in, unknown_in-keys}
use Rattle.job_file.proofs.table.unknown_key.Goals as goal

pub returns-then-not-is_key : goal.returns-then-not-is_key
returns-then-not-is_key c =
    let here : Some c.as_str-then-not-is_key.result.now ≡ unknown_in c.args.kind c.loop-key.key-iterator = grind (arith, common_steps) in
    here ∙ c.loop-key.invariant.2 ∙ unknown_in-keys c.args.kind c.args.table.now.entries c.keys-key-items.ensures.ordered

pub returns : goal.returns
returns c =
    let here : None ≡ unknown_in c.args.kind c.loop-key.key-iterator = search rules in
    here ∙ c.loop-key.invariant.2 ∙ unknown_in-keys c.args.kind c.args.table.now.entries c.keys-key-items.ensures.ordered
