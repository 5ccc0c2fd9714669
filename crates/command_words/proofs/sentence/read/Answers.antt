use Rattle.std.proofs.Common.{◌≡◌, true, [], subst}
use Rattle.clap.specs.Faults.{fault_of, is_simple_and_free}
use Rattle.clap.specs.Kinds.{HasKind}
use Rattle.clap.specs.Matches.{found_of}
use Rattle.clap.specs.Simple.{App, HasMatchesOf}
use Rattle.clap.specs.Walk.{rows_of}
use Rattle.command_words.specs.Seen.{table_seen, texts}
use Rattle.command_words.proofs.RuleLemmas.{simple, simple_and_free}
use Rattle.command_words.proofs.SentenceLemmas.{answered_sentence, taken_words}
use Rattle.command_words.proofs.sentence.read.Goals as goal

pub returns-in-Ok : goal.returns-in-Ok
returns-in-Ok c =
    let table = table_seen c.args.plain.now c.args.options.now in
    let fits = subst (λ (a : App). is_simple_and_free a ≡ true → fault_of a (texts c.args.words.now) ≡ []) c.in_ok-command.ensures c.in-Ok.ensures.kinds (simple_and_free table) in
    let matches = subst (λ (a : App). HasMatchesOf a (texts c.args.words.now) c.in-Ok.matches) c.in_ok-command.ensures c.in-Ok.ensures.matches (simple table) in
    taken_words table c.requires c.args.words.now (rows_of (found_of c.in-Ok.matches)) fits matches.0

pub returns-in-Err : goal.returns-in-Err
returns-in-Err c =
    let table = table_seen c.args.plain.now c.args.options.now in
    let has = subst (λ (a : App). is_simple_and_free a ≡ true → HasKind (fault_of a (texts c.args.words.now)) c.in-Err.error) c.in_ok-command.ensures c.in-Err.ensures.kinds (simple_and_free table) in
    answered_sentence table c.requires c.args.words.now c.in-Err.error c.kind.result c.answered.result has c.kind.ensures c.answered.ensures
