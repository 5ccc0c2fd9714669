use Rattle.std.proofs.Common.{◌∙◌, option_map, rules, ap}
use Rattle.command_words.specs.Seen.{sentence_seen}
use Rattle.sheet_words.specs.Names.{asked_by, asks_of, sheet}
use Rattle.sheet_words.proofs.words.read_words.Goals as goal

pub returns-in-Refused-clause-usage : goal.returns-in-Refused-clause-usage
unfolding asked_by
returns-in-Refused-clause-usage c usage = ap asks_of (c.in_ok-read.ensures ∙ ap sentence_seen c.in-Refused.is)

pub returns-in-Help-clause-asked : goal.returns-in-Help-clause-asked
unfolding asked_by
returns-in-Help-clause-asked c = ap asks_of (c.in_ok-read.ensures ∙ ap sentence_seen c.in-Help.is)

pub returns-in-Version-clause-asked : goal.returns-in-Version-clause-asked
unfolding asked_by
returns-in-Version-clause-asked c = ap asks_of (c.in_ok-read.ensures ∙ ap sentence_seen c.in-Version.is)

pub returns-in_err-request_of-in-Given-clause-usage : goal.returns-in_err-request_of-in-Given-clause-usage
unfolding asked_by
returns-in_err-request_of-in-Given-clause-usage c usage =
    ap asks_of (c.in_ok-read.ensures ∙ ap sentence_seen c.in-Given.is) ∙ ap (option_map sheet) (c.in_err-request_of-in-Given.ensures.usage (search rules))

pub returns-in_ok-request_of-in-Given-clause-asked : goal.returns-in_ok-request_of-in-Given-clause-asked
unfolding asked_by
returns-in_ok-request_of-in-Given-clause-asked c =
    ap asks_of (c.in_ok-read.ensures ∙ ap sentence_seen c.in-Given.is) ∙ ap (option_map sheet) c.in_ok-request_of-in-Given.ensures.named
