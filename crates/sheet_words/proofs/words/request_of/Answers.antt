use Rattle.std.proofs.Common.{◌≡◌, ◌∙◌, Some, true, false, rules, refl, sym, option_map, codes}
use Rattle.command_words.specs.Grammar.{GivenTexts}
use Rattle.command_words.specs.Seen.{given_seen}
use Rattle.sheet_words.specs.Names.{clash, goal_of, has_empty_name, hidden_by, list_named, said_in}
use Rattle.sheet_words.specs.Seen.{goal_seen, list_seen, said_seen}
use Rattle.sheet_words.proofs.words.request_of.Goals as goal

pub returns-then-clash-clause-usage : goal.returns-then-clash-clause-usage
returns-then-clash-clause-usage c usage =
    let given : GivenTexts = given_seen c.args.given.now in
    let names : has_empty_name given ≡ false = sym c.has_empty_name.ensures ∙ c.if-has_empty_name.false in
    let part : given (codes "part") ≡ Some c.in-Some.part.now = search rules in
    let hidden : hidden_by (given (codes "hidden")) ≡ Some c.in_ok-hidden.hidden = search rules in
    let out : goal_of (given (codes "out")) ≡ Some (goal_seen c.in_ok-out.out) = search rules in
    let list : option_map list_seen c.in_ok-list.list ≡ option_map list_named (given (codes "list")) = search rules in
    let plain : option_map list_seen c.in_ok-plain.plain ≡ option_map list_named (given (codes "plain-job")) = search rules in
    let said : said_in given ≡ Some (said_seen c.in_ok-said.said) = search rules in
    let one : clash (goal_seen c.in_ok-out.out) (option_map list_seen c.in_ok-list.list) (option_map list_seen c.in_ok-plain.plain) ≡ true = sym c.clash.ensures ∙ c.if-clash.true in
    let here : clash (goal_seen c.in_ok-out.out) (option_map list_named (given (codes "list"))) (option_map list_named (given (codes "plain-job"))) ≡ true =
    rw (sym list, sym plain) one in
    rw (names, part, hidden, out, said, here) refl

pub returns-clause-named : goal.returns-clause-named
returns-clause-named c =
    let given : GivenTexts = given_seen c.args.given.now in
    let names : has_empty_name given ≡ false = sym c.has_empty_name.ensures ∙ c.if-has_empty_name.false in
    let part : given (codes "part") ≡ Some c.in_ok-new.field-0 = search rules in
    let hidden : hidden_by (given (codes "hidden")) ≡ Some c.in_ok-hidden.hidden = search rules in
    let out : goal_of (given (codes "out")) ≡ Some (goal_seen c.in_ok-out.out) = search rules in
    let list : option_map list_seen c.in_ok-list.list ≡ option_map list_named (given (codes "list")) = search rules in
    let plain : option_map list_seen c.in_ok-plain.plain ≡ option_map list_named (given (codes "plain-job")) = search rules in
    let said : said_in given ≡ Some (said_seen c.in_ok-said.said) = search rules in
    let apart : clash (goal_seen c.in_ok-out.out) (option_map list_seen c.in_ok-list.list) (option_map list_seen c.in_ok-plain.plain) ≡ false = sym c.clash.ensures ∙ c.if-clash.false in
    let here : clash (goal_seen c.in_ok-out.out) (option_map list_named (given (codes "list"))) (option_map list_named (given (codes "plain-job"))) ≡ false =
    rw (sym list, sym plain) apart in
    let job : c.in_ok-copied.field-0 ≡ given (codes "job") = search rules in
    rw (names, part, hidden, out, said, here, list, plain, job) refl
