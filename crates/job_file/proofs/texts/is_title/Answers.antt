use Rattle.std.proofs.Common.{length, arith}
use Rattle.std.proofs.lemmas.Iterator.{YieldsList-from_chars}
use Rattle.std.proofs.lemmas.Iterator.Consumers.{YieldsList-turn, YieldsList-end}
use Rattle.std.proofs.lemmas.List.{at_drop_all, length_push}
use Rattle.std.proofs.lemmas.Bool.Decides.{nat_tests}
use Rattle.std.specs.List.{list_all}
use Rattle.std.specs.Str.{chars}
use Rattle.job_file.specs.Texts.{is_title_char}
use Rattle.job_file.proofs.ListLemmas.{list_all-drop}
use Rattle.job_file.proofs.texts.is_title.Goals as goal

pub returns-then-not-is_title_char : goal.returns-then-not-is_title_char
returns-then-not-is_title_char c =
    let turn = YieldsList-turn (YieldsList-from_chars c.args.text.now c.utf8.text cc) c.loop-c.yielded _ c.loop-c.yielded_by _ _ c.in-Some.c c.in-Some.is c.next.ensures.steps in
    let more = list_all-drop is_title_char _ _ _ turn in
    grind (arith, nat_tests)

pub loop-c-preserved : goal.loop-c-preserved
loop-c-preserved c =
    let turn = YieldsList-turn (YieldsList-from_chars c.args.text.now c.utf8.text cc) c.loop-c.yielded _ c.loop-c.yielded_by _ _ c.in-Some.c c.in-Some.is c.next.ensures.steps in
    let more = list_all-drop is_title_char _ _ _ turn in
    let longer = length_push c.loop-c.yielded c.in-Some.c in
    grind (arith, nat_tests)

pub returns : goal.returns
returns c =
    let end = YieldsList-end (YieldsList-from_chars c.args.text.now c.utf8.text cc) c.loop-c.yielded _ c.loop-c.yielded_by _ _ c.in-None.is c.next.ensures.steps in
    let none = at_drop_all (list_all is_title_char) (chars c.args.text.now) (length c.loop-c.yielded) (omega (arith, end.1)) in
    grind (arith, nat_tests)
