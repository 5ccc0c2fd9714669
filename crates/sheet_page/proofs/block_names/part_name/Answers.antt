use Rattle.std.proofs.Common.{length, arith}
use Rattle.std.proofs.lemmas.Iterator.{YieldsList-from_chars}
use Rattle.std.proofs.lemmas.Iterator.Consumers.{YieldsList-turn, YieldsList-end}
use Rattle.std.proofs.lemmas.List.{length_push}
use Rattle.std.specs.Str.{chars}
use Rattle.sheet_page.proofs.PartNames.{from_start, after_char, at_end}
use Rattle.sheet_page.proofs.block_names.part_name.Goals as goal

pub loop-c-init : goal.loop-c-init
loop-c-init c = from_start _ (chars c.args.part.now) c.new-text.ensures.bytes

pub loop-c-preserved : goal.loop-c-preserved
loop-c-preserved c =
    let turn = YieldsList-turn (YieldsList-from_chars c.args.part.now c.utf8.part cc) c.loop-c.yielded _ c.loop-c.yielded_by _ _ c.in-Some.c c.in-Some.is c.next.ensures.steps in
    rw (length_push c.loop-c.yielded c.in-Some.c) (after_char _ _ _ (chars c.args.part.now) _ _ turn c.in_ok-add_char.ensures c.loop-c.invariant)

pub returns : goal.returns
returns c =
    let end = YieldsList-end (YieldsList-from_chars c.args.part.now c.utf8.part cc) c.loop-c.yielded _ c.loop-c.yielded_by _ _ c.in-None.is c.next.ensures.steps in
    at_end _ _ (chars c.args.part.now) (length c.loop-c.yielded) (omega (arith, end.1)) c.loop-c.invariant
