use Rattle.std.proofs.Common.{◌≡◌, ap, ◌∙◌, length, arith}
use Rattle.std.specs.Prelude.{string_bytes, if◌then◌else◌, ◌==◌}
use Rattle.std.proofs.lemmas.Iterator.{YieldsList-from_chars}
use Rattle.std.proofs.lemmas.Iterator.Consumers.{YieldsList-turn, YieldsList-end}
use Rattle.std.proofs.lemmas.List.{length_push}
use Rattle.std.specs.Str.{chars}
use Rattle.sheet_input.proofs.TitleChars.{front_at_start, front_after_stop, front_after_other, front_after_char, front_at_end}
use Rattle.sheet_input.proofs.title.before_stop.Goals.{then-c-eq46+in_ok-front, else-c-eq46}
use Rattle.sheet_input.proofs.title.before_stop.Goals as goal

pub loop-c-init : goal.loop-c-init
loop-c-init c = front_at_start _ _ (chars c.args.name.now) c.new-front.ensures.bytes c.new-all.ensures.bytes

pub loop-c-preserved : goal.loop-c-preserved
loop-c-preserved c =
    let turn = YieldsList-turn (YieldsList-from_chars c.args.name.now c.utf8.name cc) c.loop-c.yielded _ c.loop-c.yielded_by _ _ c.in-Some.c c.in-Some.is c.next.ensures.steps in
    let front = string_bytes c.loop-c.front in
    let all = string_bytes c.loop-c.all in
    let stop : string_bytes c.if-c-eq46.front ≡ (if c.in-Some.c == 46 then all else front) = elim c.if-c-eq46.branch [
      | then-c-eq46+in_ok-front w ↦ front_after_stop front all _ c.in-Some.c w.if-c-eq46.true (ap string_bytes w.front-is ∙ w.in_ok-front.ensures.cases)
      | else-c-eq46 w ↦ front_after_other front all _ c.in-Some.c w.if-c-eq46.false (ap string_bytes w.front-is)
    ] in
    rw (length_push c.loop-c.yielded c.in-Some.c) (front_after_char front all _ _ _ (chars c.args.name.now) _ _ turn stop c.in_ok-push.ensures.bytes c.loop-c.invariant)

pub returns : goal.returns
returns c =
    let end = YieldsList-end (YieldsList-from_chars c.args.name.now c.utf8.name cc) c.loop-c.yielded _ c.loop-c.yielded_by _ _ c.in-None.is c.next.ensures.steps in
    front_at_end _ (string_bytes c.loop-c.all) _ (chars c.args.name.now) (length c.loop-c.yielded) (omega (arith, end.1)) c.loop-c.invariant
