use Rattle.std.proofs.Common.{length, ◌∙◌, arith}
use Rattle.std.proofs.lemmas.Iterator.{YieldsList-from_chars}
use Rattle.std.proofs.lemmas.Iterator.Consumers.{YieldsList-turn, YieldsList-end}
use Rattle.std.proofs.lemmas.List.{length_push}
use Rattle.std.specs.Str.{chars}
use Rattle.text_fit.proofs.KeptChars.{width_of_more, bytes_of_more, kept_before, kept_all}
use Rattle.text_fit.proofs.fit.kept.Goals as goal

pub returns-then-left-next : goal.returns-then-left-next
returns-then-left-next c =
    let turn = YieldsList-turn (YieldsList-from_chars c.args.text.now c.utf8.text cc) c.loop-c.yielded _ c.loop-c.yielded_by _ _ c.in-Some.c c.in-Some.is c.next.ensures.steps in (
      length c.loop-c.yielded,
      c.loop-c.invariant.kept,
      kept_before c.args.width c.loop-c.left c.from-next.result c.in-Some.c (length c.loop-c.yielded) (chars c.args.text.now) c.loop-c.invariant.left turn (c.from-next.ensures ∙ c.width_of.ensures) c.if-left-next.true,
    )

pub loop-c-preserved : goal.loop-c-preserved
loop-c-preserved c =
    let turn = YieldsList-turn (YieldsList-from_chars c.args.text.now c.utf8.text cc) c.loop-c.yielded _ c.loop-c.yielded_by _ _ c.in-Some.c c.in-Some.is c.next.ensures.steps in
    rw (length_push c.loop-c.yielded c.in-Some.c) (record {
      kept = bytes_of_more (chars c.args.text.now) _ _ (length c.loop-c.yielded) c.in-Some.c c.in_ok-push.ensures.bytes c.loop-c.invariant.kept turn;
      left = omega (arith, c.loop-c.invariant.left, c.from-next.ensures, c.width_of.ensures, c.if-left-next.false, width_of_more (chars c.args.text.now) (length c.loop-c.yielded) c.in-Some.c turn);
    })

pub returns : goal.returns
returns c =
    let end = YieldsList-end (YieldsList-from_chars c.args.text.now c.utf8.text cc) c.loop-c.yielded _ c.loop-c.yielded_by _ _ c.in-None.is c.next.ensures.steps in (
      length c.loop-c.yielded,
      c.loop-c.invariant.kept,
      kept_all c.args.width c.loop-c.left (length c.loop-c.yielded) (chars c.args.text.now) c.loop-c.invariant.left (omega (arith, end.1)),
    )
