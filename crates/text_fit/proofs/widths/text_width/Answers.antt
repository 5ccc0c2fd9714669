use Rattle.std.proofs.Common.{length, ◌∙◌, arith}
use Rattle.std.proofs.lemmas.Iterator.{YieldsList-from_chars}
use Rattle.std.proofs.lemmas.Iterator.Consumers.{YieldsList-turn, YieldsList-end}
use Rattle.std.proofs.lemmas.List.{length_push}
use Rattle.std.specs.Str.{chars}
use Rattle.text_fit.proofs.WidthsBefore.{width_more, width_at_end}
use Rattle.text_fit.proofs.widths.text_width.Goals as goal

pub loop-c-preserved : goal.loop-c-preserved
loop-c-preserved c =
    let turn = YieldsList-turn (YieldsList-from_chars c.args.text.now c.utf8.text cc) c.loop-c.yielded _ c.loop-c.yielded_by _ _ c.in-Some.c c.in-Some.is c.next.ensures.steps in
    rw (length_push c.loop-c.yielded c.in-Some.c) (record {
      whole = width_more _ c.loop-c.width c.from-width.result c.in-Some.c (length c.loop-c.yielded) (chars c.args.text.now) c.loop-c.invariant.whole turn (c.from-width.ensures ∙ c.width_of.ensures);
      few = omega (arith, c.loop-c.invariant.few, c.from-width.ensures, c.width_of.type_inv);
    })

pub returns : goal.returns
returns c =
    let end = YieldsList-end (YieldsList-from_chars c.args.text.now c.utf8.text cc) c.loop-c.yielded _ c.loop-c.yielded_by _ _ c.in-None.is c.next.ensures.steps in
    width_at_end _ c.loop-c.width (length c.loop-c.yielded) (chars c.args.text.now) c.loop-c.invariant.whole (omega (arith, end.1))
