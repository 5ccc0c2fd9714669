use Rattle.std.proofs.Common.{length, refl, arith}
use Rattle.std.specs.Prelude.{string_bytes}
use Rattle.std.proofs.lemmas.Iterator.{YieldsList-from_chars}
use Rattle.std.proofs.lemmas.Iterator.Consumers.{YieldsList-turn, YieldsList-end}
use Rattle.std.proofs.lemmas.List.{length_push}
use Rattle.std.specs.Str.{chars}
use Rattle.sheet_input.proofs.TitleChars.{kept_at_start, kept_after_char, kept_before, kept_at_end}
use Rattle.sheet_input.proofs.title.kept.Goals as goal

pub loop-c-init : goal.loop-c-init
loop-c-init c = kept_at_start _ (chars c.args.text.now) c.args.room c.new-kept.ensures.bytes

pub returns-then-left-len_utf8 : goal.returns-then-left-len_utf8
returns-then-left-len_utf8 c =
    let turn = YieldsList-turn (YieldsList-from_chars c.args.text.now c.utf8.text cc) c.loop-c.yielded _ c.loop-c.yielded_by _ _ c.in-Some.c c.in-Some.is c.next.ensures.steps in
    kept_before _ _ (chars c.args.text.now) c.loop-c.left c.len_utf8.result (length c.loop-c.yielded) c.in-Some.c turn c.len_utf8.ensures.len c.if-left-len_utf8.true c.loop-c.invariant

pub loop-c-preserved : goal.loop-c-preserved
loop-c-preserved c =
    let turn = YieldsList-turn (YieldsList-from_chars c.args.text.now c.utf8.text cc) c.loop-c.yielded _ c.loop-c.yielded_by _ _ c.in-Some.c c.in-Some.is c.next.ensures.steps in
    rw (length_push c.loop-c.yielded c.in-Some.c)
    (kept_after_char (string_bytes c.loop-c.kept) _ _ (chars c.args.text.now) c.loop-c.left _ c.len_utf8-left.result _ _ turn c.len_utf8-left.ensures.len
    (omega (arith, c.len_utf8-left.ensures.len, c.len_utf8.ensures.len, c.if-left-len_utf8.false)) refl c.in_ok-push.ensures.bytes c.loop-c.invariant)

pub returns : goal.returns
returns c =
    let end = YieldsList-end (YieldsList-from_chars c.args.text.now c.utf8.text cc) c.loop-c.yielded _ c.loop-c.yielded_by _ _ c.in-None.is c.next.ensures.steps in
    kept_at_end _ _ (chars c.args.text.now) c.loop-c.left (length c.loop-c.yielded) (omega (arith, end.1)) c.loop-c.invariant
