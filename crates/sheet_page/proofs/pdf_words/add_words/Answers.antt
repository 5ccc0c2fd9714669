use Rattle.std.proofs.Common.{◌++◌, length, ◌∙◌, arith}
use Rattle.std.proofs.lemmas.Iterator.{YieldsList-from_chars}
use Rattle.std.proofs.lemmas.Iterator.Consumers.{YieldsList-turn, YieldsList-end}
use Rattle.std.proofs.lemmas.List.{length_push}
use Rattle.std.specs.Str.{chars}
use Rattle.sheet_page.specs.PdfWords.{escaped, win_ansi}
use Rattle.sheet_page.proofs.PdfTexts.{one_written}
use Rattle.sheet_page.proofs.Written.{all_written}
use Rattle.sheet_page.proofs.pdf_words.add_words.Goals as goal

pub loop-c-preserved : goal.loop-c-preserved
loop-c-preserved c =
    let turn = YieldsList-turn (YieldsList-from_chars c.args.words.now c.utf8.words cc) c.loop-c.yielded _ c.loop-c.yielded_by _ _ c.in-Some.c c.in-Some.is c.next.ensures.steps in
    rw (length_push c.loop-c.yielded c.in-Some.c) (one_written (λ c. escaped (win_ansi c)) (chars c.args.words.now) _ _ _ _ _ turn (c.in_ok-add_byte.ensures ∙ (λ i. c.loop-c.text.items ++ escaped (c.win_ansi.ensures i))) c.loop-c.invariant)

pub returns : goal.returns
returns c =
    let end = YieldsList-end (YieldsList-from_chars c.args.words.now c.utf8.words cc) c.loop-c.yielded _ c.loop-c.yielded_by _ _ c.in-None.is c.next.ensures.steps in
    all_written (λ c. escaped (win_ansi c)) (chars c.args.words.now) (length c.loop-c.yielded) _ c.args.text.now.items c.loop-c.invariant (omega (arith, end.1))
