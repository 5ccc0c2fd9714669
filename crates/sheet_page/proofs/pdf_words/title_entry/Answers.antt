use Rattle.std.proofs.Common.{◌++◌, length, ◌∙◌, append_assoc, codes, arith}
use Rattle.std.proofs.lemmas.Iterator.{YieldsList-from_chars}
use Rattle.std.proofs.lemmas.Iterator.Consumers.{YieldsList-turn, YieldsList-end}
use Rattle.std.proofs.lemmas.List.{length_push}
use Rattle.std.specs.Str.{chars}
use Rattle.std.specs.Char.Escape.{encode_utf16}
use Rattle.std.specs.List.{flat_map}
use Rattle.sheet_page.specs.PdfWords.{unit_digits}
use Rattle.sheet_page.proofs.PdfTexts.{one_written}
use Rattle.sheet_page.proofs.Written.{all_written}
use Rattle.sheet_page.proofs.pdf_words.title_entry.Goals as goal

pub loop-c-preserved : goal.loop-c-preserved
loop-c-preserved c =
    let turn = YieldsList-turn (YieldsList-from_chars c.args.title.now c.utf8.title cc) c.loop-c.yielded _ c.loop-c.yielded_by _ _ c.in-Some.c c.in-Some.is c.next.ensures.steps in
    rw (length_push c.loop-c.yielded c.in-Some.c) (one_written (λ c. flat_map unit_digits (encode_utf16 c)) (chars c.args.title.now) _ _ _ _ _ turn c.in_ok-add_units.ensures c.loop-c.invariant)

pub returns : goal.returns
returns c =
    let end = YieldsList-end (YieldsList-from_chars c.args.title.now c.utf8.title cc) c.loop-c.yielded _ c.loop-c.yielded_by _ _ c.in-None.is c.next.ensures.steps in
    let all = all_written (λ c. flat_map unit_digits (encode_utf16 c)) (chars c.args.title.now) (length c.loop-c.yielded) _ (codes "<< /Title <FEFF") c.loop-c.invariant (omega (arith, end.1)) in
    c.in_ok-extend_from_slice-2.ensures.items ∙ (λ i. all i ++ c.as_bytes-2.ensures.value i)
    ∙ append_assoc (codes "<< /Title <FEFF") (flat_map (λ c. flat_map unit_digits (encode_utf16 c)) (chars c.args.title.now)) (codes "> >>")
