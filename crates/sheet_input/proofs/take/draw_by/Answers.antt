use Rattle.std.proofs.Common.{Err, ap, sym, subst}
use Rattle.std.specs.Prelude.{option_copied}
use Rattle.part_input.proofs.Missing.{of_soup}
use Rattle.part_input.specs.Steps.{IsMissingOf, RefusesOf}
use Rattle.sheet_words.specs.Seen.{named_seen}
use Rattle.sheet_input.specs.Faults.{sheet_faults}
use Rattle.sheet_input.specs.Seen.{any_seen, input_seen}
use Rattle.sheet_input.specs.Steps.{DrawsBy}
use Rattle.sheet_input.specs.declared.refusal.Refusal.{Refusal}
use Rattle.sheet_input.specs.inner.Taking.{IsToldBy, text_seen}
use Rattle.sheet_input.proofs.TakeSteps.{all_settled_if_read, drawn_of_text, drawn_told, settled_as, settled_if_read, sized_as, text_drawn, text_missing, text_refused, titled_as, untaken_told}
use Rattle.sheet_input.proofs.take.draw_by.Goals as goal

pub returns-in-Ok-take_text-clause-answer : goal.returns-in-Ok-take_text-clause-answer
returns-in-Ok-take_text-clause-answer g c = λ told.
    let named = named_seen c.args.request.now in
    let values = any_seen c.args.job in
    let passed = c.in_ok-check_last.ensures.passed in
    text_drawn (g.D.Desk.state c.args.desk.now).files named values c.in-Ok.title (titled_as named.said.title values c.in-Ok.title _ named.part c.in-Ok.ensures.value c.as_str.ensures.same)
    (option_copied c.sample_size.result) (sized_as (option_copied c.sample_size.result) _ named.part c.sample_size.ensures c.as_str-2.ensures.same) passed.0 passed.1
    input_seen (text_seen c.in-Ok-take_text.text) (c.in-Ok-take_text.ensures.answer told) c.draw_text.result c.draw_text.ensures.answer

pub returns-in-Ok-take_text-clause-sample : goal.returns-in-Ok-take_text-clause-sample
returns-in-Ok-take_text-clause-sample g c = λ sample files.
    let named = named_seen c.args.request.now in
    let values = any_seen c.args.job in
    let passed = c.in_ok-check_last.ensures.passed in
    text_drawn files named values c.in-Ok.title (titled_as named.said.title values c.in-Ok.title _ named.part c.in-Ok.ensures.value c.as_str.ensures.same)
    (option_copied c.sample_size.result) (sized_as (option_copied c.sample_size.result) _ named.part c.sample_size.ensures c.as_str-2.ensures.same) passed.0 passed.1
    input_seen (text_seen c.in-Ok-take_text.text) (c.in-Ok-take_text.ensures.sample sample files) c.draw_text.result c.draw_text.ensures.answer

pub returns-in-Ok-take_text-clause-told : goal.returns-in-Ok-take_text-clause-told
returns-in-Ok-take_text-clause-told g c =
    let named = named_seen c.args.request.now in
    drawn_told (g.D.Desk.state c.args.desk.now) named (text_seen c.in-Ok-take_text.text) c.in-Ok-take_text.ensures.answer c.args.job c.in-Ok.title
    (titled_as named.said.title (any_seen c.args.job) c.in-Ok.title _ named.part c.in-Ok.ensures.value c.as_str.ensures.same) c.draw_text.result c.draw_text.ensures.told

pub returns-in-Ok-take_text-clause-settled : goal.returns-in-Ok-take_text-clause-settled
returns-in-Ok-take_text-clause-settled g c =
    let named = named_seen c.args.request.now in
    let values = any_seen c.args.job in
    let passed = c.in_ok-check_last.ensures.passed in
    all_settled_if_read named values passed.0
    (settled_as named values c.in-Ok.title (titled_as named.said.title values c.in-Ok.title _ named.part c.in-Ok.ensures.value c.as_str.ensures.same)
    (option_copied c.sample_size.result) (sized_as (option_copied c.sample_size.result) _ named.part c.sample_size.ensures c.as_str-2.ensures.same) passed.0 passed.1) c.draw_text.result

pub returns-in-Err-take_text-clause-settled : goal.returns-in-Err-take_text-clause-settled
returns-in-Err-take_text-clause-settled g c =
    let named = named_seen c.args.request.now in
    let values = any_seen c.args.job in
    let passed = c.in_ok-check_last.ensures.passed in
    settled_if_read named values passed.0
    (settled_as named values c.in-Ok.title (titled_as named.said.title values c.in-Ok.title _ named.part c.in-Ok.ensures.value c.as_str.ensures.same)
    (option_copied c.sample_size.result) (sized_as (option_copied c.sample_size.result) _ named.part c.sample_size.ensures c.as_str-2.ensures.same) passed.0 passed.1) c.plain.result.fault

pub returns-in-Ok-take_text-clause-of_text : goal.returns-in-Ok-take_text-clause-of_text
returns-in-Ok-take_text-clause-of_text g c =
    drawn_of_text (named_seen c.args.request.now) (any_seen c.args.job) (text_seen c.in-Ok-take_text.text) input_seen c.in-Ok-take_text.ensures.of_size c.draw_text.result c.draw_text.ensures.answer

pub returns-in-Err-take_text-clause-told : goal.returns-in-Err-take_text-clause-told
returns-in-Err-take_text-clause-told g c =
    let old = g.D.Desk.state c.args.desk.now in
    let named = named_seen c.args.request.now in
    let P : Refusal → Type 0 = λ r. IsToldBy old named c.args.job r.fault r.told in
    subst P (sym c.plain.ensures) (untaken_told old named c.args.job c.in-Err-take_text.fault c.in-Err-take_text.ensures.of_part c.in-Err-take_text.ensures.no_text)

pub returns-in-Err-take_text-clause-sample : goal.returns-in-Err-take_text-clause-sample
returns-in-Err-take_text-clause-sample g c = λ sample files.
    let named = named_seen c.args.request.now in
    let values = any_seen c.args.job in
    let passed = c.in_ok-check_last.ensures.passed in
    let P : Refusal → Type 0 = λ r. RefusesOf sheet_faults (DrawsBy files named values) r.fault in
    subst P (sym c.plain.ensures)
    (text_refused files named values c.in-Ok.title (titled_as named.said.title values c.in-Ok.title _ named.part c.in-Ok.ensures.value c.as_str.ensures.same)
    (option_copied c.sample_size.result) (sized_as (option_copied c.sample_size.result) _ named.part c.sample_size.ensures c.as_str-2.ensures.same) passed.0 passed.1
    c.in-Err-take_text.fault (c.in-Err-take_text.ensures.sample sample files))

pub returns-in-Err-take_text-clause-missing : goal.returns-in-Err-take_text-clause-missing
returns-in-Err-take_text-clause-missing g c = λ steady.
    let files = (g.D.Desk.state c.args.desk.now).files in
    let named = named_seen c.args.request.now in
    let values = any_seen c.args.job in
    let passed = c.in_ok-check_last.ensures.passed in
    let fault = c.in-Err-take_text.fault in
    let P : Refusal → Type 0 = λ r. IsMissingOf sheet_faults (DrawsBy files named values) r.fault in
    subst P (sym c.plain.ensures)
    (text_missing files named values c.in-Ok.title (titled_as named.said.title values c.in-Ok.title _ named.part c.in-Ok.ensures.value c.as_str.ensures.same)
    (option_copied c.sample_size.result) (sized_as (option_copied c.sample_size.result) _ named.part c.sample_size.ensures c.as_str-2.ensures.same) passed.0 passed.1
    fault (of_soup files named.part fault c.in-Err-take_text.ensures.of_part) (λ is. (c.in-Err-take_text.ensures.missing steady).0 (ap Err is)))
