use Rattle.std.proofs.Common.{◌≤◌, ◌-◌, ℕ, List, ◌∷◌, true≢false, length, take, drop, slice_index_or, inl, inr, rules, sym, subst, ◌∙◌}
use Rattle.std.specs.Prelude.{Ok}
use Rattle.part_input.specs.Steps.{RefusesOf}
use Rattle.sheet_job.specs.SheetSeen.{sheet_job_seen}
use Rattle.sheet_input.specs.Faults.{sheet_faults}
use Rattle.sheet_input.specs.Fits.{Attempts, Fits}
use Rattle.sheet_input.specs.Jobs.{own_job}
use Rattle.sheet_job.specs.declared.any.AnyJob.TheVariants as job
use Rattle.sheet_input.specs.inner.Taking.{IsToldFit, settled_seen, text_seen}
use Rattle.sheet_input.proofs.FitSteps.{few_rest, fewer, fits_after, fits_here, front, here_refused, later_refused, none_left, refused_there, short_told, told_here, told_last, told_later}
use Rattle.sheet_input.proofs.fit.+fitted.Goals as goal
use Rattle.sheet_input.proofs.fit.+fitted.Goals.{then-is_short-2, else-is_short-2}

pub returns-in-Ok-clause-answer : goal.returns-in-Ok-clause-answer
returns-in-Ok-clause-answer t c =
    fits_here (Attempts c.args.title.now (own_job (sheet_job_seen c.args.job.now)) (text_seen c.args.text.now)) c.args.first c.args.others.now (settled_seen c.in-Ok.settled) c.in-Ok.ensures.answer

pub fitted-requires : goal.fitted-requires
fitted-requires t c = ((search (rules, fewer)), (c.requires.title, (c.requires.all_few 0 0 c.in-len1-up.len_at_least, few_rest (λ n. n ≤ 6) c.args.others.now c.in-len1-up.len_at_least c.requires.all_few)))

pub returns-in-Ok-fitted-clause-answer : goal.returns-in-Ok-fitted-clause-answer
returns-in-Ok-fitted-clause-answer t c =
    let xs = c.args.others.now in
    let try = Attempts c.args.title.now (own_job (sheet_job_seen c.args.job.now)) (text_seen c.args.text.now) in
    let here = c.in-Err.refusal.fault in
    let P : List ℕ → Type 0 = λ numbers. Fits try c.args.first numbers (Ok (settled_seen c.in-Ok-fitted.settled)) in
    subst P (front xs c.in-len1-up.len_at_least)
    (fits_after try c.args.first here (refused_there (try c.args.first) (text_seen c.args.text.now) here c.in-Err.ensures.of_fit (sym c.is_short.ensures ∙ c.if-is_short.false) c.in-Err.ensures.answer)
    (slice_index_or xs 0 0) (take (length xs - 1) (drop 1 xs)) (settled_seen c.in-Ok-fitted.settled) c.in-Ok-fitted.ensures.answer)

pub returns-in-Err-fitted-clause-answer : goal.returns-in-Err-fitted-clause-answer
returns-in-Err-fitted-clause-answer t c =
    let xs = c.args.others.now in
    let try = Attempts c.args.title.now (own_job (sheet_job_seen c.args.job.now)) (text_seen c.args.text.now) in
    let here = c.in-Err.refusal.fault in
    let later = c.in-Err-fitted.later.fault in
    let P : List ℕ → Type 0 = λ numbers. RefusesOf sheet_faults (Fits try c.args.first numbers) later in
    subst P (front xs c.in-len1-up.len_at_least)
    (later_refused try (text_seen c.args.text.now) c.args.first (slice_index_or xs 0 0) (take (length xs - 1) (drop 1 xs)) here later c.in-Err.ensures.of_fit (sym c.is_short.ensures ∙ c.if-is_short.false)
    c.in-Err.ensures.answer c.in-Err-fitted.ensures.answer (elim c.if-is_short-2.branch [ then-is_short-2 w ↦ inl (sym w.if-is_short-2.ensures) | else-is_short-2 w ↦ inr (sym w.is_range.ensures ∙ sym w.value-is ∙ c.if-is_range.true) ]) c.in-Err-fitted.ensures.of_fit)

pub returns-in-Err-2-clause-answer : goal.returns-in-Err-2-clause-answer
returns-in-Err-2-clause-answer t c =
    let xs = c.args.others.now in
    let try = Attempts c.args.title.now (own_job (sheet_job_seen c.args.job.now)) (text_seen c.args.text.now) in
    let here = c.in-Err.refusal.fault in
    let later = c.in-Err-fitted.later.fault in
    let P : List ℕ → Type 0 = λ numbers. RefusesOf sheet_faults (Fits try c.args.first numbers) here in
    subst P (front xs c.in-len1-up.len_at_least)
    (here_refused try (text_seen c.args.text.now) c.args.first (slice_index_or xs 0 0) (take (length xs - 1) (drop 1 xs)) here later c.in-Err.ensures.of_fit (sym c.is_short.ensures ∙ c.if-is_short.false)
    c.in-Err.ensures.answer c.in-Err-fitted.ensures.answer (elim c.if-is_short-2.branch [ then-is_short-2 w ↦ absurd (true≢false (sym (w.value-is ∙ w.if-is_short-2.true) ∙ c.if-is_range.false)) | else-is_short-2 w ↦ sym w.if-is_short-2.ensures ]) (elim c.if-is_short-2.branch [ then-is_short-2 w ↦ absurd (true≢false (sym (w.value-is ∙ w.if-is_short-2.true) ∙ c.if-is_range.false)) | else-is_short-2 w ↦ sym w.is_range.ensures ∙ sym w.value-is ∙ c.if-is_range.false ]) c.in-Err-fitted.ensures.of_fit)

pub returns-in-empty-clause-told : goal.returns-in-empty-clause-told
returns-in-empty-clause-told t c =
    let title = c.args.title.now in
    let any = job.Own c.args.job.now in
    let text = text_seen c.args.text.now in
    let here = c.in-Err.refusal in
    let P : List ℕ → Type 0 = λ numbers. IsToldFit title any text c.args.first numbers here.fault here.told in
    subst P (sym (none_left c.args.others.now c.in-empty.len_below)) (told_last title any text c.args.first here.fault here.told c.in-Err.ensures.answer c.in-Err.ensures.told)

pub returns-in-Err-fitted-clause-told : goal.returns-in-Err-fitted-clause-told
returns-in-Err-fitted-clause-told t c =
    let xs = c.args.others.now in
    let title = c.args.title.now in
    let any = job.Own c.args.job.now in
    let text = text_seen c.args.text.now in
    let next = slice_index_or xs 0 0 in
    let rest = take (length xs - 1) (drop 1 xs) in
    let here = c.in-Err.refusal.fault in
    let later = c.in-Err-fitted.later in
    let try = Attempts title (own_job (sheet_job_seen c.args.job.now)) text in
    let refused = refused_there (try c.args.first) text here c.in-Err.ensures.of_fit (sym c.is_short.ensures ∙ c.if-is_short.false) c.in-Err.ensures.answer in
    let P : List ℕ → Type 0 = λ numbers. IsToldFit title any text c.args.first numbers later.fault later.told in
    subst P (front xs c.in-len1-up.len_at_least) (elim c.if-is_short-2.branch [
      | then-is_short-2 w ↦ short_told title any text next c.args.first rest (next ∷ rest) later.fault later.told (sym w.if-is_short-2.ensures) c.in-Err-fitted.ensures.told
      | else-is_short-2 w ↦ told_later title any text c.args.first next rest here refused later.fault later.told (sym w.is_range.ensures ∙ sym w.value-is ∙ c.if-is_range.true) c.in-Err-fitted.ensures.told
    ])

pub returns-in-Err-2-clause-told : goal.returns-in-Err-2-clause-told
returns-in-Err-2-clause-told t c =
    let xs = c.args.others.now in
    let title = c.args.title.now in
    let any = job.Own c.args.job.now in
    let text = text_seen c.args.text.now in
    let next = slice_index_or xs 0 0 in
    let rest = take (length xs - 1) (drop 1 xs) in
    let here = c.in-Err.refusal in
    let try = Attempts title (own_job (sheet_job_seen c.args.job.now)) text in
    let refused = refused_there (try c.args.first) text here.fault c.in-Err.ensures.of_fit (sym c.is_short.ensures ∙ c.if-is_short.false) c.in-Err.ensures.answer in
    let P : List ℕ → Type 0 = λ numbers. IsToldFit title any text c.args.first numbers here.fault here.told in
    subst P (front xs c.in-len1-up.len_at_least)
    (told_here title any text c.args.first next rest here.fault here.told refused
    (elim c.if-is_short-2.branch [ then-is_short-2 w ↦ absurd (true≢false (sym (w.value-is ∙ w.if-is_short-2.true) ∙ c.if-is_range.false)) | else-is_short-2 w ↦ sym w.is_range.ensures ∙ sym w.value-is ∙ c.if-is_range.false ]) c.in-Err.ensures.told)
