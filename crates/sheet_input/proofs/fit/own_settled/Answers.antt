use Rattle.std.proofs.Common.{ℕ, List, ap}
use Rattle.std.specs.Prelude.{option_copied}
use Rattle.sheet_job.specs.SheetSeen.{sheet_job_seen}
use Rattle.sheet_input.specs.Answers.{GivesSheet}
use Rattle.sheet_input.specs.Fits.{Attempts, Fits}
use Rattle.sheet_input.specs.Jobs.{own_job}
use Rattle.sheet_input.specs.inner.Taking.{settled_seen, text_seen}
use Rattle.sheet_input.proofs.FitSteps.{by_file, by_number, by_sample}
use Rattle.sheet_input.proofs.fit.own_settled.Goals as goal

pub returns-in-Some-default-clause-answer : goal.returns-in-Some-default-clause-answer
returns-in-Some-default-clause-answer c =
    let try = Attempts c.args.title (own_job (sheet_job_seen c.args.job)) (text_seen c.args.text.now) in
    let P : ℕ → List ℕ → Type 0 = λ n ns. GivesSheet settled_seen (Fits try n ns) c.fitted.result in
    by_number P c.args.job.decimals (option_copied c.args.size) c.in-Some-default.decimals c.in-Some-default.is-0 c.fitted.ensures.answer

pub returns-in-None-Some-clause-answer : goal.returns-in-None-Some-clause-answer
returns-in-None-Some-clause-answer c =
    let try = Attempts c.args.title (own_job (sheet_job_seen c.args.job)) (text_seen c.args.text.now) in
    let P : ℕ → List ℕ → Type 0 = λ n ns. GivesSheet settled_seen (Fits try n ns) c.fitted-in-None-Some.result in
    by_sample P c.args.job.decimals (option_copied c.args.size) c.in-None-Some.field-0-1.now c.in-None-Some.is-0 (ap option_copied c.in-None-Some.is-1) c.fitted-in-None-Some.ensures.answer

pub returns-clause-answer : goal.returns-clause-answer
returns-clause-answer c =
    let try = Attempts c.args.title (own_job (sheet_job_seen c.args.job)) (text_seen c.args.text.now) in
    let P : ℕ → List ℕ → Type 0 = λ n ns. GivesSheet settled_seen (Fits try n ns) c.fitted-in-None-None.result in
    by_file P c.args.job.decimals (option_copied c.args.size) c.in-None-None.is-0 (ap option_copied c.in-None-None.is-1) c.fitted-in-None-None.ensures.answer
