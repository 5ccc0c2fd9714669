use Rattle.std.proofs.Common.{sym, subst}
use Rattle.std.specs.Prelude.{option_copied}
use Rattle.sheet_job.specs.declared.any.AnyJob.{AnyJob}
use Rattle.sheet_input.specs.Answers.{GivesSheet}
use Rattle.sheet_input.specs.Fits.{FitsBy}
use Rattle.sheet_input.specs.Seen.{any_seen}
use Rattle.sheet_input.specs.inner.Taking.{settled_seen, text_seen}
use Rattle.sheet_input.proofs.fit.fit_part.Goals as goal

pub returns-in-Older-clause-answer : goal.returns-in-Older-clause-answer
returns-in-Older-clause-answer c =
    let P : AnyJob → Type 0 = λ any. GivesSheet settled_seen (FitsBy c.args.title (any_seen any) (option_copied c.args.size) (text_seen c.args.text.now)) c.older_settled.result in
    subst P (sym c.in-Older.is) c.older_settled.ensures.answer
