use Rattle.std.specs.Prelude.{[], ◌≡◌, IsTrue}
use Rattle.std.proofs.lemmas.Result.{IfOk-weaker}
use Rattle.job_file.specs.Texts.{is_title}
use Rattle.sheet_input.proofs.TitleChars.{empty_proper}
use Rattle.sheet_input.proofs.title.part_title.Goals as goal

pub returns-clause-proper : goal.returns-clause-proper
returns-clause-proper c = IfOk-weaker c.new-else-is_title.result (λ title. title ≡ []) (λ title. IsTrue (is_title title)) empty_proper c.new-else-is_title.ensures.same
