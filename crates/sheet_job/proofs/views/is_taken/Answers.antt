use Rattle.std.proofs.Common.{◌≡◌, false, map, arith}
use Rattle.std.proofs.lemmas.Grind.{common_steps}
use Rattle.std.specs.List.{list_any}
use Rattle.sheet_job.specs.SheetSeen.{sheet_view_seen}
use Rattle.job_file.specs.ViewKeys.{is_named}
use Rattle.sheet_job.proofs.NameLemmas.{untaken}
use Rattle.sheet_job.proofs.views.is_taken.Goals as goal

pub returns-clause-apart : goal.returns-clause-apart
returns-clause-apart c =
    let none : list_any (λ v. is_named c.args.name v.named) (map sheet_view_seen c.args.earlier.now) ≡ false = grind (arith, common_steps) in
    λ _ k d. untaken c.args.name c.args.earlier.now k d none
