-- What the usual job asks for.
use Rattle.std.proofs.Common.{◌≡◌, [], Ok}
use Rattle.job_file.specs.Documents.{JobValues, job_of_bytes}
use Rattle.job_file.proofs.DocumentLemmas.{empty, usual}

-- the usual job asks for no output
pub usual_outputs : (values : JobValues) → job_of_bytes [] ≡ Ok values → values.outputs ≡ []
usual_outputs values h = cc (empty, usual)
