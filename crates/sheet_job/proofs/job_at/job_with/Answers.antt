use Rattle.std.proofs.Common.{◌≡◌, length, arith}
use Rattle.sheet_job.proofs.JobAtLemmas.{as_many, apart_there}
use Rattle.sheet_job.proofs.job_at.job_with.Goals as goal

pub invariant_of-result-clause-some_views : goal.invariant_of-result-clause-some_views
invariant_of-result-clause-some_views c =
    let many : length c.args.views.items ≡ length c.args.job.now.views.items = as_many c.args.decimals c.args.job.now.unit c.args.job.now.views.items c.args.views.items c.requires.views in
    omega (arith, many, c.args.job.now.some_views)

pub invariant_of-result-clause-few_views : goal.invariant_of-result-clause-few_views
invariant_of-result-clause-few_views c =
    let many : length c.args.views.items ≡ length c.args.job.now.views.items = as_many c.args.decimals c.args.job.now.unit c.args.job.now.views.items c.args.views.items c.requires.views in
    omega (arith, many, c.args.job.now.few_views)

pub invariant_of-result-clause-named_apart : goal.invariant_of-result-clause-named_apart
invariant_of-result-clause-named_apart c = apart_there c.args.decimals c.args.job.now.unit c.args.job.now.views.items c.args.views.items c.requires.views c.args.job.now.named_apart
