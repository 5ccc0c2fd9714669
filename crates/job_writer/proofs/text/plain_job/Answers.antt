use Rattle.std.proofs.Common.{◌≡◌, IsUtf8, string_bytes, ap, rules, subst, ◌∙◌}
use Rattle.std.proofs.lemmas.Str.{IsUtf8-string_bytes}
use Rattle.job_file.specs.Documents.{job_of_bytes}
use Rattle.job_file.specs.Seen.{job_seen}
use Rattle.job_writer.specs.PlainJobs.{plain_job}
use Rattle.job_writer.proofs.Proper.{proper}
use Rattle.job_writer.proofs.Reading.{job_read}
use Rattle.job_writer.proofs.Sizes.{job_short}
use Rattle.job_writer.proofs.text.plain_job.Goals as goal

written : (c : goal.In_ok-push_views) → string_bytes c.push_views.new.text ≡ plain_job (job_seen c.args.job.now)
written c = search rules

pub returns-clause-read : goal.returns-clause-read
returns-clause-read c =
    let job = job_seen c.args.job.now in
    let utf8 : IsUtf8 (plain_job job) = subst IsUtf8 (written c) (IsUtf8-string_bytes c.push_views.new.text) in
    ap job_of_bytes (written c) ∙ job_read job (proper c.args.job.now c.in_ok-push_settings.ensures.utf8) utf8

pub returns-clause-short : goal.returns-clause-short
returns-clause-short c = rw (written c) (job_short (job_seen c.args.job.now) (proper c.args.job.now c.in_ok-push_settings.ensures.utf8))
