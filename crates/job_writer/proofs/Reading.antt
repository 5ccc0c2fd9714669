-- A job's text is read as that job.
use Rattle.std.proofs.Common.{◌≡◌, ℕ, ◌≤◌, false, ◌==◌, List, [], ◌∷◌, length, Some, Ok, IsUtf8, refl, ap, ◌∙◌, arith, suc}
use Rattle.toml_parser.specs.Lexical.{first}
use Rattle.toml.specs.Parse.{skip_bom, parse_document}
use Rattle.toml.specs.Tables.{no_nodes}
use Rattle.toml.proofs.Turns.{document_some}
use Rattle.job_file.specs.Documents.{JobValues, job_of_bytes}
use Rattle.job_file.specs.ViewValues.{ViewValues}
use Rattle.job_file.proofs.DocumentLemmas.{document}
use Rattle.job_writer.specs.PlainJobs.{plain_job}
use Rattle.job_writer.proofs.Lines.{lines_read}
use Rattle.job_writer.proofs.Nodes.{Defines, defined, job_expressions, job_members}
use Rattle.job_writer.proofs.Proper.{IsProper}
use Rattle.job_writer.proofs.Taken.{job_taken}
use Rattle.job_writer.proofs.Written.{all_lines}

no_mark : (text : List ℕ) → (first text == 239) ≡ false → skip_bom text ≡ text
unfolding skip_bom
no_mark text other = rw other

some_defined : (job : JobValues) (views : List ViewValues) → job.views ≡ views → 1 ≤ length views → Defines (job_expressions job) job
some_defined job [] are some = absurd (omega (arith, some))
some_defined job (v ∷ vs) are some = defined job v vs are

table_read : (job : JobValues) → IsProper job → (d : Defines (job_expressions job) job) → parse_document (plain_job job) ≡ Some (job_members job d.views)
table_read job is d =
    let text = plain_job job in
    let read = lines_read (job_expressions job) text text (no_nodes, []) (suc (length text)) (all_lines job is) refl (omega arith) in
    let start = no_mark text refl in
    document_some text (d.root, d.path) (rw start (read ∙ d.runs)) ∙ ap Some d.closed

pub job_read : (job : JobValues) → IsProper job → IsUtf8 (plain_job job) → job_of_bytes (plain_job job) ≡ Ok job
job_read job is utf8 =
    let d = some_defined job job.views refl is.some_views in
    document (plain_job job) (job_members job d.views) (utf8, table_read job is d) ∙ job_taken job d.views is d.tables
