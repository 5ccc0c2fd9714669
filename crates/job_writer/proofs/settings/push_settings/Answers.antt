use Rattle.std.proofs.Common.{◌≡◌, ℕ, ◌++◌, List, take, drop, string_bytes, ap, ◌∙◌, append_assoc}
use Rattle.std.proofs.lemmas.List.Concat.{flat_map-append}
use Rattle.std.specs.List.{flat_map}
use Rattle.job_file.specs.Seen.{job_seen}
use Rattle.job_writer.specs.Pairs.{Pair, key_line}
use Rattle.job_writer.specs.PlainJobs.{job_pairs}
use Rattle.job_writer.proofs.settings.push_settings.Goals as goal

three_parts : (text : List ℕ) (first next last : List Pair) → text ++ flat_map key_line first ++ flat_map key_line next ++ flat_map key_line last ≡ text ++ flat_map key_line (first ++ (next ++ last))
three_parts text first next last =
    rw (flat_map-append key_line first (next ++ last), flat_map-append key_line next last)
    (append_assoc (text ++ flat_map key_line first) (flat_map key_line next) (flat_map key_line last) ∙ append_assoc text (flat_map key_line first) (flat_map key_line next ++ flat_map key_line last))

pub returns-clause-text : goal.returns-clause-text
returns-clause-text c =
    let pairs = job_pairs (job_seen c.args.job.now) in
    let behind : List Pair → List ℕ → List ℕ = λ more before. before ++ flat_map key_line more in
    c.in_ok-push_rest.ensures.text ∙ ap (behind (drop 6 pairs)) (c.in_ok-push_drawing.ensures ∙ ap (behind (take 3 (drop 3 pairs))) c.in_ok-push_reading.ensures)
    ∙ three_parts (string_bytes c.args.text.now) (take 3 pairs) (take 3 (drop 3 pairs)) (drop 6 pairs)
