use Rattle.std.proofs.Common.{◌≡◌, ℕ, ◌++◌, List, ◌∷◌, [], string_bytes, codes, ap, ◌∙◌, append_assoc, append-nil}
use Rattle.std.specs.List.{flat_map}
use Rattle.std.specs.Fmt.{decimal}
use Rattle.job_writer.specs.Called.{angle_name}
use Rattle.job_writer.specs.Pairs.{Pair, key_line, in_quotes}
use Rattle.job_writer.proofs.settings.push_reading.Goals as goal

three_lines : (text : List ℕ) (a b c : Pair) → text ++ key_line a ++ key_line b ++ key_line c ≡ text ++ flat_map key_line (a ∷ b ∷ c ∷ [])
three_lines text a b c = rw (append-nil (key_line c)) (append_assoc (text ++ key_line a) (key_line b) (key_line c) ∙ append_assoc text (key_line a) (key_line b ++ key_line c))

pub returns : goal.returns
returns c =
    let text = string_bytes c.args.text.now in
    let decimals = c.as_str.ensures.value ∙ c.in_ok-decimals_text.ensures in
    let behind : List ℕ → List ℕ → List ℕ = λ before value. before ++ key_line (codes "decimals", value) in
    let second = c.in_ok-push_line-2.ensures ∙ ap (λ (before : List ℕ). behind before c.as_str.result.now) c.in_ok-push_line.ensures ∙ ap (behind (text ++ key_line (codes "version", codes "2"))) decimals in
    let third = c.in_ok-push_word.ensures ∙ ap (λ (before : List ℕ). before ++ key_line (codes "angle", in_quotes c.angle_name.result.now)) second
    ∙ ap (λ (name : List ℕ). text ++ key_line (codes "version", codes "2") ++ key_line (codes "decimals", decimal c.args.job.now.decimals) ++ key_line (codes "angle", in_quotes name)) c.angle_name.ensures in
    third ∙ three_lines text (codes "version", codes "2") (codes "decimals", decimal c.args.job.now.decimals) (codes "angle", in_quotes (angle_name c.args.job.now.third))
