use Rattle.std.proofs.Common.{◌≡◌, ◌∙◌, ◌<◌, Some, take, length, sym, ap, arith}
use Rattle.std.proofs.lemmas.Bool.Decides.{nat_tests}
use Rattle.std.proofs.lemmas.List.{take_min}
use Rattle.std.proofs.lemmas.Option.{slice_get-get_or}
use Rattle.std.specs.List.{slice_get}
use Rattle.job_tables.proofs.Places.{before_line_of}
use Rattle.job_tables.proofs.refused.before_line.Goals as goal

pub returns-in-Some : goal.returns-in-Some
returns-in-Some c =
    let text = c.args.text.now in
    let bytes = c.as_bytes-bytes.result.now in
    let lines = c.args.lines.now in
    let line = c.in-Some.line.now in
    let within : c.args.index < length lines = let is = c.in-Some.ensures.lookup.0 in grind (arith, nat_tests) in
    let is : slice_get lines c.args.index ≡ Some line = slice_get-get_or lines c.args.index line within ∙ ap Some (sym c.in-Some.ensures.lookup.1) in
    let cut : take c.min.result bytes ≡ take line.at text = ap (λ n. take n bytes) c.min.ensures ∙ take_min line.at bytes ∙ ap (take line.at) c.as_bytes-bytes.ensures.value in
    cut ∙ sym (before_line_of text lines c.args.index line c.if-index-eq0.false is)
