use Rattle.std.proofs.Common.{◌≡◌, ◌∙◌, suc, length, map, sym, ap, subst, arith}
use Rattle.std.proofs.lemmas.List.{length-map}
use Rattle.job_text.specs.Seen.{line_seen}
use Rattle.job_tables.specs.Refused.{IsToml, before_line}
use Rattle.job_tables.proofs.Places.{empty_is_toml, some_lines, before_end}
use Rattle.job_tables.proofs.refused.refused_line.Goals as goal

pub loop-accepted-init : goal.loop-accepted-init
loop-accepted-init c =
    let text = c.args.text.now in
    let lines = map line_seen c.args.lines.now in
    let same : length lines ≡ length c.args.lines.now = length-map c.args.lines.now line_seen in
    let some = some_lines text lines (c.lines_are_toml.ensures text lines c.requires.lines) c.utf8.text c.requires.refused in
    let whole : before_line text lines (length c.args.lines.now) ≡ text = ap (before_line text lines) (sym same) ∙ before_end text lines some in
    (omega (arith, same, some), omega arith, empty_is_toml, λ accepted. c.requires.refused (subst IsToml whole accepted))

pub returns : goal.returns
returns c =
    let inv = c.loop-accepted.invariant in
    let lines = map line_seen c.args.lines.now in
    let same : length lines ≡ length c.args.lines.now = length-map c.args.lines.now line_seen in
    let next : c.loop-accepted.refused ≡ suc c.loop-accepted.accepted = omega (arith, inv.0, c.loop-accepted-test.false) in
    record {
      inside = omega (arith, inv.0, inv.1, same);
      accepted = inv.2;
      refused = λ accepted. inv.3 (subst (λ i. IsToml (before_line c.args.text.now lines i)) (sym next) accepted);
    }
