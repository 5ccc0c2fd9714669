use Rattle.std.proofs.Common.{◌≡◌, ◌∙◌, [], map, sym, ap, arith}
use Rattle.std.proofs.lemmas.Grind.{common_steps}
use Rattle.job_text.specs.Seen.{line_seen}
use Rattle.job_tables.specs.Seen.{entry_seen}
use Rattle.job_tables.specs.Tables.{by_header}
use Rattle.job_tables.specs.inner.Headed.{headed_seen}
use Rattle.job_tables.proofs.Lists.{map-reverse}
use Rattle.job_tables.proofs.headers.by_header.Goals as goal

pair_is : {A B : Type 0} (p : A × B) (x : A) (y : B) → x ≡ p.0 → y ≡ p.1 → (x, y) ≡ p
pair_is {A} {B} p x y e f = ap (λ (z : A). (z, y)) e ∙ ap (λ (z : B). (p.0, z)) f

pub returns : goal.returns
returns c =
    let inv = c.loop-at.invariant in
    let first : map entry_seen c.reverse.new.self.items ≡ (by_header inv.0).0 = ap (map entry_seen) c.reverse.ensures.items ∙ map-reverse entry_seen c.loop-at.first.items ∙ inv.2 in
    let tables : map headed_seen c.reverse-2.new.self.items ≡ (by_header inv.0).1 = ap (map headed_seen) c.reverse-2.ensures.items ∙ map-reverse headed_seen c.loop-at.tables.items ∙ inv.3 in
    let none : c.loop-at.lines.items ≡ [] = grind (arith, common_steps) in
    let all : map line_seen c.args.lines.items ≡ inv.0 = grind (arith, common_steps) in
    pair_is (by_header inv.0) _ _ first tables ∙ ap by_header (sym all)
