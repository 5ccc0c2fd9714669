use Rattle.std.proofs.Common.{rules, ◌≡◌, ◌==◌, ◌-◌, ◌++◌, ◌<◌, ℕ, false, List, [], ◌∷◌, map, length, Ok, sym, subst, ap, ◌∙◌, arith}
use Rattle.std.proofs.lemmas.Grind.{common_steps}
use Rattle.std.proofs.lemmas.Bool.Decides.{nat_tests}
use Rattle.toml_parser.specs.Lexical.{skip_blank}
use Rattle.job_text.specs.Lines.{TextLine, line_of, lines_after}
use Rattle.job_text.specs.Readings.{Stops}
use Rattle.job_text.specs.Seen.{meaning_seen, line_seen}
use Rattle.job_text.proofs.Turns.{lines_end, lines_more, lines_stopped}
use Rattle.job_text.proofs.lines.text_lines.Goals as goal

pub returns-then-is_empty : goal.returns-then-is_empty
returns-then-is_empty c =
    let inv = c.lines.invariant in
    let start_is = c.skip_blank-start.ensures.rest in
    let none : length (skip_blank c.lines.rest.now) ≡ 0 = grind (arith, nat_tests, common_steps) in
    inv.4 ∙ lines_end (length c.args.text.now) inv.2 (map line_seen c.lines.found.items) c.lines.rest.now (omega (arith, inv.3)) none

pub returns-in-Err : goal.returns-in-Err
returns-in-Err c =
    let inv = c.lines.invariant in
    let start_is = c.skip_blank-start.ensures.rest in
    let other : (length (skip_blank c.lines.rest.now) == 0) ≡ false = grind (arith, nat_tests, common_steps) in
    let read = subst (λ (start : List ℕ). Stops c.in-Err.stop (line_of (length c.args.text.now) start)) start_is c.in-Err.ensures.value in
    subst (Stops c.in-Err.stop) (sym inv.4) (lines_stopped (length c.args.text.now) inv.2 (map line_seen c.lines.found.items) c.lines.rest.now (omega (arith, inv.3)) other c.in-Err.stop read)

pub lines-preserved : goal.lines-preserved
lines-preserved c =
    let inv = c.lines.invariant in
    let size = length c.args.text.now in
    let start_is = c.skip_blank-start.ensures.rest in
    let other : (length (skip_blank c.lines.rest.now) == 0) ≡ false = grind (arith, nat_tests, common_steps) in
    let meaning = meaning_seen c.in-Ok.read.0 in
    let behind = c.in-Ok.read.1.now in
    let read : line_of size (skip_blank c.lines.rest.now) ≡ Ok (meaning, behind) = ap (line_of size) (sym start_is) ∙ c.in-Ok.ensures.value in
    let line : TextLine = record { at = size - length (skip_blank c.lines.rest.now); meaning = meaning } in
    let pushed : map line_seen c.push.new.self.items ≡ map line_seen c.lines.found.items ++ line ∷ [] =
    subst (λ (start : List ℕ). map line_seen c.push.new.self.items ≡ map line_seen c.lines.found.items ++ record { at = size - length start; meaning = meaning } ∷ []) start_is (grind (arith, common_steps)) in
    let shorter : length behind < length c.lines.rest.now = omega (arith, c.in-Ok.ensures.shorter, c.skip_blank-start.ensures.within) in (
      search rules,
      omega (arith, inv.1, shorter),
      inv.2 - 1,
      omega (arith, inv.3, shorter),
      inv.4 ∙ lines_more size inv.2 (map line_seen c.lines.found.items) c.lines.rest.now meaning behind (omega (arith, inv.3)) other read
          ∙ ap (λ (found : List TextLine). lines_after size (inv.2 - 1) found behind) (sym pushed),
    )
