use Rattle.std.proofs.Common.{rules, ◌≡◌, ◌==◌, ◌-◌, ◌++◌, ◌<◌, ℕ, true, false, List, [], ◌∷◌, map, length, Ok, sym, subst, ap, ◌∙◌, arith}
use Rattle.std.proofs.lemmas.Grind.{common_steps}
use Rattle.std.proofs.lemmas.Bool.Decides.{nat_tests}
use Rattle.job_text.specs.Readings.{Stops}
use Rattle.job_text.specs.Seen.{item_seen}
use Rattle.job_text.specs.Values.{TextItem, item, after_item, items}
use Rattle.toml_parser.specs.Lexical.{first, skip_ws}
use Rattle.job_text.proofs.Turns.{items_end, items_more, items_stopped, items_stopped_end}
use Rattle.job_text.proofs.list.list.Goals as goal

pub returns-then-first-eq93-clause-value : goal.returns-then-first-eq93-clause-value
returns-then-first-eq93-clause-value c =
    let inv = c.items.invariant in
    let start_is = c.skip_ws-start.ensures.rest in
    let closing : (first (skip_ws c.items.rest.now) == 93) ≡ true = grind (arith, nat_tests, common_steps) in
    rw (c.skip.ensures.rest, start_is) (inv.4 ∙ items_end inv.2 (map item_seen c.items.found.items) c.items.rest.now (omega (arith, inv.3)) closing)

pub returns-in-Err-clause-value : goal.returns-in-Err-clause-value
returns-in-Err-clause-value c =
    let inv = c.items.invariant in
    let start_is = c.skip_ws-start.ensures.rest in
    let other : (first (skip_ws c.items.rest.now) == 93) ≡ false = grind (arith, nat_tests, common_steps) in
    let read = subst (λ (start : List ℕ). Stops c.in-Err.stop (item start)) start_is c.in-Err.ensures.value in
    subst (Stops c.in-Err.stop) (sym inv.4) (items_stopped inv.2 (map item_seen c.items.found.items) c.items.rest.now (omega (arith, inv.3)) other c.in-Err.stop read)

pub returns-in-Err-after_item-clause-value : goal.returns-in-Err-after_item-clause-value
returns-in-Err-after_item-clause-value c =
    let inv = c.items.invariant in
    let start_is = c.skip_ws-start.ensures.rest in
    let stop = c.in-Err-after_item.stop in
    let other : (first (skip_ws c.items.rest.now) == 93) ≡ false = grind (arith, nat_tests, common_steps) in
    let read : item (skip_ws c.items.rest.now) ≡ Ok (item_seen c.in-Ok.read.0, c.in-Ok.read.1.now) = ap item (sym start_is) ∙ c.in-Ok.ensures.value in
    let element = subst (λ (behind : List ℕ). Stops stop (after_item behind)) c.skip_ws.ensures.rest c.in-Err-after_item.ensures.value in
    subst (Stops stop) (sym inv.4) (items_stopped_end inv.2 (map item_seen c.items.found.items) c.items.rest.now (item_seen c.in-Ok.read.0) c.in-Ok.read.1.now (omega (arith, inv.3)) other read stop element)

pub items-preserved : goal.items-preserved
items-preserved c =
    let inv = c.items.invariant in
    let start_is = c.skip_ws-start.ensures.rest in
    let other : (first (skip_ws c.items.rest.now) == 93) ≡ false = grind (arith, nat_tests, common_steps) in
    let read : item (skip_ws c.items.rest.now) ≡ Ok (item_seen c.in-Ok.read.0, c.in-Ok.read.1.now) = ap item (sym start_is) ∙ c.in-Ok.ensures.value in
    let element : after_item (skip_ws c.in-Ok.read.1.now) ≡ Ok c.in-Ok-after_item.after.now = ap after_item (sym c.skip_ws.ensures.rest) ∙ c.in-Ok-after_item.ensures.value in
    let pushed : map item_seen c.push.new.self.items ≡ map item_seen c.items.found.items ++ item_seen c.in-Ok.read.0 ∷ [] = grind (arith, common_steps) in
    let shorter : length c.in-Ok-after_item.after.now < length c.items.rest.now =
    omega (arith, c.in-Ok-after_item.ensures.within, c.skip_ws.ensures.within, c.in-Ok.ensures.shorter, c.skip_ws-start.ensures.within) in (
      search rules,
      omega (arith, inv.1, shorter),
      inv.2 - 1,
      omega (arith, inv.3, shorter),
      inv.4 ∙ items_more inv.2 (map item_seen c.items.found.items) c.items.rest.now (item_seen c.in-Ok.read.0) c.in-Ok.read.1.now c.in-Ok-after_item.after.now (omega (arith, inv.3)) other read element
          ∙ ap (λ (found : List TextItem). items (inv.2 - 1) found c.in-Ok-after_item.after.now) (sym pushed),
    )
