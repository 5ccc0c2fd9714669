use Rattle.std.proofs.Common.{length, ◌+◌, List, FitsSigned, w8, refl, sym, ap, ◌∙◌, arith, rules}
use Rattle.std.proofs.lemmas.Int.{to_z-of_z}
use Rattle.std.proofs.lemmas.List.{length-append}
use Rattle.cross_find.specs.declared.meter.Crossing.{Crossing}
use Rattle.cut_count.proofs.SectionTurns.{crossings_none, crossings_more, crossings_all}
use Rattle.cut_count.proofs.walk.with_section.Goals as goal

pub loop-border-init : goal.loop-border-init
loop-border-init c = record {
  crossings = crossings_none c.args.before.left c.args.before.right c.args.found.now c.new-crossings.result.items c.new-crossings.ensures.items;
  few = ap (λ (xs : List Crossing). length xs) c.new-crossings.ensures.items;
}

pub loop-border-preserved : goal.loop-border-preserved
loop-border-preserved c =
    let f : FitsSigned w8 c.change.result = search rules in
    let g : FitsSigned w8 c.change-in-loop-border.result = search rules in
    record {
      crossings = crossings_more c.args.before.left c.args.before.right c.args.found.now c.loop-border.border-index c.loop-border.there.left c.loop-border.there.right _ _ c.loop-border.crossings.items _ c.border-item.result _
          c.loop-border-test.true (sym c.border-item.is) c.past-there.ensures.left c.past-there.ensures.right c.in_ok-push.ensures.items refl
          (to_z-of_z w8 c.change.result f ∙ c.change.ensures) (to_z-of_z w8 c.change-in-loop-border.result g ∙ c.change-in-loop-border.ensures) c.loop-border.invariant.crossings;
      few = ap (λ (xs : List Crossing). length xs) c.in_ok-push.ensures.items ∙ length-append _ _ ∙ ap (λ n. n + 1) c.loop-border.invariant.few;
    }

pub returns-clause-crossings : goal.returns-clause-crossings
returns-clause-crossings c =
    crossings_all c.args.before.left c.args.before.right c.args.found.now c.loop-border.border-index c.loop-border.there.left c.loop-border.there.right c.loop-border.crossings.items c.loop-border-test.false c.loop-border.invariant.crossings

pub returns-clause-few : goal.returns-clause-few
returns-clause-few c =
    let few = c.loop-border.invariant.few in
    let past = c.loop-border-test.false in
    let within = c.loop-border.auto.border-index-end in
    omega arith
