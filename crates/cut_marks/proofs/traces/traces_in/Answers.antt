use Rattle.std.proofs.Common.{◌≡◌, length, take, List, [], sym, subst, arith}
use Rattle.std.proofs.lemmas.Grind.{common_steps}
use Rattle.std.proofs.lemmas.List.{take_all}
use Rattle.integers.proofs.Lists.{front_more}
use Rattle.lattice.specs.declared.cuts.Cut.{Cut}
use Rattle.solid_mesh.specs.Solids.{solid_part}
use Rattle.cut_marks.specs.Traces.{AreTraces}
use Rattle.cut_marks.specs.Traces.AreTraces.{none}
use Rattle.cut_marks.specs.declared.ways.Trace.{Trace}
use Rattle.cut_marks.proofs.traces.traces_in.Goals as goal

pub loop-number-init : goal.loop-number-init
loop-number-init c = subst (λ (ts : List Trace). AreTraces c.args.sheet.now (solid_part c.args.solid.now) c.args.view [] ts) (sym c.new-traces.ensures.items) none

pub loop-number-preserved : goal.loop-number-preserved
loop-number-preserved c =
    let cuts = c.args.cuts.now in
    let k = c.loop-number.number in
    let long : k ≡ length (take k cuts) = grind (arith, common_steps, c.loop-number-test.true) in
    subst (λ (xs : List Cut). AreTraces c.args.sheet.now (solid_part c.args.solid.now) c.args.view xs c.add_trace.new.traces.items)
    (front_more cuts k c.index-cuts-number.result c.loop-number-test.true (sym c.index-cuts-number.is)) (c.in_ok-add_trace.ensures (take k cuts) long c.loop-number.invariant)

pub returns : goal.returns
returns c = subst (λ (xs : List Cut). AreTraces c.args.sheet.now (solid_part c.args.solid.now) c.args.view xs c.loop-number.traces.items) (take_all c.loop-number.number c.args.cuts.now c.loop-number-test.false) c.loop-number.invariant
