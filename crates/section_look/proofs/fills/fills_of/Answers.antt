use Rattle.std.proofs.Common.{List, Bool, take, length, subst, arith, ◌≤◌}
use Rattle.std.proofs.lemmas.List.{take_all}
use Rattle.section_look.specs.Looks.{AreFills}
use Rattle.section_look.specs.declared.regions.Region.{Region}
use Rattle.section_look.proofs.Filled.{fills_step}
use Rattle.section_look.proofs.fills.fills_of.Goals as goal

pub loop-k-preserved : goal.loop-k-preserved
loop-k-preserved c place at =
    fills_step c.args.sheet.now place c.args.regions.now c.args.marks.now c.loop-k.k c.index-regions-k.result _ _ c.loop-k-test.true (omega (arith, c.loop-k-test.true, c.requires.marked)) c.index-regions-k.is
    (c.loop-k.invariant place at) (c.in_ok-add_fill.ensures place at)

pub returns : goal.returns
returns c place at =
    let fills = c.loop-k.fills.items in
    let all : length c.args.marks.now ≤ c.loop-k.k = omega (arith, c.loop-k-test.false, c.requires.marked) in
    subst (λ (rs : List Region). AreFills c.args.sheet.now place rs c.args.marks.now fills) (take_all c.loop-k.k c.args.regions.now c.loop-k-test.false)
    (subst (λ (ms : List Bool). AreFills c.args.sheet.now place (take c.loop-k.k c.args.regions.now) ms fills) (take_all c.loop-k.k c.args.marks.now all) (c.loop-k.invariant place at))
