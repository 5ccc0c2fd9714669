use Rattle.std.proofs.Common.{◌+◌, List, length, map, All, sym, subst, ap, ◌∙◌, arith, true≢false, below_more}
use Rattle.lattice.specs.declared.soup.Tri.{Tri}
use Rattle.lattice.specs.Points.{of_corner}
use Rattle.lattice.specs.Triangles.{IsBelow}
use Rattle.lattice.specs.Triple.{Triple}
use Rattle.off_reader.proofs.Areas.{long_corners}
use Rattle.off_reader.proofs.Around.{long_fan_from}
use Rattle.off_reader.proofs.FanNumbers.{triangle, below_fan_from}
use Rattle.off_reader.proofs.fan.fan.Goals as goal

pub loop-j-init : goal.loop-j-init
loop-j-init c i h sees = absurd (omega arith)

pub loop-j-preserved : goal.loop-j-preserved
loop-j-preserved c = below_more _ _ c.loop-j.invariant (λ sees. true≢false (sym (c.sees_whole.ensures.1 sees) ∙ c.if-sees_whole.false))

pub returns-then-sees_whole-clause-below : goal.returns-then-sees_whole-clause-below
returns-then-sees_whole-clause-below c =
    let n = length c.args.vertices.now in
    subst (λ (xs : List Tri). All (IsBelow n) xs) (sym c.in_ok-fan_from.ensures) (below_fan_from n c.loop-j.j c.args.numbers.now c.requires.within)

pub returns-then-sees_whole-clause-count : goal.returns-then-sees_whole-clause-count
returns-then-sees_whole-clause-count c =
    ap (λ (xs : List Tri). length xs + 2) c.in_ok-fan_from.ensures ∙ long_fan_from triangle c.args.numbers.now c.loop-j.j c.requires.some c.loop-j-test.true

pub returns-clause-fan : goal.returns-clause-fan
returns-clause-fan c j h =
    let vertices : List Triple = map of_corner c.args.vertices.now in
    c.loop-j.invariant j (omega (arith, h, c.loop-j-test.false, long_corners vertices c.args.numbers.now))
