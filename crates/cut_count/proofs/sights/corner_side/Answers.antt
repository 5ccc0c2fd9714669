use Rattle.std.proofs.Common.{◌∙◌, ◌^◌}
use Rattle.std.specs.Prelude.{◌-ℤ◌, ◌*ℤ◌}
use Rattle.std.specs.Int.{w128}
use Rattle.integers.proofs.Worth.{known, pass}
use Rattle.lattice.specs.Points.{of_spot}
use Rattle.lattice.specs.Cuts.{plane_of}
use Rattle.hiding_laws.specs.Values.{offset}
use Rattle.cut_count.proofs.SeenTurns.{turn_is}
use Rattle.cut_count.proofs.sights.corner_side.Goals as goal

pub returns-clause-value : goal.returns-clause-value
returns-clause-value c =
    let x = c.offset in
    let y = c.offset-2 in
    let k = c.args.k.now in
    (pass w128 (known c.turn.result (2 ^ 93) c.turn.ensures.size) tt).is ∙ c.turn.ensures.value
    ∙ (λ i. (x.ensures.across i *ℤ y.ensures.upward i) -ℤ (x.ensures.upward i *ℤ y.ensures.across i))
    ∙ turn_is (plane_of c.args.cut.now) (offset k (of_spot c.args.p.now)) (offset k (of_spot c.args.q.now))
