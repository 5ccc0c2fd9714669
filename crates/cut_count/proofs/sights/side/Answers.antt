use Rattle.std.proofs.Common.{◌∙◌, ◌^◌}
use Rattle.std.specs.Prelude.{◌-ℤ◌, ◌*ℤ◌}
use Rattle.std.specs.Int.{w128}
use Rattle.integers.proofs.Worth.{known, pass}
use Rattle.lattice.specs.Points.{of_spot}
use Rattle.lattice.specs.Cuts.{plane_of}
use Rattle.geometry.specs.Faces.{difference}
use Rattle.hiding_laws.specs.Values.{offset}
use Rattle.cut_count.proofs.SeenTurns.{turn_is}
use Rattle.cut_count.proofs.sights.side.Goals as goal

pub returns : goal.returns
returns c =
    let seen = c.args.seen.now in
    let x = seen.step in
    let y = c.offset in
    (pass w128 (known c.turn.result (2 ^ 93) c.turn.ensures.size) tt).is ∙ c.turn.ensures.value
    ∙ (λ i. (seen.across i *ℤ y.ensures.upward i) -ℤ (seen.upward i *ℤ y.ensures.across i))
    ∙ turn_is (plane_of seen.cut) (difference seen.at.a seen.at.b) (offset seen.at.a (of_spot c.args.p.now))
