use Rattle.std.proofs.Common.{ap}
use Rattle.geometry.specs.Parts.{Part}
use Rattle.mend_core.specs.Mending.{Made, by_flips}
use Rattle.solid_mesh.proofs.Facts.{sound}
use Rattle.mend_core.proofs.mending.checked.Goals as goal

pub returns-in-Ok-clause-answer : goal.returns-in-Ok-clause-answer
returns-in-Ok-clause-answer c =
    let made : Part → Made = λ p. record { told = by_flips c.args.repair.flips c.args.repair.moved c.args.repair.pairs; part = p } in
    (ap made c.in-Ok.ensures.part, sound c.in-Ok.solid)
