use Rattle.std.proofs.Common.{rules, FitsSigned}
use Rattle.std.specs.Int.{w128}
use Rattle.std.proofs.lemmas.Int.{to_z-of_z}
use Rattle.lattice.specs.Points.{of_vector}
use Rattle.lattice.proofs.VectorSizes.{dot_near}
use Rattle.lattice.proofs.products.along.Goals as goal

pub returns-clause-near : goal.returns-clause-near
returns-clause-near c =
    let p = c.args.p.now in
    let fits : FitsSigned w128 c.weighted.result = search rules in
    let x_fits : FitsSigned w128 p.x = search rules in
    let y_fits : FitsSigned w128 p.y = search rules in
    let z_fits : FitsSigned w128 p.z = search rules in
    let value = simp to_z-of_z at c.weighted.ensures.value in
    simp to_z-of_z (rw value (dot_near (of_vector c.args.axis.now) p c.requires))
