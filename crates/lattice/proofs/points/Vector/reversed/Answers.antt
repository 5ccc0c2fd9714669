use Rattle.lattice.proofs.VectorSizes.{reversed_component}
use Rattle.lattice.proofs.points.Vector.reversed.Goals as goal

pub returns-clause-value : goal.returns-clause-value
returns-clause-value c =
    let s = c.args.self.now in
    λ i. record { x = reversed_component s.x s.x_in_range i; y = reversed_component s.y s.y_in_range i; z = reversed_component s.z s.z_in_range i }
