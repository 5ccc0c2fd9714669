use Rattle.std.proofs.Common.{rules, ◌≡◌, ◌<◌, ◌^◌, unsigned_abs, to_z, of_z, subst, sym}
use Rattle.std.specs.Int.{w128}
use Rattle.integers.proofs.Worth.{below_of}
use Rattle.lattice.specs.Triple.{dot}
use Rattle.lattice.specs.Points.{of_vector}
use Rattle.lattice.proofs.VectorSizes.{dot_reads, of_fields}
use Rattle.lattice.proofs.points.Vector.dot.Goals as goal

pub returns-clause-small : goal.returns-clause-small
returns-clause-small c =
    λ h.
    let s = of_vector c.args.self.now in
    let t = of_vector c.args.other.now in
    let value : to_z w128 (of_z w128 c.weighted.result) ≡ dot s t = search rules in
    let P : _ → Type 0 = λ z. unsigned_abs z < 2 ^ 30 in
    subst P (sym value) (below_of (2 ^ 30) (dot_reads 162 (2 ^ 21) s t h (of_fields c.args.other.now)) tt)
