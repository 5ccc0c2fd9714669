use Rattle.std.proofs.Common.{rules, ◌≡◌, ◌<◌, ◌^◌, ℤ, unsigned_abs, to_z, of_z, subst, sym}
use Rattle.std.specs.Int.{w128}
use Rattle.integers.proofs.Worth.{below_of}
use Rattle.lattice.specs.Triple.{dot}
use Rattle.lattice.specs.Points.{of_vector, point_of, scaled}
use Rattle.lattice.proofs.VectorSizes.{dot_reads}
use Rattle.lattice.proofs.lines.component.Goals as goal

pub returns-clause-size : goal.returns-clause-size
returns-clause-size c =
    let p = c.args.p.now in
    let s = of_vector c.args.axis.now in
    let t = scaled (point_of p) in
    let value : to_z w128 (of_z w128 c.weighted.result) ≡ dot s t = search rules in
    let P : ℤ → Type 0 = λ z. unsigned_abs z < 2 ^ 30 in
    subst P (sym value) (below_of (2 ^ 30) (dot_reads 162 (2 ^ 20) s t c.requires (record { x = p.x_in_range; y = p.y_in_range; z = p.z_in_range })) tt)
