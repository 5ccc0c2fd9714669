use Rattle.std.proofs.Common.{◌≡◌, arith, ap, ◌∙◌, to_z, of_z}
use Rattle.std.specs.Int.{w8, w128}
use Rattle.std.proofs.lemmas.Int.{ints}
use Rattle.lattice.specs.Triple.{dot, cross}
use Rattle.lattice.specs.Points.{of_dir}
use Rattle.geometry.specs.Views.{sign_of}
use Rattle.solid_mesh.proofs.signs.facing_sign.Goals as goal

pub returns : goal.returns
returns c =
    let d = of_dir c.args.d.now in
    let out : to_z w8 (of_z w8 c.sign.result) ≡ c.sign.result = omega (arith, ints) in
    let passed : to_z w128 (of_z w128 c.view_cross.result) ≡ c.view_cross.result = omega (arith, ints) in
    let along = c.view_cross.ensures.value ∙ (λ i. dot d (cross (c.between.ensures i) (c.between-2.ensures i))) in
    out ∙ c.sign.ensures ∙ ap sign_of (passed ∙ along)
