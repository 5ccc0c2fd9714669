use Rattle.std.proofs.Common.{◌≡◌, refl, ◌∙◌, arith, to_z, of_z}
use Rattle.std.specs.Int.{w8}
use Rattle.std.proofs.lemmas.Int.{ints}
use Rattle.std.proofs.lemmas.Option.{get_or_from_slice_get}
use Rattle.lattice.specs.Points.{of_dir}
use Rattle.geometry.specs.Faces.{facing_of}
use Rattle.geometry.specs.Views.{sign_of, face_sign}
use Rattle.solid_mesh.specs.Solids.{solid_part}
use Rattle.geometry.proofs.Listed.{same_element}
use Rattle.solid_mesh.proofs.FlatLemmas.{at_corners}
use Rattle.solid_mesh.proofs.solid.Solid.sign.Goals as goal

pub returns : goal.returns
returns c f at =
    let s = solid_part c.args.self.now in
    let d = of_dir c.args.d.now in
    let t = c.triangle-a.result in
    let out : to_z w8 (of_z w8 c.facing_sign.result) ≡ c.facing_sign.result = omega (arith, ints) in
    let same : f.tri ≡ t = same_element s.triangles f.number c.args.tri f.tri t at f.listed c.triangle-a.ensures.listed in
    let same_sign = at_corners s f t same (λ x y z. sign_of (facing_of d x y z) ≡ face_sign d f) c.corner.result c.corner-2.result c.corner-3.result
    (get_or_from_slice_get s.corners t.a c.corner.result c.corner.result c.corner.ensures)
    (get_or_from_slice_get s.corners t.b c.corner-2.result c.corner-2.result c.corner-2.ensures)
    (get_or_from_slice_get s.corners t.c c.corner-3.result c.corner-3.result c.corner-3.ensures) refl in
    out ∙ c.facing_sign.ensures ∙ same_sign
