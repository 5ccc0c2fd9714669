use Rattle.std.proofs.Common.{◌≡◌, length, slice_get, Some, refl}
use Rattle.std.proofs.lemmas.Option.{slice_get_read}
use Rattle.geometry.specs.Parts.{part_of}
use Rattle.solid_mesh.proofs.FlatLemmas.{face_read}
use Rattle.fault_place.specs.Places.{triangle}
use Rattle.fault_place.proofs.bounds.triangle_bounds.Goals as goal

pub returns : goal.returns
returns c =
    let s = part_of c.args.soup.now in
    let t = c.index.result.now in
    let at : slice_get s.triangles c.args.number ≡ Some t = slice_get_read s.triangles (length s.triangles) c.args.number t refl c.requires c.index.ensures in
    let p = c.index-2.result.now in
    let q = c.index-3.result.now in
    let r = c.index-4.result.now in
    (triangle p q r, (face_read s c.args.soup.now.in_range t c.args.number at p q r c.index-2.ensures c.index-3.ensures c.index-4.ensures, refl, refl), c.of_triangle.ensures)
