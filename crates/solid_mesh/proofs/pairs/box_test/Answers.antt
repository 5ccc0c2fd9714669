use Rattle.std.proofs.Common.{◌≡◌, ◌/◌, ◌<◌, length, slice_get, Some, refl, arith}
use Rattle.std.proofs.lemmas.Option.{slice_get_read}
use Rattle.integers.proofs.Logic.{↔-trans}
use Rattle.geometry.specs.Parts.{part_of}
use Rattle.solid_mesh.proofs.FlatLemmas.{face_read}
use Rattle.solid_mesh.proofs.Meets.{box_here}
use Rattle.solid_mesh.proofs.Readings.{side_read}
use Rattle.solid_mesh.proofs.pairs.box_test.Goals as goal

pub returns-clause-value : goal.returns-clause-value
returns-clause-value c =
    let soup = c.args.soup.now in
    let s = part_of soup in
    let half = c.args.half in
    let t = c.index.result.now in
    let within : half / 3 < length s.triangles = omega (arith, c.requires.half) in
    let at : slice_get s.triangles (half / 3) ≡ Some t = slice_get_read s.triangles (length s.triangles) (half / 3) t refl within c.index.ensures in
    let e = side_read s soup.in_range half t at c.ends-m.result.0 c.ends-m.result.1 c.ends-m.ensures.start c.ends-m.ensures.end c.index-6.result.now c.index-7.result.now c.index-6.ensures c.index-7.ensures in
    let u = c.index-2.result.now in
    let at_u : slice_get s.triangles c.args.tri ≡ Some u = slice_get_read s.triangles (length s.triangles) c.args.tri u refl c.requires.tri c.index-2.ensures in
    let f = face_read s soup.in_range u c.args.tri at_u c.index-3.result.now c.index-4.result.now c.index-5.result.now c.index-3.ensures c.index-4.ensures c.index-5.ensures in
    ↔-trans c.boxes_meet.ensures (box_here s half c.args.tri e f refl)
