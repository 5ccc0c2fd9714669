use Rattle.std.proofs.Common.{◌≡◌, length, slice_get, Some, refl, arith}
use Rattle.std.proofs.lemmas.Option.{slice_get_read}
use Rattle.geometry.specs.Parts.{part_of}
use Rattle.solid_mesh.proofs.FlatLemmas.{face_read}
use Rattle.solid_mesh.proofs.placed.place.Goals as goal

pub returns-clause-placed : goal.returns-clause-placed
returns-clause-placed c =
    let soup = c.args.soup.now in
    let s = part_of soup in
    let t = c.index.result.now in
    let at : slice_get s.triangles c.args.tri ≡ Some t = slice_get_read s.triangles (length s.triangles) c.args.tri t refl c.requires.tri c.index.ensures in
    record {
      face = face_read s soup.in_range t c.args.tri at c.index-a.result.now c.index-b.result.now c.index-c.result.now c.index-a.ensures c.index-b.ensures c.index-c.ensures;
      numbered = refl;
      of_face = c.triangle_bounds-bounds.ensures;
      has = c.greatest_corner-corner.ensures.has;
      at = slice_get_read s.corners (length s.corners) c.greatest_corner-corner.result c.index-2.result.now refl (omega (arith, c.greatest_corner-corner.ensures.below, c.requires.counts)) c.index-2.ensures;
      rim = c.rim_of-rim.ensures;
    }
