use Rattle.std.proofs.Common.{◌≡◌, ◌*◌, ◌/◌, ◌<◌, length, get_or, slice_get, Some, refl, arith}
use Rattle.std.proofs.lemmas.Option.{slice_get-get_or, slice_get_read}
use Rattle.geometry.specs.Parts.{part_of}
use Rattle.solid_mesh.proofs.Readings.{side_read}
use Rattle.solid_mesh.proofs.search.reach_of.Goals as goal

pub returns : goal.returns
returns c =
    let soup = c.args.soup.now in
    let s = part_of soup in
    let halves = c.args.halves.now in
    let half = get_or halves c.args.edge 0 in
    let t = c.index.result.now in
    let whole : half < 3 * length s.triangles = c.requires.halves c.args.edge 0 c.requires.edge in
    let within : half / 3 < length s.triangles = omega (arith, whole) in
    let at : slice_get s.triangles (half / 3) ≡ Some t = slice_get_read s.triangles (length s.triangles) (half / 3) t refl within c.index.ensures in
    record {
      half = half;
      listed = slice_get-get_or halves c.args.edge 0 c.requires.edge;
      side = side_read s soup.in_range half t at c.ends-m.result.0 c.ends-m.result.1 c.ends-m.ensures.start c.ends-m.ensures.end c.index-p.result.now c.index-q.result.now c.index-p.ensures c.index-q.ensures;
      of_side = c.edge_bounds.ensures;
      start = refl;
      end = refl;
      at_start = refl;
      at_end = refl;
    }
