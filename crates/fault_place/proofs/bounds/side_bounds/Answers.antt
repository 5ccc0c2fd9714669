use Rattle.std.proofs.Common.{sym, refl}
use Rattle.geometry.specs.Parts.{part_of}
use Rattle.solid_mesh.proofs.Readings.{side_read}
use Rattle.fault_place.specs.Places.{stretch}
use Rattle.fault_place.proofs.bounds.side_bounds.Goals as goal

pub returns : goal.returns
returns c =
    let s = part_of c.args.soup.now in
    let half = c.side_at-from.ensures in
    let p = c.index.result.now in
    let q = c.index-2.result.now in
    (stretch p q, (side_read s c.args.soup.now.in_range c.args.half half.tri half.at c.side_at-from.result.from c.side_at-from.result.to (sym half.start) (sym half.end) p q c.index.ensures c.index-2.ensures, refl), c.of_stretch.ensures)
