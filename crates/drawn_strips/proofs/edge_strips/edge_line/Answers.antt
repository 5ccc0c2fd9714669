use Rattle.std.proofs.Common.{refl, subst}
use Rattle.lattice.specs.Lines.{IsOnLine}
use Rattle.lattice.specs.Points.{Point, of_dir, point_of, OnOneSight}
use Rattle.solid_mesh.specs.Solids.{solid_part}
use Rattle.solid_mesh.proofs.Facts.{edge_there}
use Rattle.edge_pick.proofs.Numbered.{ends_of}
use Rattle.drawn_strips.proofs.edge_strips.edge_line.Goals as goal

pub through-requires : goal.through-requires
through-requires c =
    let s = solid_part c.args.solid.now in
    let d = of_dir c.args.d.now in
    let (e, n) = edge_there c.args.solid.now c.args.edge c.requires.in_range in
    let ends = ends_of s c.edge-numbers.result e (c.edge-numbers.ensures.each e n) _ _ _ _ c.corner.ensures c.corner-2.ensures refl refl in
    λ same. c.requires.seen e n
    (subst (λ (p : Point). OnOneSight d p (point_of e.b)) ends.0 (subst (λ (q : Point). OnOneSight d (point_of c.corner.result) q) ends.1 same))

pub returns : goal.returns
returns c e n =
    let s = solid_part c.args.solid.now in
    let d = of_dir c.args.d.now in
    let ends = ends_of s c.edge-numbers.result e (c.edge-numbers.ensures.each e n) _ _ _ _ c.corner.ensures c.corner-2.ensures refl refl in
    record {
      first = subst (IsOnLine d c.through.result) ends.0 c.through.ensures.first;
      second = subst (IsOnLine d c.through.result) ends.1 c.through.ensures.second;
    }
