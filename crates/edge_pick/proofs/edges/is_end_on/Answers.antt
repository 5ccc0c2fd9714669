use Rattle.std.proofs.Common.{◌↔◌, IsTrue, subst}
use Rattle.lattice.specs.Points.{Point, of_dir, of_spot, point_of, OnOneSight}
use Rattle.solid_mesh.specs.Solids.{solid_part}
use Rattle.edge_pick.proofs.Numbered.{ends_of}
use Rattle.edge_pick.proofs.edges.is_end_on.Goals as goal

pub returns : goal.returns
returns c e n =
    let s = solid_part c.args.solid.now in
    let h = c.edge-numbers.ensures.each e n in
    let ends = ends_of s c.edge-numbers.result e h _ _ _ _ c.corner.ensures c.corner-2.ensures c.at-a.ensures c.at-b.ensures in
    let d = of_dir c.args.d.now in
    subst (λ (p : Point). IsTrue c.same_sight.result ↔ OnOneSight d p (point_of e.b)) ends.0
    (subst (λ (q : Point). IsTrue c.same_sight.result ↔ OnOneSight d (of_spot c.at-a.result) q) ends.1 c.same_sight.ensures.sight)
