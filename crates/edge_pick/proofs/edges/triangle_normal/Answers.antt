use Rattle.std.proofs.Common.{◌∙◌}
use Rattle.lattice.specs.Triple.{cross}
use Rattle.geometry.specs.Faces.{normal}
use Rattle.solid_mesh.specs.Solids.{solid_part}
use Rattle.edge_pick.proofs.Numbered.{face_corners}
use Rattle.edge_pick.proofs.edges.triangle_normal.Goals as goal

pub returns : goal.returns
returns c f at =
    let same = face_corners (solid_part c.args.solid.now) f c.args.triangle c.triangle-corners.result _ _ _ at c.triangle-corners.ensures.listed c.corner-a.ensures c.corner-b.ensures c.corner-c.ensures in
    c.cross.ensures ∙ (λ i. cross (c.between.ensures i) (c.between-2.ensures i)) ∙ (λ i. normal (same.0 i) (same.1 i) (same.2 i))
