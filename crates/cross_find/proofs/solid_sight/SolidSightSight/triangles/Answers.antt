use Rattle.hiding_laws.proofs.Directions.{somewhere}
use Rattle.solid_mesh.proofs.Facts.{sound, in_range, few_corners, few_triangles, edges_are}
use Rattle.cross_find.proofs.solid_sight.SolidSightSight.triangles.Goals as goal

pub returns-clause-seen : goal.returns-clause-seen
returns-clause-seen c =
    let solid = c.args.self.now.solid.now in
    record {
      sound = sound solid;
      within = in_range solid;
      few_corners = few_corners solid;
      few_triangles = few_triangles solid;
      edges = edges_are solid;
      directed = somewhere c.args.self.now.d.now;
    }
