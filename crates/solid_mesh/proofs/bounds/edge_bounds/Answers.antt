use Rattle.std.specs.Prelude.{◌-ℤ◌}
use Rattle.meeting.proofs.BoxAxes.{read}
use Rattle.solid_mesh.proofs.BoundLemmas.{difference_read, edge_range_as}
use Rattle.solid_mesh.proofs.bounds.edge_bounds.Goals as goal

pub returns : goal.returns
returns c =
    let p = c.args.p.now in
    let q = c.args.q.now in
    record {
      x = edge_range_as p.x q.x (read p.x p.x_in_range) (read q.x q.x_in_range) c.edge_range.result c.edge_range.ensures;
      y = edge_range_as p.y q.y (read p.y p.y_in_range) (read q.y q.y_in_range) c.edge_range-2.result c.edge_range-2.ensures;
      z = edge_range_as p.z q.z (read p.z p.z_in_range) (read q.z q.z_in_range) c.edge_range-3.result c.edge_range-3.ensures;
      xy = edge_range_as (p.x -ℤ p.y) (q.x -ℤ q.y) (difference_read p.x p.y p.x_in_range p.y_in_range) (difference_read q.x q.y q.x_in_range q.y_in_range) c.edge_range-4.result c.edge_range-4.ensures;
      yz = edge_range_as (p.y -ℤ p.z) (q.y -ℤ q.z) (difference_read p.y p.z p.y_in_range p.z_in_range) (difference_read q.y q.z q.y_in_range q.z_in_range) c.edge_range-5.result c.edge_range-5.ensures;
      zx = edge_range_as (p.z -ℤ p.x) (q.z -ℤ q.x) (difference_read p.z p.x p.z_in_range p.x_in_range) (difference_read q.z q.x q.z_in_range q.x_in_range) c.edge_range-6.result c.edge_range-6.ensures;
    }
