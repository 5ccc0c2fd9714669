use Rattle.std.specs.Prelude.{◌-ℤ◌}
use Rattle.meeting.proofs.BoxAxes.{read}
use Rattle.solid_mesh.proofs.BoundLemmas.{difference_read, triangle_range_as}
use Rattle.solid_mesh.proofs.bounds.triangle_bounds.Goals as goal

pub returns : goal.returns
returns c =
    let p = c.args.a.now in
    let q = c.args.b.now in
    let r = c.args.c.now in
    record {
      x = triangle_range_as p.x q.x r.x (read p.x p.x_in_range) (read q.x q.x_in_range) (read r.x r.x_in_range) c.triangle_range.result c.triangle_range.ensures;
      y = triangle_range_as p.y q.y r.y (read p.y p.y_in_range) (read q.y q.y_in_range) (read r.y r.y_in_range) c.triangle_range-2.result c.triangle_range-2.ensures;
      z = triangle_range_as p.z q.z r.z (read p.z p.z_in_range) (read q.z q.z_in_range) (read r.z r.z_in_range) c.triangle_range-3.result c.triangle_range-3.ensures;
      xy = triangle_range_as (p.x -ℤ p.y) (q.x -ℤ q.y) (r.x -ℤ r.y) (difference_read p.x p.y p.x_in_range p.y_in_range) (difference_read q.x q.y q.x_in_range q.y_in_range) (difference_read r.x r.y r.x_in_range r.y_in_range)
          c.triangle_range-4.result c.triangle_range-4.ensures;
      yz = triangle_range_as (p.y -ℤ p.z) (q.y -ℤ q.z) (r.y -ℤ r.z) (difference_read p.y p.z p.y_in_range p.z_in_range) (difference_read q.y q.z q.y_in_range q.z_in_range) (difference_read r.y r.z r.y_in_range r.z_in_range)
          c.triangle_range-5.result c.triangle_range-5.ensures;
      zx = triangle_range_as (p.z -ℤ p.x) (q.z -ℤ q.x) (r.z -ℤ r.x) (difference_read p.z p.x p.z_in_range p.x_in_range) (difference_read q.z q.x q.z_in_range q.x_in_range) (difference_read r.z r.x r.z_in_range r.x_in_range)
          c.triangle_range-6.result c.triangle_range-6.ensures;
    }
