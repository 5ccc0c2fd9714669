use Rattle.std.proofs.Common.{ℕ, ◌+◌, get_or, ap, arith}
use Rattle.lattice.specs.Points.{of_dir}
use Rattle.solid_mesh.specs.Solids.{solid_part, edge_halves}
use Rattle.out_grid.specs.inner.Courses.{IsCourse, span_of}
use Rattle.out_grid.specs.inner.Places.{raster_of, course_of}
use Rattle.out_grid.proofs.CountedSpans.{span_small}
use Rattle.out_grid.proofs.SpanSums.{span_at, spans_none, spans_more}
use Rattle.out_grid.proofs.bounds.spans_of.Goals as goal

pub loop-edge-init : goal.loop-edge-init
loop-edge-init c = record {
  counted = spans_none (of_dir c.args.d.now) (raster_of c.args.raster.now) (solid_part c.args.solid.now) (edge_halves c.args.solid.now);
  small = omega arith;
}

pub loop-edge-preserved : goal.loop-edge-preserved
loop-edge-preserved c =
    let d = of_dir c.args.d.now in
    let r = raster_of c.args.raster.now in
    let solid = c.args.solid.now in
    let edges = c.args.edges.now in
    let k = c.loop-edge.edge-index in
    let walked = c.course_along.result in
    let course = course_of walked in
    let is : IsCourse course = record { ordered = walked.ordered; wide = walked.wide; high = walked.high } in
    let here = span_at d r solid (get_or edges k 0) course is (c.requires.in_range k 0 c.loop-edge-test.true) c.course_along.ensures.of_edge in
    record {
      counted = spans_more d r (solid_part solid) (edge_halves solid) edges k (span_of course) c.loop-edge.sum _ c.loop-edge-test.true c.loop-edge.invariant.counted here
          (ap (λ (n : ℕ). c.loop-edge.sum + n) c.span-sum.ensures.value);
      small = omega (arith, c.loop-edge.invariant.small, c.span-sum.ensures.value, span_small course c.args.columns c.course_along.ensures.inside c.requires.few);
    }
