use Rattle.std.proofs.Common.{slice_get, sym, ap, ◌∙◌}
use Rattle.lattice.specs.Points.{of_dir}
use Rattle.solid_mesh.specs.Solids.{solid_part}
use Rattle.out_grid.specs.inner.Places.{raster_of, course_of}
use Rattle.out_grid.proofs.EdgeCourses.{course_of_ends}
use Rattle.out_grid.proofs.places.course_along.Goals as goal

pub returns-clause-of_edge : goal.returns-clause-of_edge
returns-clause-of_edge c e numbered =
    let s = solid_part c.args.solid.now in
    let a = c.place_of-a.result in
    let b = c.place_of-b.result in
    let given = c.edge-numbers.ensures.each e numbered in
    course_of_ends (of_dir c.args.d.now) (raster_of c.args.raster.now) e.a e.b a.u a.v b.u b.v (course_of c.between.result) c.between.ensures.ends c.between.ensures.width c.between.ensures.height
    (c.place_of-a.ensures.at e.a (ap (slice_get s.corners) (sym given.a) ∙ e.at_m)) (c.place_of-b.ensures.at e.b (ap (slice_get s.corners) (sym given.b) ∙ e.at_n))
