use Rattle.std.proofs.Common.{◌≡◌, ℕ, ◌+◌, List, [], ◌∷◌, ◌++◌, get_or, take, sym, subst, arith}
use Rattle.std.proofs.lemmas.List.{take_more, take_all}
use Rattle.lattice.specs.Points.{of_dir}
use Rattle.solid_mesh.specs.Solids.{solid_part, edge_halves}
use Rattle.solid_mesh.specs.Stars.{lists_of}
use Rattle.out_grid.specs.inner.Courses.{Meets}
use Rattle.out_grid.specs.inner.Lists.{AreHeld}
use Rattle.out_grid.specs.inner.Places.{raster_of, course_of}
use Rattle.out_grid.proofs.Bridges.{meets}
use Rattle.out_grid.proofs.CountedSpans.{front_below, span_small, counted_more, counted_in_all}
use Rattle.out_grid.proofs.Held.{held_none, held_more}
use Rattle.out_grid.proofs.Passing.{is_course}
use Rattle.out_grid.proofs.Rising.{fresh}
use Rattle.out_grid.proofs.putting.put_outlines.Goals as goal

pub loop-outline-init : goal.loop-outline-init
loop-outline-init c = record {
  long = c.requires.long;
  held = held_none (of_dir c.args.d.now) (raster_of c.args.raster.now) (solid_part c.args.solid.now) (edge_halves c.args.solid.now) c.args.columns (lists_of c.args.cells.now.items) c.requires.empty;
  on = omega arith;
  counted = λ spans zip. omega arith;
  size = omega arith;
  each = omega arith;
}

pub put_course-requires-clause-long : goal.put_course-requires-clause-long
put_course-requires-clause-long c = c.loop-outline.invariant.long

pub put_course-requires-clause-room : goal.put_course-requires-clause-room
put_course-requires-clause-room c =
    let small = span_small (course_of c.course_along-course.result) c.args.columns c.course_along-course.ensures.inside c.requires.few in
    omega (arith, small, c.loop-outline.invariant.size, c.loop-outline-test.true, c.requires.room, c.requires.few_outlines)

pub returns-in_err-put_course-clause-counted_on : goal.returns-in_err-put_course-clause-counted_on
returns-in_err-put_course-clause-counted_on c = omega (arith, c.loop-outline.invariant.on, c.put_course.ensures.counted_on)

pub returns-in_err-put_course-clause-counted : goal.returns-in_err-put_course-clause-counted
returns-in_err-put_course-clause-counted c spans zip =
    let walked = c.course_along-course.result in
    let all = counted_in_all (of_dir c.args.d.now) (raster_of c.args.raster.now) (solid_part c.args.solid.now) (edge_halves c.args.solid.now) c.args.outlines.now spans zip c.loop-outline.outline-index c.loop-outline-test.true
    (course_of walked) (is_course walked) c.course_along-course.ensures.of_edge in
    let before = c.loop-outline.invariant.counted spans zip in
    omega (arith, all, before, c.put_course.ensures.counted)

pub returns-in_err-put_course-clause-size : goal.returns-in_err-put_course-clause-size
returns-in_err-put_course-clause-size c =
    let small = span_small (course_of c.course_along-course.result) c.args.columns c.course_along-course.ensures.inside c.requires.few in
    omega (arith, small, c.loop-outline.invariant.size, c.loop-outline-test.true, c.put_course.ensures.counted)

pub loop-outline-preserved : goal.loop-outline-preserved
loop-outline-preserved c =
    let d = of_dir c.args.d.now in
    let r = raster_of c.args.raster.now in
    let s = solid_part c.args.solid.now in
    let halves = edge_halves c.args.solid.now in
    let xs = c.args.outlines.now in
    let k = c.loop-outline.outline-index in
    let walked = c.course_along-course.result in
    let course = course_of walked in
    let of = c.course_along-course.ensures.of_edge in
    let h = c.loop-outline.invariant in
    let new = lists_of c.put_course.new.cells.items in
    let small = span_small course c.args.columns c.course_along-course.ensures.inside c.requires.few in
    let front : take (k + 1) xs ≡ take k xs ++ get_or xs k 0 ∷ [] = take_more xs k 0 c.loop-outline-test.true in
    let held : AreHeld d r s halves (take k xs ++ get_or xs k 0 ∷ []) c.args.columns new =
    held_more d r s halves (take k xs) c.args.columns (get_or xs k 0) (Meets course) (lists_of c.loop-outline.cells.items) new (fresh xs c.requires.rising k c.loop-outline-test.true)
    (λ o n column row m. (meets d r {s = s} o course (of o n) column row).1 m) (λ o n column row p. (meets d r {s = s} o course (of o n) column row).0 p) h.held c.in_ok-put_course.ensures.put in
    record {
      long = c.put_course.ensures.long;
      held = subst (λ (ys : List ℕ). AreHeld d r s halves ys c.args.columns new) (sym front) held;
      on = omega (arith, h.on, c.put_course.ensures.counted_on);
      counted = λ spans zip.
          let more = counted_more d r s halves xs spans zip k c.loop-outline-test.true course (is_course walked) of in
          let before = h.counted spans zip in
          omega (arith, more, before, c.put_course.ensures.counted);
      size = omega (arith, small, h.size, c.put_course.ensures.counted);
      each = omega (arith, h.each, c.in_ok-put_course.ensures.counted_some);
    }

pub returns-clause-long : goal.returns-clause-long
returns-clause-long c = c.loop-outline.invariant.long

pub returns-clause-held : goal.returns-clause-held
returns-clause-held c =
    let xs = c.args.outlines.now in
    let all : take c.loop-outline.outline-index xs ≡ xs = take_all c.loop-outline.outline-index xs (omega (arith, c.loop-outline-test.false)) in
    subst (λ (ys : List ℕ). AreHeld (of_dir c.args.d.now) (raster_of c.args.raster.now) (solid_part c.args.solid.now) (edge_halves c.args.solid.now) ys c.args.columns (lists_of c.loop-outline.cells.items)) all c.loop-outline.invariant.held

pub returns-clause-counted_on : goal.returns-clause-counted_on
returns-clause-counted_on c = c.loop-outline.invariant.on

pub returns-clause-counted : goal.returns-clause-counted
returns-clause-counted c spans zip =
    let before = c.loop-outline.invariant.counted spans zip in
    let front = front_below spans c.loop-outline.outline-index in
    omega (arith, before, front)

pub returns-clause-size : goal.returns-clause-size
returns-clause-size c = omega (arith, c.loop-outline.invariant.size, c.loop-outline.auto.outline-index-end)

pub returns-clause-counted_each : goal.returns-clause-counted_each
returns-clause-counted_each c = omega (arith, c.loop-outline.invariant.each, c.loop-outline-test.false)
