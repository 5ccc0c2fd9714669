use Rattle.std.proofs.Common.{◌≡◌, ◌+◌, ◌-◌, ◌*◌, ◌<◌, ◌≤◌, vec_len}
use Rattle.solid_mesh.specs.Stars.{lists_of}
use Rattle.out_grid.specs.inner.Courses.{Meets, AreBefore, first_column, last_column, span_of}
use Rattle.out_grid.specs.inner.Lists.{IsPut}
use Rattle.out_grid.specs.inner.Places.{course_of}
use Rattle.out_grid.proofs.putting.put_course.Given as goal

-- the columns so far
abbrev pub invariant-loop-column : goal.invariant-loop-column
invariant-loop-column l = record {
  long : vec_len l.cells ≡ l.columns * l.columns;
  from : first_column (course_of l.course) ≤ l.column;
  put : IsPut (λ x y. Meets (course_of l.course) x y × (x < l.column)) l.columns l.outline (lists_of l.fn.cells.items) (lists_of l.cells.items);
  on : l.fn.meter.cells ≤ l.meter.cells;
  before : l.column ≤ last_column (course_of l.course) → AreBefore (course_of l.course) l.column (l.meter.cells - l.fn.meter.cells);
  in_all : l.meter.cells ≤ l.fn.meter.cells + span_of (course_of l.course);
  each : l.fn.meter.cells + l.column ≤ l.meter.cells + first_column (course_of l.course);
}
