use Rattle.std.proofs.Common.{◌≡◌, ◌+◌, ◌-◌, ◌<◌, ◌≤◌, [], length}
use Rattle.solid_mesh.specs.Stars.{lists_of}
use Rattle.out_grid.specs.inner.Courses.{Meets, first_column, last_column, span_of, AreBefore}
use Rattle.out_grid.specs.inner.Lists.{IsStamped, IsGrown, IsInSome}
use Rattle.out_grid.specs.inner.Places.{course_of}
use Rattle.out_grid.proofs.listing.list_course.Given as goal

abbrev pub invariant-loop-column : goal.invariant-loop-column
invariant-loop-column l = record {
  stamps_long : length l.stamps.items ≡ length l.initial.stamps.items;
  stamped : IsStamped l.stamp l.stamps.items l.list.items;
  right : IsGrown (IsInSome (λ c r. Meets (course_of l.course) c r × (c < l.column)) l.columns (lists_of l.cells)) [] l.list.items;
  counted_on : l.initial.meter.cells ≤ l.meter.cells;
  counted : l.meter.cells ≤ l.initial.meter.cells + span_of (course_of l.course);
  before : l.column ≤ last_column (course_of l.course) → AreBefore (course_of l.course) l.column (l.meter.cells - l.initial.meter.cells);
  each : l.initial.meter.cells + l.column ≤ l.meter.cells + first_column (course_of l.course);
}
