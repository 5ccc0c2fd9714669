use Rattle.std.proofs.Common.{◌≡◌, ℕ, ◌+◌, ◌-◌, ◌<◌, ◌≤◌, List, [], All, refl, sym, subst, ◌∙◌, arith}
use Rattle.solid_mesh.specs.Stars.{lists_of}
use Rattle.out_grid.specs.inner.Courses.{Meets, first_column, last_column, span_of, AreBefore}
use Rattle.out_grid.specs.inner.Lists.{IsStamped, IsGrown, IsInSome}
use Rattle.out_grid.specs.inner.Places.{course_of}
use Rattle.out_grid.proofs.CourseCounts.{none_before}
use Rattle.out_grid.proofs.Gathering.{course_none, course_more, course_all}
use Rattle.out_grid.proofs.Stamps.{stamped_none}
use Rattle.out_grid.proofs.Passing.{is_course, columns_in_order, high_inside, counts_before, counts_in_all}
use Rattle.out_grid.proofs.listing.list_course.Goals as goal

pub loop-column-init : goal.loop-column-init
loop-column-init c =
    let course = course_of c.args.course.now in
    let cells = lists_of c.args.cells.now in
    let items = c.new-list.ensures.items in
    let first = c.first_column-column.ensures in
    record {
      stamps_long = refl;
      stamped = subst (IsStamped c.args.stamp c.args.stamps.now.items) (sym items) (stamped_none c.args.stamp c.args.stamps.now.items c.requires.stamps_below);
      right = subst (λ (xs : List ℕ). IsGrown (IsInSome (λ k r. Meets course k r × (k < c.first_column-column.result)) c.args.columns cells) [] xs) (sym items)
          (subst (λ (f : ℕ). IsGrown (IsInSome (λ k r. Meets course k r × (k < f)) c.args.columns cells) [] []) (sym first) (course_none c.args.columns cells course (is_course c.args.course.now) []));
      counted_on = omega arith;
      each = omega (arith, c.first_column-column.ensures);
      counted = more c.args.meter.now.cells (span_of course);
      before = λ h. subst (λ (f : ℕ). AreBefore course f (c.args.meter.now.cells - c.args.meter.now.cells)) (sym first)
          (subst (AreBefore course (first_column course)) (none c.args.meter.now.cells) (none_before course));
    }
  where
    more : (m n : ℕ) → m ≤ m + n
    more m n = omega arith

    none : (m : ℕ) → 0 ≡ m - m
    none m = omega arith

up_to : (a b z : ℕ) → a < b + 1 → b ≡ z → a ≤ z
up_to a b z h e = omega arith

pub list_column-requires-clause-column : goal.list_column-requires-clause-column
list_column-requires-clause-column c = omega (arith, c.requires.inside.last, c.last_column-column-end.ensures, c.loop-column-test.true)

pub list_column-requires-clause-rows : goal.list_column-requires-clause-rows
list_column-requires-clause-rows c =
    let course = course_of c.args.course.now in
    let k = c.loop-column.column in
    high_inside course (is_course c.args.course.now) k c.rows_in-rows.result.low c.rows_in-rows.result.high
    (subst (λ (n : ℕ). n ≤ k) c.first_column-column.ensures c.loop-column.auto.column) (up_to k _ (last_column course) c.loop-column-test.true c.last_column-column-end.ensures)
    c.rows_in-rows.ensures c.args.columns c.requires.inside

pub list_column-requires-clause-in_range : goal.list_column-requires-clause-in_range
list_column-requires-clause-in_range c =
    subst (λ (n : ℕ). All (All (λ k. k < n)) (lists_of c.args.cells.now)) (sym c.loop-column.invariant.stamps_long) c.requires.in_range

pub list_column-requires-clause-stamped : goal.list_column-requires-clause-stamped
list_column-requires-clause-stamped c = c.loop-column.invariant.stamped

pub list_column-requires-clause-room : goal.list_column-requires-clause-room
list_column-requires-clause-room c =
    let course = course_of c.args.course.now in
    let k = c.loop-column.column in
    let low = c.rows_in-rows.result.low in
    let high = c.rows_in-rows.result.high in
    let first = subst (λ (n : ℕ). n ≤ k) c.first_column-column.ensures c.loop-column.auto.column in
    let last = up_to k _ (last_column course) c.loop-column-test.true c.last_column-column-end.ensures in
    let now = c.loop-column.meter.cells in
    let all = counts_in_all course (is_course c.args.course.now) k low high first last c.rows_in-rows.ensures c.args.meter.now.cells now (now + ((high - low) + 1))
    (c.loop-column.invariant.before last) c.loop-column.invariant.counted_on (itself (now + ((high - low) + 1))) in
    under _ _ _ all c.requires.room
  where
    itself : (m : ℕ) → m ≤ m
    itself m = omega arith

    under : (a b d : ℕ) → a ≤ b → b < d → a < d
    under a b d h g = omega arith

pub loop-column-preserved : goal.loop-column-preserved
loop-column-preserved c =
    let course = course_of c.args.course.now in
    let cells = lists_of c.args.cells.now in
    let k = c.loop-column.column in
    let low = c.rows_in-rows.result.low in
    let high = c.rows_in-rows.result.high in
    let first = subst (λ (n : ℕ). n ≤ k) c.first_column-column.ensures c.loop-column.auto.column in
    let last = up_to k _ (last_column course) c.loop-column-test.true c.last_column-column-end.ensures in
    let start = c.args.meter.now.cells in
    let now = c.loop-column.meter.cells in
    let after = c.list_column.new.meter.cells in
    let invariant = c.loop-column.invariant in
    record {
      stamps_long = c.list_column.ensures.stamps_long ∙ invariant.stamps_long;
      stamped = c.in_ok-list_column.ensures.stamped;
      right = course_more c.args.columns cells course (is_course c.args.course.now) k low high [] c.loop-column.list.items c.list_column.new.list.items first last c.rows_in-rows.ensures
          invariant.right c.in_ok-list_column.ensures.right;
      counted_on = omega (arith, invariant.counted_on, c.list_column.ensures.counted_on);
      each = omega (arith, invariant.each, c.in_ok-list_column.ensures.counted_each);
      counted = counts_in_all course (is_course c.args.course.now) k low high first last c.rows_in-rows.ensures start now after (invariant.before last) invariant.counted_on c.list_column.ensures.counted;
      before = λ earlier. counts_before course (is_course c.args.course.now) k low high first last c.rows_in-rows.ensures start now after (invariant.before last) invariant.counted_on
          c.list_column.ensures.counted (less k _ earlier);
    }
  where
    less : (a b : ℕ) → a + 1 ≤ b → a < b
    less a b h = omega arith

pub returns-in_err-list_column-clause-counted : goal.returns-in_err-list_column-clause-counted
returns-in_err-list_column-clause-counted c =
    let course = course_of c.args.course.now in
    let k = c.loop-column.column in
    let first = subst (λ (n : ℕ). n ≤ k) c.first_column-column.ensures c.loop-column.auto.column in
    let last = up_to k _ (last_column course) c.loop-column-test.true c.last_column-column-end.ensures in
    counts_in_all course (is_course c.args.course.now) k c.rows_in-rows.result.low c.rows_in-rows.result.high first last c.rows_in-rows.ensures
    c.args.meter.now.cells c.loop-column.meter.cells c.list_column.new.meter.cells (c.loop-column.invariant.before last) c.loop-column.invariant.counted_on c.list_column.ensures.counted

pub returns-clause-right : goal.returns-clause-right
returns-clause-right c =
    let course = course_of c.args.course.now in
    course_all c.args.columns (lists_of c.args.cells.now) course (is_course c.args.course.now) c.loop-column.column [] c.loop-column.list.items
    (past _ _ _ c.loop-column-test.false c.last_column-column-end.ensures) c.loop-column.invariant.right
  where
    past : (a b z : ℕ) → b + 1 ≤ a → b ≡ z → z < a
    past a b z h e = omega arith

pub returns-clause-counted_some : goal.returns-clause-counted_some
returns-clause-counted_some c =
    let order = columns_in_order (course_of c.args.course.now) (is_course c.args.course.now) in
    omega (arith, c.loop-column.invariant.each, c.loop-column-test.false, c.last_column-column-end.ensures, order)
