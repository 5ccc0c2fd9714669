use Rattle.std.proofs.Common.{◌≡◌, ◌⊎◌, inl, inr, ℕ, ◌+◌, ◌-◌, ◌<◌, ◌≤◌, sym, subst, arith}
use Rattle.std.proofs.lemmas.Bool.{cases_lt}
use Rattle.solid_mesh.specs.Stars.{lists_of}
use Rattle.out_grid.specs.inner.Courses.{Course, IsCourse, Meets, AreRows, first_column, last_column}
use Rattle.out_grid.specs.inner.Places.{course_of}
use Rattle.out_grid.proofs.CellPuts.{put_none, put_more, put_same}
use Rattle.out_grid.proofs.CourseCells.{rows_exact}
use Rattle.out_grid.proofs.CourseSums.{columns_exact}
use Rattle.out_grid.proofs.Passing.{is_course, high_inside, columns_in_order, counts_before, counts_in_all}
use Rattle.out_grid.proofs.putting.put_course.Goals as goal

met_column : (c : Course) → IsCourse c → (column row : ℕ) → Meets c column row → (first_column c ≤ column) × (column ≤ last_column c)
met_column c is column row (i, j, h, k) = (columns_exact c is column).0 (i, j, h)

-- one column more
module _ (c : Course) (is : IsCourse c) (column low high : ℕ) (first : first_column c ≤ column) (last : column ≤ last_column c) (rows : AreRows c column low high) where
  split : (x y : ℕ) → Meets c x y × (x < column + 1) → (Meets c x y × (x < column)) ⊎ ((x ≡ column) × (low ≤ y) × (y ≤ high))
  split x y h = by (cases_lt x column)
    where
      by : (x < column) ⊎ (column ≤ x) → (Meets c x y × (x < column)) ⊎ ((x ≡ column) × (low ≤ y) × (y ≤ high))
      by (inl l) = inl (h.0, l)
      by (inr l) =
          let same : x ≡ column = omega (arith, h.1) in
          let r = (rows_exact c is column low high first last rows y).0 (subst (λ (k : ℕ). Meets c k y) same h.0) in
          inr (same, r.0, r.1)

  joined : (x y : ℕ) → (x ≡ column) × (low ≤ y) × (y ≤ high) → Meets c x y × (x < column + 1)
  joined x y q = (subst (λ (k : ℕ). Meets c k y) (sym q.0) ((rows_exact c is column low high first last rows y).1 (q.1, q.2)), omega (arith, q.0))

pub loop-column-init : goal.loop-column-init
loop-column-init c =
    let course = course_of c.args.course.now in
    let first = c.first_column-column.result in
    record {
      long = c.requires.long;
      from = omega (arith, c.first_column-column.ensures);
      put = put_none (λ x y. Meets course x y × (x < first)) c.args.columns c.args.outline (lists_of c.args.cells.now.items)
          (λ x y h. let m = met_column course (is_course c.args.course.now) x y h.0 in omega (arith, m.0, h.1, c.first_column-column.ensures));
      on = omega arith;
      before = λ last row enter. omega arith;
      in_all = omega arith;
      each = omega (arith, c.first_column-column.ensures);
    }

pub put_column-requires-clause-rows : goal.put_column-requires-clause-rows
put_column-requires-clause-rows c =
    let course = course_of c.args.course.now in
    let last : c.loop-column.column ≤ last_column course = omega (arith, c.loop-column-test.true, c.last_column-column-end.ensures) in
    high_inside course (is_course c.args.course.now) c.loop-column.column c.rows_in-rows.result.low c.rows_in-rows.result.high c.loop-column.invariant.from last c.rows_in-rows.ensures c.args.columns c.requires.inside

pub put_column-requires-clause-long : goal.put_column-requires-clause-long
put_column-requires-clause-long c = c.loop-column.invariant.long

pub put_column-requires-clause-room : goal.put_column-requires-clause-room
put_column-requires-clause-room c =
    let course = course_of c.args.course.now in
    let h = c.loop-column.invariant in
    let low = c.rows_in-rows.result.low in
    let high = c.rows_in-rows.result.high in
    let now = c.loop-column.meter.cells in
    let last : c.loop-column.column ≤ last_column course = omega (arith, c.loop-column-test.true, c.last_column-column-end.ensures) in
    let all = counts_in_all course (is_course c.args.course.now) c.loop-column.column low high h.from last c.rows_in-rows.ensures c.args.meter.now.cells now (now + ((high - low) + 1)) (h.before last) h.on (omega arith) in
    omega (arith, all, c.requires.room)

pub returns-in_err-put_column-clause-counted_on : goal.returns-in_err-put_column-clause-counted_on
returns-in_err-put_column-clause-counted_on c = omega (arith, c.loop-column.invariant.on, c.put_column.ensures.counted_on)

pub returns-in_err-put_column-clause-counted : goal.returns-in_err-put_column-clause-counted
returns-in_err-put_column-clause-counted c =
    let h = c.loop-column.invariant in
    let last : c.loop-column.column ≤ last_column (course_of c.args.course.now) = omega (arith, c.loop-column-test.true, c.last_column-column-end.ensures) in
    counts_in_all (course_of c.args.course.now) (is_course c.args.course.now) c.loop-column.column c.rows_in-rows.result.low c.rows_in-rows.result.high h.from last c.rows_in-rows.ensures
    c.args.meter.now.cells c.loop-column.meter.cells c.put_column.new.meter.cells (h.before last) h.on c.put_column.ensures.counted

pub loop-column-preserved : goal.loop-column-preserved
loop-column-preserved c =
    let course = course_of c.args.course.now in
    let is = is_course c.args.course.now in
    let h = c.loop-column.invariant in
    let column = c.loop-column.column in
    let low = c.rows_in-rows.result.low in
    let high = c.rows_in-rows.result.high in
    let rows = c.rows_in-rows.ensures in
    let start = c.args.meter.now.cells in
    let now = c.loop-column.meter.cells in
    let after = c.put_column.new.meter.cells in
    let last : column ≤ last_column course = omega (arith, c.loop-column-test.true, c.last_column-column-end.ensures) in
    record {
      long = omega (arith, c.put_column.ensures.long);
      from = omega (arith, h.from);
      put = put_more (λ x y. Meets course x y × (x < column)) (λ x y. (x ≡ column) × (low ≤ y) × (y ≤ high)) (λ x y. Meets course x y × (x < column + 1)) c.args.columns c.args.outline
          (lists_of c.args.cells.now.items) (lists_of c.loop-column.cells.items) (lists_of c.put_column.new.cells.items) h.put c.in_ok-put_column.ensures.put
          (λ x y p q. omega (arith, p.1, q.0)) (λ x y p. (p.0, omega (arith, p.1))) (joined course is column low high h.from last rows) (split course is column low high h.from last rows);
      on = omega (arith, h.on, c.put_column.ensures.counted_on);
      before = λ next. counts_before course is column low high h.from last rows start now after (h.before last) h.on c.put_column.ensures.counted (omega (arith, next));
      in_all = counts_in_all course is column low high h.from last rows start now after (h.before last) h.on c.put_column.ensures.counted;
      each = omega (arith, h.each, c.in_ok-put_column.ensures.counted_each);
    }

pub returns-clause-long : goal.returns-clause-long
returns-clause-long c = c.loop-column.invariant.long

pub returns-clause-put : goal.returns-clause-put
returns-clause-put c =
    let course = course_of c.args.course.now in
    let column = c.loop-column.column in
    let past : last_column course < column = omega (arith, c.loop-column-test.false, c.last_column-column-end.ensures) in
    put_same (λ x y. Meets course x y × (x < column)) (Meets course) c.args.columns c.args.outline (lists_of c.args.cells.now.items) (lists_of c.loop-column.cells.items) c.loop-column.invariant.put
    (λ x y p. p.0) (λ x y m. (m, let k = met_column course (is_course c.args.course.now) x y m in omega (arith, k.1, past)))

pub returns-clause-counted_on : goal.returns-clause-counted_on
returns-clause-counted_on c = c.loop-column.invariant.on

pub returns-clause-counted : goal.returns-clause-counted
returns-clause-counted c = c.loop-column.invariant.in_all

pub returns-clause-counted_some : goal.returns-clause-counted_some
returns-clause-counted_some c =
    let order = columns_in_order (course_of c.args.course.now) (is_course c.args.course.now) in
    omega (arith, c.loop-column.invariant.each, c.loop-column-test.false, c.last_column-column-end.ensures, order)
