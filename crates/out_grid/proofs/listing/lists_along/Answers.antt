use Rattle.std.proofs.Common.{◌≡◌, ℕ, ◌+◌, ◌*◌, ◌^◌, ◌<◌, ◌≤◌, List, All, Contains, length, get_or, vec_len, sym, ap, subst, ◌∙◌, arith, Vec, Global}
use Rattle.std.proofs.Math.ListN.{length-set}
use Rattle.std.proofs.lemmas.List.{length-map, map-set, take_all}
use Rattle.edge_pick.proofs.Lists.{few_rising}
use Rattle.lattice.specs.Points.{of_dir}
use Rattle.geometry.specs.Parts.{Edge, IsNumbered}
use Rattle.solid_mesh.specs.Solids.{solid_part, edge_halves}
use Rattle.solid_mesh.specs.Stars.{lists_of}
use Rattle.out_grid.specs.Cells.{ShareCell}
use Rattle.out_grid.specs.Grids.{list_at, HoldsThose}
use Rattle.out_grid.specs.inner.Courses.{span_of}
use Rattle.out_grid.specs.inner.Places.{raster_of, course_of}
use Rattle.out_grid.proofs.CountedSpans.{front_below, span_small, counted_more, counted_in_all}
use Rattle.out_grid.proofs.DrawnLists.{cells_hold, list_held, stamps_next, along_more, others_more}
use Rattle.out_grid.proofs.Passing.{is_course}
use Rattle.out_grid.proofs.listing.lists_along.Goals as goal

abbrev items_of : Vec ℕ Global → List ℕ
items_of list = list.items

-- the number of the edge in turn, as the loop reads it
in_turn : (ys xs : List ℕ) (i : ℕ) → ys ≡ xs → i < length ys → (i < length xs) × (get_or ys i 0 ≡ get_or xs i 0)
in_turn ys xs i e within = (subst (λ (zs : List ℕ). i < length zs) e within, ap (λ (zs : List ℕ). get_or zs i 0) e)

number_within : (xs : List ℕ) (i x n m : ℕ) → (i < length xs) × (x ≡ get_or xs i 0) → All (λ k. k < n) xs → m ≡ n → x < m
number_within xs i x n m (within, is) all e = let h = all i 0 within in omega (arith, h, is, e)

pub list_course-requires-clause-in_range : goal.list_course-requires-clause-in_range
list_course-requires-clause-in_range c =
    let outlines = c.args.picked.now.outlines.items in
    cells_hold (of_dir c.args.d.now) (raster_of c.args.raster.now) (solid_part c.args.solid.now) (edge_halves c.args.solid.now) outlines c.args.columns (lists_of c.args.cells.now)
    c.requires.held (λ k. k < length c.loop-edge.stamps.items) (some _ c.requires.some) (length-map c.args.cells.now items_of ∙ c.requires.long)
    (subst (λ (m : ℕ). All (λ k. k < m) outlines) (sym c.loop-edge.invariant.stamps_long) c.requires.picked.1.outlines.within)
  where
    some : (n : ℕ) → 1 ≤ n → 0 < n
    some n h = omega arith

pub list_course-requires-clause-room : goal.list_course-requires-clause-room
list_course-requires-clause-room c =
    let xs = c.args.picked.now.drawn.items in
    let drawn = c.requires.picked.1.drawn in
    let turn = in_turn c.deref-edge-items.result.now xs c.loop-edge.edge-index c.deref-edge-items.ensures.value c.loop-edge-test.true in
    room c.loop-edge.meter.cells c.args.meter.now.cells c.loop-edge.edge-index (length xs) (length (edge_halves c.args.solid.now)) c.edges.result (span_of (course_of c.course_along-course.result))
    c.loop-edge.invariant.size c.requires.room turn.0 (few_rising xs (length (edge_halves c.args.solid.now)) drawn.ascending drawn.within) c.edges.ensures.count c.edges.type_inv
    (span_small (course_of c.course_along-course.result) c.args.columns c.course_along-course.ensures.inside c.requires.few)
  where
    room : (now start i m n count span : ℕ) → now ≤ start + 512 * i → start < 2 ^ 63 → i < m → m ≤ n → count ≡ n → count < 2 ^ 32 → span ≤ 511 → now + span < 2 ^ 64
    room now start i m n count span h s l few e f small = omega arith

pub returns-in_err-list-clause-counted : goal.returns-in_err-list-clause-counted
returns-in_err-list-clause-counted c spans zip =
    let d = of_dir c.args.d.now in
    let r = raster_of c.args.raster.now in
    let s = solid_part c.args.solid.now in
    let halves = edge_halves c.args.solid.now in
    let xs = c.args.picked.now.drawn.items in
    let i = c.loop-edge.edge-index in
    let course = course_of c.course_along-course.result in
    let turn = in_turn c.deref-edge-items.result.now xs i c.deref-edge-items.ensures.value c.loop-edge-test.true in
    let all = counted_in_all d r s halves xs spans zip i turn.0 course (is_course c.course_along-course.result)
    (λ e n. c.course_along-course.ensures.of_edge e (subst (λ (y : ℕ). IsNumbered halves y e) (sym turn.1) n)) in
    let before = c.loop-edge.invariant.counted spans zip in
    omega (arith, all, before, c.list_course.ensures.counted)

pub index_mut-requires : goal.index_mut-requires
index_mut-requires c =
    let xs = c.args.picked.now.drawn.items in
    let i = c.loop-edge.edge-index in
    let turn = in_turn c.deref-edge-items.result.now xs i c.deref-edge-items.ensures.value c.loop-edge-test.true in
    number_within xs i (get_or c.deref-edge-items.result.now i 0) (length (edge_halves c.args.solid.now)) (vec_len c.loop-edge.lists) turn c.requires.picked.1.drawn.within
    (omega (arith, c.loop-edge.lists.ok.0, c.loop-edge.invariant.long))

pub loop-edge-preserved : goal.loop-edge-preserved
loop-edge-preserved c =
    let d = of_dir c.args.d.now in
    let r = raster_of c.args.raster.now in
    let s = solid_part c.args.solid.now in
    let halves = edge_halves c.args.solid.now in
    let outlines = c.args.picked.now.outlines.items in
    let xs = c.args.picked.now.drawn.items in
    let i = c.loop-edge.edge-index in
    let x = get_or c.deref-edge-items.result.now i 0 in
    let turn = in_turn c.deref-edge-items.result.now xs i c.deref-edge-items.ensures.value c.loop-edge-test.true in
    let course = course_of c.course_along-course.result in
    let course_is = is_course c.course_along-course.result in
    let invariant = c.loop-edge.invariant in
    let lists = lists_of c.loop-edge.lists.items in
    let list = c.in_ok-list.list.items in
    let now = map-set items_of c.loop-edge.lists.items x c.in_ok-list.list in
    let inside = number_within xs i x (length halves) (length lists) turn c.requires.picked.1.drawn.within (length-map c.loop-edge.lists.items items_of ∙ invariant.long) in
    record {
      long = length-set c.loop-edge.lists.items x c.in_ok-list.list ∙ invariant.long;
      stamps_long = c.list_course.ensures.stamps_long ∙ invariant.stamps_long;
      stamps_below = stamps_next xs c.list_course.new.stamps.items i x c.requires.picked.1.drawn.ascending turn.1 c.in_ok-list.ensures.stamped.most;
      along = λ k e there numbered. subst (λ (ls : List (List ℕ)). HoldsThose {s = s} halves outlines (ShareCell d r e) (list_at ls k)) (sym now)
          (along_more xs i x turn.0 turn.1 lists list inside (λ (k : ℕ) (l : List ℕ). (e : Edge s) → IsNumbered halves k e → HoldsThose {s = s} halves outlines (ShareCell d r e) l)
          (λ k there e numbered. invariant.along k e there numbered)
          (λ e numbered. list_held d r s halves outlines c.args.columns (lists_of c.args.cells.now) c.requires.held e course course_is c.course_along-course.ensures.inside
          (c.course_along-course.ensures.of_edge e numbered) list c.in_ok-list.ensures.stamped.once c.in_ok-list.ensures.right)
          k there e numbered);
      others = λ k none. ap (λ (ls : List (List ℕ)). list_at ls k) now ∙ others_more xs i x turn.0 turn.1 lists list inside invariant.others k none;
      counted_on = omega (arith, invariant.counted_on, c.list_course.ensures.counted_on);
      each = omega (arith, invariant.each, c.in_ok-list.ensures.counted_some);
      counted = λ spans zip.
          let more = counted_more d r s halves xs spans zip i turn.0 course course_is (λ e n. c.course_along-course.ensures.of_edge e (subst (λ (y : ℕ). IsNumbered halves y e) (sym turn.1) n)) in
          let before = invariant.counted spans zip in
          omega (arith, more, before, c.list_course.ensures.counted);
      size = further c.args.meter.now.cells c.loop-edge.meter.cells c.list_course.new.meter.cells (span_of course) i invariant.size c.list_course.ensures.counted
          (span_small course c.args.columns c.course_along-course.ensures.inside c.requires.few);
    }
  where
    further : (start now after span i : ℕ) → now ≤ start + 512 * i → after ≤ now + span → span ≤ 511 → after ≤ start + 512 * (i + 1)
    further start now after span i h g few = omega arith

pub returns-clause-along : goal.returns-clause-along
returns-clause-along c k e there numbered =
    let xs = c.args.picked.now.drawn.items in
    let i = c.loop-edge.edge-index in
    let past : length xs ≤ i = subst (λ (ys : List ℕ). length ys ≤ i) c.deref-edge-items.ensures.value c.loop-edge-test.false in
    c.loop-edge.invariant.along k e (subst (λ (ys : List ℕ). Contains ys k) (sym (take_all i xs past)) there) numbered

pub returns-clause-others : goal.returns-clause-others
returns-clause-others c k none =
    let xs = c.args.picked.now.drawn.items in
    let i = c.loop-edge.edge-index in
    let past : length xs ≤ i = subst (λ (ys : List ℕ). length ys ≤ i) c.deref-edge-items.ensures.value c.loop-edge-test.false in
    c.loop-edge.invariant.others k (λ there. none (subst (λ (ys : List ℕ). Contains ys k) (take_all i xs past) there))

pub returns-clause-counted : goal.returns-clause-counted
returns-clause-counted c spans zip =
    let before = c.loop-edge.invariant.counted spans zip in
    let front = front_below spans c.loop-edge.edge-index in
    omega (arith, before, front)

pub returns-clause-counted_each : goal.returns-clause-counted_each
returns-clause-counted_each c =
    let xs = c.args.picked.now.drawn.items in
    let past : length xs ≤ c.loop-edge.edge-index = subst (λ (ys : List ℕ). length ys ≤ c.loop-edge.edge-index) c.deref-edge-items.ensures.value c.loop-edge-test.false in
    omega (arith, c.loop-edge.invariant.each, past)
