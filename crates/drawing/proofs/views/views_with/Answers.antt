use Rattle.std.proofs.Common.{List, map, sym, subst, take, ◌+◌, ◌*◌, ◌^◌, ◌≤◌, arith}
use Rattle.std.specs.List.{AllZip}
use Rattle.lattice.specs.Cuts.{plane_of}
use Rattle.line_merge.proofs.Zips.{zip_more}
use Rattle.drawing.specs.Drawing.{ShowsJobView}
use Rattle.drawing.specs.Numbers.{SumsViews}
use Rattle.drawing.proofs.ViewSums.{AreAtMost, below_of, wider, at_most_plus, sums_more}
use Rattle.view_lines.specs.declared.numbers.ViewNumbers.{ViewNumbers}
use Rattle.view_lines.specs.declared.view.ViewDrawing.{ViewDrawing}
use Rattle.drawing.proofs.views.views_with.Goals as goal

pub plus-sums-requires-clause-first : goal.plus-sums-requires-clause-first
plus-sums-requires-clause-first c = below_of c.loop-view.view-index c.loop-view.sums (omega (arith, c.loop-view-test.true, c.requires.few)) c.loop-view.invariant.small

pub plus-sums-requires-clause-second : goal.plus-sums-requires-clause-second
plus-sums-requires-clause-second c = wider c.in_ok-view.field-0.numbers c.in_ok-view.ensures.small

pub loop-view-preserved : goal.loop-view-preserved
loop-view-preserved c =
    let R = ShowsJobView c.args.solid.now c.args.crease (map plane_of c.args.cuts.now) c.args.spacing in
    let asked = c.args.asked.now in
    let k = c.loop-view.view-index in
    let so_far = c.loop-view.invariant in
    let here = c.in_ok-view.field-0.numbers in
    let is = sym {A = ViewNumbers} c.plus-sums.ensures in
    record {
      shown = subst (λ (vs : List ViewDrawing). AllZip R (take (k + 1) asked) vs) (sym {A = List ViewDrawing} c.in_ok-push.ensures.items)
          (zip_more R asked c.loop-view.views.items k c.view-item.result _ c.loop-view-test.true c.view-item.is so_far.shown c.in_ok-view.ensures.shows);
      summed = subst (SumsViews c.args.solid.now c.args.crease (take (k + 1) asked)) is
          (sums_more c.args.solid.now c.args.crease asked k c.view-item.result c.loop-view.sums here c.loop-view-test.true c.view-item.is so_far.summed c.in_ok-view.ensures.counted);
      small = subst (AreAtMost (2 ^ 48 * (k + 1))) is (at_most_plus k c.loop-view.sums here so_far.small c.in_ok-view.ensures.small);
      tested = subst (λ (n : ViewNumbers). n.tests ≤ n.bound) is (omega (arith, so_far.tested, c.in_ok-view.ensures.tested));
      cut_tested = subst (λ (n : ViewNumbers). n.cut_tests ≤ n.cut_bound) is (omega (arith, so_far.cut_tested, c.in_ok-view.ensures.cut_tested));
      celled = subst (λ (n : ViewNumbers). n.cells ≤ n.cell_bound) is (omega (arith, so_far.celled, c.in_ok-view.ensures.celled));
    }
