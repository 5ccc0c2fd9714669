use Rattle.std.proofs.Common.{map, ◌≤◌, ◌*◌, ◌^◌, take}
use Rattle.std.specs.List.{AllZip}
use Rattle.lattice.specs.Cuts.{plane_of}
use Rattle.drawing.specs.Drawing.{ShowsJobView}
use Rattle.drawing.specs.Numbers.{SumsViews}
use Rattle.drawing.proofs.ViewSums.{AreAtMost}
use Rattle.drawing.proofs.views.views_with.Given as goal

-- the views so far, the sums of their numbers, and at most as many tests and cells as their bounds allow
abbrev pub invariant-loop-view : goal.invariant-loop-view
invariant-loop-view l =
    record {
      shown : AllZip (ShowsJobView l.solid l.crease (map plane_of l.cuts) l.spacing) (take l.view-index l.asked) l.views.items;
      summed : SumsViews l.solid l.crease (take l.view-index l.asked) l.sums;
      small : AreAtMost (2 ^ 48 * l.view-index) l.sums;
      tested : l.sums.tests ≤ l.sums.bound;
      cut_tested : l.sums.cut_tests ≤ l.sums.cut_bound;
      celled : l.sums.cells ≤ l.sums.cell_bound;
    }
