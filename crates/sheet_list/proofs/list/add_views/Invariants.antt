use Rattle.std.proofs.Common.{◌≡◌, ◌≤◌, [], ◌++◌, length, take, drop}
use Rattle.job_file.specs.ShownCuts.{cuts_in}
use Rattle.sheet_list.specs.Lists.{lines_behind}
use Rattle.sheet_list.proofs.list.add_views.Given as goal

-- the lines so far, and those of the views that are left; the cuts of the views so far are counted
abbrev pub invariant-loop-i : goal.invariant-loop-i
invariant-loop-i l =
    record {
      written : l.text.items ++ lines_behind (take l.i l.views) (drop l.i l.views) (drop l.i l.places) ≡ l.fn.text.items ++ lines_behind [] l.views l.places;
      counted : l.cuts ≡ length (cuts_in (take l.i l.views));
      few : l.cuts ≤ l.i;
    }
