use Rattle.std.proofs.Common.{◌≡◌, ◌++◌, drop}
use Rattle.std.specs.List.{flat_map}
use Rattle.sheet_list.specs.LeftOut.{left_out}
use Rattle.sheet_list.specs.Lists.{run_line}
use Rattle.sheet_list.proofs.list.add_left_out.Given as goal

-- the text so far and the lines that are left are the whole text
abbrev pub invariant-loop-run : goal.invariant-loop-run
invariant-loop-run l = l.text.items ++ flat_map run_line (drop l.run-index l.run-items) ≡ l.fn.text.items ++ flat_map run_line (left_out 0 l.drawn)
