use Rattle.std.proofs.Common.{◌≡◌, true, map, take}
use Rattle.draw_core.specs.inner.Kept.{OnlyFiles}
use Rattle.draw_core.specs.inner.Made.{file_seen}
use Rattle.draw_core.specs.Outputs.{KeepsAll}
use Rattle.draw_core.proofs.keep.keep_all.Given as goal

-- the files so far are kept, and nothing else changed
abbrev pub invariant-loop-output : goal.invariant-loop-output
invariant-loop-output g l =
    record {
      changed : OnlyFiles (g.D.Desk.state l.fn.desk) (g.D.Desk.state l.desk);
      kept : (g.D.Desk.state l.fn.desk).tells ≡ true
          → KeepsAll (g.D.Desk.state l.fn.desk).files (g.D.Desk.state l.desk).files (map file_seen (take l.output-index l.outputs));
    }
