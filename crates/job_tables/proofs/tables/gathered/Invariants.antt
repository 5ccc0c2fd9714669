use Rattle.std.proofs.Common.{List, map}
use Rattle.std.specs.Vec.Iter.{into_iter_items}
use Rattle.job_tables.specs.Tables.{Headed}
use Rattle.job_tables.specs.inner.Headed.{headed_seen}
use Rattle.job_tables.proofs.Placed.{AreLeft, ArePlaced}
use Rattle.job_tables.proofs.tables.gathered.Given as goal

-- the tables so far are without faults, and in their places
abbrev pub invariant-loop-headed : goal.invariant-loop-headed
invariant-loop-headed l =
    (before : List Headed) × AreLeft (map headed_seen l.fn.lines.tables.items) before (into_iter_items l.headed-iterator)
    × ArePlaced before l.block l.views.items
