use Rattle.std.proofs.Common.{take}
use Rattle.std.specs.List.{AllZip}
use Rattle.sheet_layout.specs.Layouts.{IsOriginOf}
use Rattle.sheet_layout.proofs.trials.places_of.Given as goal

-- the views so far
abbrev pub invariant-loop-t : goal.invariant-loop-t
invariant-loop-t l = AllZip IsOriginOf (take l.t-index l.standings) l.places.items
