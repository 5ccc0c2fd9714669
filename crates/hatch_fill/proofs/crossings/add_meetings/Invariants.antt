use Rattle.std.proofs.Common.{◌≡◌, ◌⊎◌}
use Rattle.std.specs.Prelude.{◌≤ℤ◌}
use Rattle.hatch_fill.specs.inner.Crossings.{AreMeetings}
use Rattle.hatch_fill.specs.inner.Parts.{AreAdded}
use Rattle.hatch_fill.proofs.crossings.add_meetings.Given as goal

-- the places of the numbers so far are added
abbrev pub invariant-loop-number : goal.invariant-loop-number
invariant-loop-number l = (l.from ≤ℤ l.number) × ((l.number ≤ℤ l.to) ⊎ (l.number ≡ l.from)) × AreAdded (AreMeetings l.line l.spacing l.from l.number) l.initial.places.items l.places.items
