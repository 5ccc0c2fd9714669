use Rattle.std.proofs.Common.{take}
use Rattle.sheet_plan.specs.Sheets.{IsPlaceOf}
use Rattle.sheet_plan.specs.declared.sheet.Spread.{Spread}
use Rattle.section_look.specs.Looks.{AreOutlines}
use Rattle.section_look.proofs.fills.outlines.Given as goal

-- the outlines so far
abbrev pub invariant-loop-loop_segments : goal.invariant-loop-loop_segments
invariant-loop-loop_segments l = (place : Spread) → IsPlaceOf l.sheet l.view place → AreOutlines l.sheet place (take l.loop_segments-index l.loops) l.all.items
