use Rattle.std.proofs.Common.{take}
use Rattle.sheet_plan.specs.Sheets.{IsPlaceOf}
use Rattle.sheet_plan.specs.declared.sheet.Spread.{Spread}
use Rattle.section_look.specs.Looks.{IsOutline}
use Rattle.section_look.proofs.fills.outline.Given as goal

-- the points so far
abbrev pub invariant-loop-segment : goal.invariant-loop-segment
invariant-loop-segment l = (place : Spread) → IsPlaceOf l.sheet l.view place → IsOutline l.sheet place (take l.segment-index l.loop_segments) l.points.items
