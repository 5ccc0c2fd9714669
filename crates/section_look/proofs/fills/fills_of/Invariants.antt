use Rattle.std.proofs.Common.{take}
use Rattle.sheet_plan.specs.Sheets.{IsPlaceOf}
use Rattle.sheet_plan.specs.declared.sheet.Spread.{Spread}
use Rattle.section_look.specs.Looks.{AreFills}
use Rattle.section_look.proofs.fills.fills_of.Given as goal

-- the fills so far
abbrev pub invariant-loop-k : goal.invariant-loop-k
invariant-loop-k l = (place : Spread) → IsPlaceOf l.sheet l.view place → AreFills l.sheet place (take l.k l.regions) (take l.k l.marks) l.fills.items
