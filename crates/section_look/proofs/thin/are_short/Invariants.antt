use Rattle.std.proofs.Common.{take}
use Rattle.std.specs.List.{All}
use Rattle.sheet_plan.specs.Sheets.{IsPlaceOf}
use Rattle.sheet_plan.specs.declared.sheet.Spread.{Spread}
use Rattle.section_look.specs.Thin.{IsShort}
use Rattle.section_look.proofs.thin.are_short.Given as goal

-- all so far are
abbrev pub invariant-loop-line : goal.invariant-loop-line
invariant-loop-line l = (place : Spread) → IsPlaceOf l.sheet l.view place → All (IsShort l.sheet place) (take l.line-index l.lines)
