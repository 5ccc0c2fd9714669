use Rattle.std.proofs.Common.{take}
use Rattle.std.specs.List.{AllZip}
use Rattle.lattice.specs.Cuts.{plane_of}
use Rattle.sheet_plan.specs.Sheets.{IsPlaceOf}
use Rattle.sheet_plan.specs.declared.sheet.Spread.{Spread}
use Rattle.section_look.specs.Thin.{IsMarked}
use Rattle.section_look.proofs.thin.thin_marks.Given as goal

-- the marks so far
abbrev pub invariant-loop-region : goal.invariant-loop-region
invariant-loop-region l = (place : Spread) → IsPlaceOf l.sheet l.view place → AllZip (IsMarked l.sheet place (plane_of l.cut) l.spacing) (take l.region-index l.regions) l.marks.items
