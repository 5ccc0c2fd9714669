use Rattle.std.proofs.Common.{◌≡◌, drop}
use Rattle.std.specs.List.{list_all}
use Rattle.covered_paths.specs.Sheets.{is_on_sheet}
use Rattle.covered_paths.proofs.lines.are_on_sheet.Given as goal

-- those that are left decide
abbrev pub invariant-loop-point : goal.invariant-loop-point
invariant-loop-point l = list_all is_on_sheet (drop l.point-index l.points) ≡ list_all is_on_sheet l.points
