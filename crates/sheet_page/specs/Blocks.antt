-- The title block of a sheet.
use Rattle.std.specs.Prelude.{ℕ, List, ◌++◌, map}
use Rattle.std.specs.List.{flat_map}
use Rattle.job_file.specs.declared.job.Job.{Job}
use Rattle.sheet_job.specs.declared.block.BlockTexts.{BlockTexts}
use Rattle.sheet_page.specs.declared.page.Item.{Item}
use Rattle.sheet_page.specs.declared.page.Item.TheVariants as item
use Rattle.sheet_plan.specs.declared.sheet.Sheet.{Sheet}
use Rattle.sheet_page.specs.BlockCells.{cells_of}
use Rattle.sheet_page.specs.Labels.{cell_items}
use Rattle.sheet_page.specs.Rules.{corner_of, rules_of}
use Rattle.sheet_page.specs.Symbols.{symbol_of}

-- its rules, what its cells say, with the scale of the sheet, and the symbol of the job's angle of projection
abbrev pub block_of : Sheet → Job → List ℕ → BlockTexts → List Item
block_of sheet job part texts =
    let corner = corner_of sheet.width sheet.height in
    map item.Rule (rules_of corner) ++ flat_map (cell_items corner) (cells_of sheet.scale job part texts) ++ symbol_of corner job.third
