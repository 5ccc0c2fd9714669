use Rattle.std.proofs.Common.{List, ◌++◌, map, ap, subst, ◌∙◌}
use Rattle.std.specs.List.{flat_map}
use Rattle.stroke_paths.specs.declared.path.Point.{Point}
use Rattle.sheet_page.specs.BlockCells.{cells_of}
use Rattle.sheet_page.specs.Labels.{cell_items}
use Rattle.sheet_page.specs.Rules.{rules_of}
use Rattle.sheet_page.specs.Symbols.{symbol_of}
use Rattle.sheet_page.specs.declared.page.Item.TheVariants as item
use Rattle.sheet_page.specs.declared.page.Rule.{Rule}
use Rattle.sheet_page.specs.inner.Spaces.{AreInCells}
use Rattle.sheet_page.proofs.AddedCells.{block_parts}
use Rattle.sheet_page.proofs.block.items_of.Goals as goal

pub returns-clause-value : goal.returns-clause-value
returns-clause-value c =
    let cells = cells_of c.args.sheet.now.scale c.args.job.now c.args.part.now c.args.texts.now in
    block_parts _ _ _ _ _ _ _ c.new-items.ensures.items (c.in_ok-add_rules.ensures ∙ ap (λ (lines : List Rule). c.new-items.result.items ++ map item.Rule lines) c.rules_of.ensures) c.in_ok-add_cells.ensures.items c.in_ok-add_symbol.ensures
    ∙ ap (λ (corner : Point). map item.Rule (rules_of corner) ++ flat_map (cell_items corner) cells ++ symbol_of corner c.args.job.now.third) c.of-corner.ensures

pub returns-clause-inside : goal.returns-clause-inside
returns-clause-inside c =
    subst (λ (corner : Point). AreInCells corner (cells_of c.args.sheet.now.scale c.args.job.now c.args.part.now c.args.texts.now)) c.of-corner.ensures c.in_ok-add_cells.ensures.inside
