use Rattle.sheet_page.proofs.InCorner.{written_in, written_keeps, written_clear}
use Rattle.sheet_page.proofs.block.title_block.Goals as goal

pub returns-clause-corner : goal.returns-clause-corner
returns-clause-corner c = written_in c.args.sheet.now c.args.job.now c.args.part.now c.args.texts.now (λ items. items.items) _ c.items_of.ensures.value c.items_of.ensures.inside

pub returns-clause-cells : goal.returns-clause-cells
returns-clause-cells c = written_keeps c.args.sheet.now c.args.job.now c.args.part.now c.args.texts.now (λ items. items.items) _ c.items_of.ensures.value c.items_of.ensures.inside

pub returns-clause-clear : goal.returns-clause-clear
returns-clause-clear c box before =
    written_clear (λ items. items.items) _ c.args.sheet.now.width c.args.sheet.now.height box before
    (written_in c.args.sheet.now c.args.job.now c.args.part.now c.args.texts.now (λ items. items.items) _ c.items_of.ensures.value c.items_of.ensures.inside)
