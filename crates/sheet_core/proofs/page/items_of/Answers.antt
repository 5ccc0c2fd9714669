use Rattle.std.proofs.Common.{List, subst}
use Rattle.std.specs.List.{All}
use Rattle.sheet_page.specs.Corners.{IsInCorner}
use Rattle.sheet_page.specs.declared.page.Item.{Item}
use Rattle.sheet_core.proofs.page.items_of.Goals as goal

pub returns-clause-in_corner : goal.returns-clause-in_corner
returns-clause-in_corner c =
    let sheet = c.args.drawing.now.sheet in
    subst (λ (items : List Item). All (IsInCorner sheet.width sheet.height) items) c.in_ok-block.ensures.value c.in_ok-block.ensures.corner
