use Rattle.std.proofs.Common.{rules}
use Rattle.sheet_page.specs.Svg.{group_start}
use Rattle.sheet_page.proofs.svg_text.group_start.Goals as goal

pub returns : goal.returns
unfolding group_start
returns c = search rules
