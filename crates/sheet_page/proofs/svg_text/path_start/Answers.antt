use Rattle.std.proofs.Common.{arith}
use Rattle.std.proofs.lemmas.Grind.{common_steps}
use Rattle.sheet_page.specs.Svg.{path_start}
use Rattle.sheet_page.proofs.svg_text.path_start.Goals as goal

pub returns : goal.returns
unfolding path_start
returns c = grind (arith, common_steps)
