use Rattle.std.proofs.Common.{refl}
use Rattle.svg_page.specs.Svg.{pen}
use Rattle.svg_page.proofs.page.pen.Goals as goal

pub returns-in-Solid : goal.returns-in-Solid
unfolding pen
returns-in-Solid c = rw c.in-Solid.is refl

pub returns-in-Dashed : goal.returns-in-Dashed
unfolding pen
returns-in-Dashed c = rw c.in-Dashed.is refl

pub returns-in-Chain : goal.returns-in-Chain
unfolding pen
returns-in-Chain c = rw c.in-Chain.is refl

pub returns-in-Hatch : goal.returns-in-Hatch
unfolding pen
returns-in-Hatch c = rw c.in-Hatch.is refl
