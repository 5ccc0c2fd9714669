use Rattle.sheet_page.specs.Svg.{classes}
use Rattle.sheet_page.proofs.svg_text.classes.Goals as goal

pub returns : goal.returns
unfolding classes
returns c = rw (c.wide-wide.ensures, c.narrow-narrow.ensures, c.in_ok-pattern.ensures) at c.format.ensures.ok
