use Rattle.std.proofs.Common.{take}
use Rattle.svg_page.specs.Svg.{page_begin}
use Rattle.draw_core.proofs.StrokeLists.{AreWritten}
use Rattle.draw_core.proofs.pages.page_text.Given as goal

-- the groups of the views so far are written
abbrev pub invariant-loop-number : goal.invariant-loop-number
invariant-loop-number l = AreWritten l.sheet (page_begin l.sheet l.title) (take l.number l.views) l.number l.text.items
