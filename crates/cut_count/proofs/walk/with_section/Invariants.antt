use Rattle.std.proofs.Common.{◌≡◌, length}
use Rattle.cut_count.proofs.SectionTurns.{AreCrossingsBefore}
use Rattle.cut_count.proofs.walk.with_section.Given as goal

pub record ArePushed (l : goal.Live-loop-border) : Type 0 where
  pub crossings : AreCrossingsBefore l.fn.before.left l.fn.before.right l.found l.border-index l.there.left l.there.right l.crossings.items
  pub few : length l.crossings.items ≡ l.border-index

abbrev pub invariant-loop-border : goal.invariant-loop-border
invariant-loop-border l = ArePushed l
