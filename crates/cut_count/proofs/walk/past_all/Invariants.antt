use Rattle.cut_count.specs.inner.Walks.{turn_left, turn_right}
use Rattle.cut_count.proofs.SectionTurns.{IsThereFrom}
use Rattle.cut_count.proofs.walk.past_all.Given as goal

-- for the one count and the other
pub record IsPastUpTo (l : goal.Live-loop-border) : Type 0 where
  pub left : IsThereFrom turn_left l.fn.before.left l.found l.border-index l.there.left
  pub right : IsThereFrom turn_right l.fn.before.right l.found l.border-index l.there.right

abbrev pub invariant-loop-border : goal.invariant-loop-border
invariant-loop-border l = IsPastUpTo l
