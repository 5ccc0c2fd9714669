use Rattle.std.proofs.Common.{inl, inr, ◌⊎◌, ◌∙◌}
use Rattle.std.specs.Prelude.{pos, ◌<ℤ◌}
use Rattle.geometry.specs.Counts.{to_left, to_right}
use Rattle.cut_count.proofs.NextCounted.{side_told, turn_passed}
use Rattle.cut_count.proofs.cover.side_reach.Goals as goal
use Rattle.cut_count.proofs.cover.side_reach.Goals.{else-not-is_beyond-via-then-not-is_beyond+else-not-is_beyond-2, else-not-is_beyond-via-else-not-is_beyond}

pub returns-clause-left : goal.returns-clause-left
returns-clause-left c =
    let left : (c.args.x.now.over <ℤ pos 0) ⊎ (c.args.y.now.over <ℤ pos 0) = elim c.else-not-is_beyond.branch [
      | else-not-is_beyond-via-then-not-is_beyond+else-not-is_beyond-2 w ↦ inr (w.is_beyond-then-not-is_beyond.ensures.0 w.if-not-is_beyond-2.false)
      | else-not-is_beyond-via-else-not-is_beyond w ↦ inl (c.is_beyond.ensures.0 w.if-not-is_beyond.false)
    ] in
    let from = turn_passed c.end_turn-from.result c.end_turn-from.ensures.size ∙ c.end_turn-from.ensures.value in
    let to = turn_passed c.end_turn-to.result c.end_turn-to.ensures.size ∙ c.end_turn-to.ensures.value in
    side_told to_left c.args.x.now c.args.y.now _ _ from to left c.any_above.result c.any_above.ensures

pub returns-clause-right : goal.returns-clause-right
returns-clause-right c =
    let left : (c.args.x.now.over <ℤ pos 0) ⊎ (c.args.y.now.over <ℤ pos 0) = elim c.else-not-is_beyond.branch [
      | else-not-is_beyond-via-then-not-is_beyond+else-not-is_beyond-2 w ↦ inr (w.is_beyond-then-not-is_beyond.ensures.0 w.if-not-is_beyond-2.false)
      | else-not-is_beyond-via-else-not-is_beyond w ↦ inl (c.is_beyond.ensures.0 w.if-not-is_beyond.false)
    ] in
    let from = turn_passed c.end_turn-from.result c.end_turn-from.ensures.size ∙ c.end_turn-from.ensures.value in
    let to = turn_passed c.end_turn-to.result c.end_turn-to.ensures.size ∙ c.end_turn-to.ensures.value in
    side_told to_right c.args.x.now c.args.y.now _ _ from to left c.any_below.result c.any_below.ensures
