use Rattle.std.proofs.Common.{sym, ◌∙◌}
use Rattle.meeting.proofs.Machine.{third_asked, second_failed, first_failed}
use Rattle.meeting.proofs.Through.{in_plane}
use Rattle.meeting.proofs.places.goes_through.Goals as goal
use Rattle.meeting.proofs.places.goes_through.Goals.{then-is_left, else-is_left}

pub returns-then-is_left-2 : goal.returns-then-is_left-2
returns-then-is_left-2 c =
    elim c.if-is_left.branch [
      | then-is_left w ↦
          third_asked (in_plane c.args.x.now c.requires) c.is_left.ensures w.is_left-then-is_left.ensures c.is_left-then-is_left-2.ensures
          w.if-is_left.true (sym w.value-is ∙ c.if-is_left-2.true)
      | else-is_left w ↦ let e = sym w.value-is ∙ c.if-is_left-2.true in cc
    ]

pub returns-else-is_left-2 : goal.returns-else-is_left-2
returns-else-is_left-2 c =
    elim c.if-is_left.branch [
      | then-is_left w ↦ second_failed (in_plane c.args.x.now c.requires) c.is_left.ensures w.is_left-then-is_left.ensures w.value-is c.if-is_left-2.false
      | else-is_left w ↦ first_failed (in_plane c.args.x.now c.requires) c.is_left.ensures w.if-is_left.false c.if-is_left-2.false
    ]
