use Rattle.std.proofs.Common.{sym, ◌∙◌}
use Rattle.meeting.proofs.Machine.{third_asked, second_failed, first_failed}
use Rattle.meeting.proofs.InPlane.{flat-place}
use Rattle.meeting.proofs.places.stays.Goals as goal
use Rattle.meeting.proofs.places.stays.Goals.{then-agree, else-agree}

pub returns-then-agree-2 : goal.returns-then-agree-2
returns-then-agree-2 c =
    let r = c.requires in
    elim c.if-agree.branch [
      | then-agree w ↦
          third_asked (flat-place c.args.x.now r.start r.end) c.agree.ensures w.agree-then-agree.ensures c.agree-then-agree-2.ensures
          w.if-agree.true (sym w.value-is ∙ c.if-agree-2.true)
      | else-agree w ↦ let e = sym w.value-is ∙ c.if-agree-2.true in cc
    ]

pub returns-else-agree-2 : goal.returns-else-agree-2
returns-else-agree-2 c =
    let r = c.requires in
    elim c.if-agree.branch [
      | then-agree w ↦ second_failed (flat-place c.args.x.now r.start r.end) c.agree.ensures w.agree-then-agree.ensures w.value-is c.if-agree-2.false
      | else-agree w ↦ first_failed (flat-place c.args.x.now r.start r.end) c.agree.ensures w.if-agree.false c.if-agree-2.false
    ]
