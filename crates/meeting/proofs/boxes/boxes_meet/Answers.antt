use Rattle.std.proofs.Common.{sym, ◌∙◌}
use Rattle.meeting.proofs.Machine.{third_asked, second_failed, first_failed}
use Rattle.meeting.proofs.BoxAxes.{by_axes, along}
use Rattle.meeting.proofs.boxes.boxes_meet.Goals as goal
use Rattle.meeting.proofs.boxes.boxes_meet.Goals.{then-coordinates_meet, else-coordinates_meet}

pub returns-then-coordinates_meet-2 : goal.returns-then-coordinates_meet-2
returns-then-coordinates_meet-2 c =
    let s = c.args in
    let x = along (λ k. k.x) (λ k. k.x_in_range) s.a.now s.b.now s.c.now s.p.now s.q.now c.coordinates_meet.ensures in
    let z = along (λ k. k.z) (λ k. k.z_in_range) s.a.now s.b.now s.c.now s.p.now s.q.now c.coordinates_meet-then-coordinates_meet-2.ensures in
    elim c.if-coordinates_meet.branch [
      | then-coordinates_meet w ↦
          let y = along (λ k. k.y) (λ k. k.y_in_range) s.a.now s.b.now s.c.now s.p.now s.q.now w.coordinates_meet-then-coordinates_meet.ensures in
          third_asked (by_axes s.a.now s.b.now s.c.now s.p.now s.q.now) x y z w.if-coordinates_meet.true (sym w.value-is ∙ c.if-coordinates_meet-2.true)
      | else-coordinates_meet w ↦ let e = sym w.value-is ∙ c.if-coordinates_meet-2.true in cc
    ]

pub returns-else-coordinates_meet-2 : goal.returns-else-coordinates_meet-2
returns-else-coordinates_meet-2 c =
    let s = c.args in
    let x = along (λ k. k.x) (λ k. k.x_in_range) s.a.now s.b.now s.c.now s.p.now s.q.now c.coordinates_meet.ensures in
    elim c.if-coordinates_meet.branch [
      | then-coordinates_meet w ↦
          let y = along (λ k. k.y) (λ k. k.y_in_range) s.a.now s.b.now s.c.now s.p.now s.q.now w.coordinates_meet-then-coordinates_meet.ensures in
          second_failed (by_axes s.a.now s.b.now s.c.now s.p.now s.q.now) x y w.value-is c.if-coordinates_meet-2.false
      | else-coordinates_meet w ↦ first_failed (by_axes s.a.now s.b.now s.c.now s.p.now s.q.now) x w.if-coordinates_meet.false c.if-coordinates_meet-2.false
    ]
