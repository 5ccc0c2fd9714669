use Rattle.std.proofs.Common.{inl, inr}
use Rattle.meeting.proofs.BoxAxes.{read}
use Rattle.solid_mesh.proofs.PassingLemmas.{left_read}
use Rattle.solid_mesh.proofs.passing.passes_round.Goals as goal

pub returns-then-is_left-2 : goal.returns-then-is_left-2
returns-then-is_left-2 c t =
    let h = c.args.h.now in
    let p = c.args.p.now in
    let q = c.args.q.now in
    inl (left_read h.x p.x h.y p.y (read h.x h.x_in_range) (read p.x p.x_in_range) (read h.y h.y_in_range) (read p.y p.y_in_range) c.args.bounds.now.x c.args.bounds.now.y (c.is_left.ensures c.if-is_left.true), left_read h.x q.x h.y q.y (read h.x h.x_in_range) (read q.x q.x_in_range) (read h.y h.y_in_range) (read q.y q.y_in_range) c.args.bounds.now.x c.args.bounds.now.y (c.is_left-then-is_left.ensures c.if-is_left-2.true))

pub returns-then-is_left-4 : goal.returns-then-is_left-4
returns-then-is_left-4 c t =
    let h = c.args.h.now in
    let p = c.args.p.now in
    let q = c.args.q.now in
    inr (inl (left_read h.y p.y h.x p.x (read h.y h.y_in_range) (read p.y p.y_in_range) (read h.x h.x_in_range) (read p.x p.x_in_range) c.args.bounds.now.y c.args.bounds.now.x (c.is_left-2.ensures c.if-is_left-3.true), left_read h.y q.y h.x q.x (read h.y h.y_in_range) (read q.y q.y_in_range) (read h.x h.x_in_range) (read q.x q.x_in_range) c.args.bounds.now.y c.args.bounds.now.x (c.is_left-then-is_left-3.ensures c.if-is_left-4.true)))

pub returns-then-is_left-6 : goal.returns-then-is_left-6
returns-then-is_left-6 c t =
    let h = c.args.h.now in
    let p = c.args.p.now in
    let q = c.args.q.now in
    inr (inr (inl (left_read h.y p.y h.z p.z (read h.y h.y_in_range) (read p.y p.y_in_range) (read h.z h.z_in_range) (read p.z p.z_in_range) c.args.bounds.now.y c.args.bounds.now.z (c.is_left-3.ensures c.if-is_left-5.true), left_read h.y q.y h.z q.z (read h.y h.y_in_range) (read q.y q.y_in_range) (read h.z h.z_in_range) (read q.z q.z_in_range) c.args.bounds.now.y c.args.bounds.now.z (c.is_left-then-is_left-5.ensures c.if-is_left-6.true))))

pub returns-then-is_left-8 : goal.returns-then-is_left-8
returns-then-is_left-8 c t =
    let h = c.args.h.now in
    let p = c.args.p.now in
    let q = c.args.q.now in
    inr (inr (inr (inl (left_read h.z p.z h.y p.y (read h.z h.z_in_range) (read p.z p.z_in_range) (read h.y h.y_in_range) (read p.y p.y_in_range) c.args.bounds.now.z c.args.bounds.now.y (c.is_left-4.ensures c.if-is_left-7.true), left_read h.z q.z h.y q.y (read h.z h.z_in_range) (read q.z q.z_in_range) (read h.y h.y_in_range) (read q.y q.y_in_range) c.args.bounds.now.z c.args.bounds.now.y (c.is_left-then-is_left-7.ensures c.if-is_left-8.true)))))

pub returns-then-is_left-10 : goal.returns-then-is_left-10
returns-then-is_left-10 c t =
    let h = c.args.h.now in
    let p = c.args.p.now in
    let q = c.args.q.now in
    inr (inr (inr (inr (inl (left_read h.z p.z h.x p.x (read h.z h.z_in_range) (read p.z p.z_in_range) (read h.x h.x_in_range) (read p.x p.x_in_range) c.args.bounds.now.z c.args.bounds.now.x (c.is_left-5.ensures c.if-is_left-9.true), left_read h.z q.z h.x q.x (read h.z h.z_in_range) (read q.z q.z_in_range) (read h.x h.x_in_range) (read q.x q.x_in_range) c.args.bounds.now.z c.args.bounds.now.x (c.is_left-then-is_left-9.ensures c.if-is_left-10.true))))))

pub returns-then-is_left-11 : goal.returns-then-is_left-11
returns-then-is_left-11 c t =
    let h = c.args.h.now in
    let p = c.args.p.now in
    let q = c.args.q.now in
    inr (inr (inr (inr (inr (left_read h.x p.x h.z p.z (read h.x h.x_in_range) (read p.x p.x_in_range) (read h.z h.z_in_range) (read p.z p.z_in_range) c.args.bounds.now.x c.args.bounds.now.z (c.is_left-6.ensures c.if-is_left-11.true), left_read h.x q.x h.z q.z (read h.x h.x_in_range) (read q.x q.x_in_range) (read h.z h.z_in_range) (read q.z q.z_in_range) c.args.bounds.now.x c.args.bounds.now.z (c.is_left-then-is_left-11.ensures t))))))
