use Rattle.std.proofs.Common.{inl, inr}
use Rattle.meeting.proofs.BoxAxes.{read}
use Rattle.solid_mesh.proofs.PassingLemmas.{left_read}
use Rattle.solid_mesh.proofs.passing.passes_by.Goals as goal

pub returns-then-is_left : goal.returns-then-is_left
returns-then-is_left c t =
    let p = c.args.p.now in
    let q = c.args.q.now in
    inl (left_read p.x q.x p.y q.y (read p.x p.x_in_range) (read q.x q.x_in_range) (read p.y p.y_in_range) (read q.y q.y_in_range) c.args.bounds.now.x c.args.bounds.now.y (c.is_left.ensures c.if-is_left.true))

pub returns-then-is_left-2 : goal.returns-then-is_left-2
returns-then-is_left-2 c t =
    let p = c.args.p.now in
    let q = c.args.q.now in
    inr (inl (left_read p.y q.y p.x q.x (read p.y p.y_in_range) (read q.y q.y_in_range) (read p.x p.x_in_range) (read q.x q.x_in_range) c.args.bounds.now.y c.args.bounds.now.x (c.is_left-2.ensures c.if-is_left-2.true)))

pub returns-then-is_left-3 : goal.returns-then-is_left-3
returns-then-is_left-3 c t =
    let p = c.args.p.now in
    let q = c.args.q.now in
    inr (inr (inl (left_read p.y q.y p.z q.z (read p.y p.y_in_range) (read q.y q.y_in_range) (read p.z p.z_in_range) (read q.z q.z_in_range) c.args.bounds.now.y c.args.bounds.now.z (c.is_left-3.ensures c.if-is_left-3.true))))

pub returns-then-is_left-4 : goal.returns-then-is_left-4
returns-then-is_left-4 c t =
    let p = c.args.p.now in
    let q = c.args.q.now in
    inr (inr (inr (inl (left_read p.z q.z p.y q.y (read p.z p.z_in_range) (read q.z q.z_in_range) (read p.y p.y_in_range) (read q.y q.y_in_range) c.args.bounds.now.z c.args.bounds.now.y (c.is_left-4.ensures c.if-is_left-4.true)))))

pub returns-then-is_left-5 : goal.returns-then-is_left-5
returns-then-is_left-5 c t =
    let p = c.args.p.now in
    let q = c.args.q.now in
    inr (inr (inr (inr (inl (left_read p.z q.z p.x q.x (read p.z p.z_in_range) (read q.z q.z_in_range) (read p.x p.x_in_range) (read q.x q.x_in_range) c.args.bounds.now.z c.args.bounds.now.x (c.is_left-5.ensures c.if-is_left-5.true))))))

pub returns : goal.returns
returns c t =
    let p = c.args.p.now in
    let q = c.args.q.now in
    inr (inr (inr (inr (inr (left_read p.x q.x p.z q.z (read p.x p.x_in_range) (read q.x q.x_in_range) (read p.z p.z_in_range) (read q.z q.z_in_range) c.args.bounds.now.x c.args.bounds.now.z (c.is_left-6.ensures t))))))
