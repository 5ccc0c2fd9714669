use Rattle.stroke_paths.proofs.TableLemmas.{one_more_joint_by}
use Rattle.stroke_paths.proofs.joint.joints.Goals as goal

pub loop-i-preserved : goal.loop-i-preserved
loop-i-preserved c =
    one_more_joint_by c.args.strokes.now c.loop-i.i c.loop-i.joints.items (record { first = c.find_partner.result; second = c.find_partner-in-loop-i.result }) c.loop-i.invariant c.find_partner.ensures
    c.find_partner-in-loop-i.ensures c.push.new.self.items c.in_ok-push.ensures.items
