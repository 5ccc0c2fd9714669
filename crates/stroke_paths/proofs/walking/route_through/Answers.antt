use Rattle.stroke_paths.proofs.RouteLemmas.{route_is_by}
use Rattle.stroke_paths.proofs.walking.route_through.Goals as goal

pub returns : goal.returns
returns c =
    route_is_by c.args.joints.now c.requires.matched c.args.visited.now c.steps_from.new.visited c.steps_from-2.new.visited c.args.stroke c.in_ok-back.back.steps.items c.in_ok-onward.onward.steps.items
    c.in_ok-onward.onward.closed c.in_ok-back.back.closed c.requires.new c.requires.whole c.last_end.result c.first_end.result c.last_end.ensures c.first_end.ensures c.in_ok-onward.ensures c.in_ok-back.ensures
    c.in_ok-steps.steps.items c.deref.result.now c.deref-2.result.now c.deref.ensures.value c.deref-2.ensures.value c.in_ok-steps.ensures
