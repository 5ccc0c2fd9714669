use Rattle.std.proofs.Common.{arith}
use Rattle.stroke_paths.proofs.PathLemmas.{no_paths, all_paths}
use Rattle.stroke_paths.proofs.joining.paths.Goals as goal

pub loop-i-init : goal.loop-i-init
loop-i-init c =
    no_paths c.args.strokes.now c.in_ok-joints.joints.items c.in_ok-visited.visited.items c.new-paths.result.items (c.in_ok-visited.ensures.items_if_clones_equal (λ y e. e)) c.new-paths.ensures.items

pub returns : goal.returns
returns c = all_paths c.args.strokes.now c.in_ok-joints.joints.items c.loop-i.i c.loop-i.visited.items c.loop-i.paths.items (omega arith) c.loop-i.invariant
