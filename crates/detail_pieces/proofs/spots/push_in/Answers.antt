use Rattle.std.proofs.Common.{rules, arith, FitsSigned}
use Rattle.std.specs.Prelude.{pos, ◌+ℤ◌, ◌-ℤ◌, ◌≤ℤ◌}
use Rattle.std.specs.Int.{w128}
use Rattle.std.proofs.lemmas.Int.{ints, to_z-of_z}
use Rattle.detail_pieces.proofs.Sizes.{pushed_down, pushed_up, less_far}
use Rattle.detail_pieces.proofs.spots.push_in.Goals as goal

pub returns-then-x-edge-clause-push : goal.returns-then-x-edge-clause-push
returns-then-x-edge-clause-push c =
    let a_fits = c.ranges.component in
    let x_fits = c.ranges.x in
    let w_fits = c.ranges.w in
    let edge_fits : FitsSigned w128 c.edge-edge.result = search rules in
    let edge = simp to_z-of_z at c.edge-edge.ensures in
    let rest_fits : FitsSigned w128 (c.args.x -ℤ c.edge-edge.result) = omega (arith, ints, edge, c.requires.second, c.requires.third) in
    pushed_down c.args.component c.args.x c.args.w c.edge-edge.result c.push_to.result.scale c.push_to.result.by edge (simp to_z-of_z at c.if-x-edge.true) (simp to_z-of_z at c.push_to.ensures)

pub returns-then-x-edge-2-clause-push : goal.returns-then-x-edge-2-clause-push
returns-then-x-edge-2-clause-push c =
    let a_fits = c.ranges.component in
    let x_fits = c.ranges.x in
    let w_fits = c.ranges.w in
    let edge_fits : FitsSigned w128 c.edge-edge.result = search rules in
    let edge = simp to_z-of_z at c.edge-edge.ensures in
    let back_fits : FitsSigned w128 (pos 0 -ℤ c.edge-edge.result) = omega (arith, ints, edge, c.requires.third) in
    let rest_fits : FitsSigned w128 (c.args.x +ℤ c.edge-edge.result) = omega (arith, ints, edge, c.requires.second, c.requires.third) in
    pushed_up c.args.component c.args.x c.args.w c.edge-edge.result c.push_to-then-x-edge-2.result.scale c.push_to-then-x-edge-2.result.by edge (simp to_z-of_z at c.if-x-edge-2.true) (simp to_z-of_z at c.push_to-then-x-edge-2.ensures)

pub returns-then-x-edge-2-clause-by : goal.returns-then-x-edge-2-clause-by
returns-then-x-edge-2-clause-by c =
    let x_fits = c.ranges.x in
    let w_fits = c.ranges.w in
    let edge_fits : FitsSigned w128 c.edge-edge.result = search rules in
    let edge = simp to_z-of_z at c.edge-edge.ensures in
    let back_fits : FitsSigned w128 (pos 0 -ℤ c.edge-edge.result) = omega (arith, ints, edge, c.requires.third) in
    let rest_fits : FitsSigned w128 (c.args.x +ℤ c.edge-edge.result) = omega (arith, ints, edge, c.requires.second, c.requires.third) in
    let not_negative : pos 0 ≤ℤ c.edge-edge.result = omega (arith, ints, edge, c.requires.not_negative) in
    less_far c.args.x c.edge-edge.result c.push_to-then-x-edge-2.result.by not_negative (simp to_z-of_z at c.if-x-edge-2.true) (simp to_z-of_z at c.push_to-then-x-edge-2.ensures.size)
