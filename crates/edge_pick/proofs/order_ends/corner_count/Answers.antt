use Rattle.std.proofs.Common.{◌≤◌, List, All, take, get_or, subst, arith}
use Rattle.std.proofs.lemmas.List.{take_all}
use Rattle.std.proofs.lemmas.List.Elements.{All-more, All-weaker}
use Rattle.edge_pick.specs.declared.order.EdgeCorners.{EdgeCorners}
use Rattle.edge_pick.specs.Orders.{no_corners}
use Rattle.edge_pick.specs.inner.Searches.{AreBelow}
use Rattle.edge_pick.proofs.order_ends.corner_count.Goals as goal

pub loop-corners-preserved : goal.loop-corners-preserved
loop-corners-preserved c =
    let edges = c.args.edges.now in
    let i = c.loop-corners.corners-index in
    let before = c.loop-corners.count in
    let after = c.max-count.result in
    let more : before ≤ after = omega (arith, c.max.ensures, c.max-count.ensures) in
    let this : AreBelow after (get_or edges i no_corners) = (omega (arith, c.max.ensures, c.max-count.ensures), omega (arith, c.max.ensures, c.max-count.ensures)) in
    All-more (AreBelow after) edges i no_corners c.loop-corners-test.true
    (All-weaker (AreBelow before) (AreBelow after) (λ x below. (omega (arith, below.0, more), omega (arith, below.1, more))) (take i edges) c.loop-corners.invariant) this

pub returns : goal.returns
returns c =
    let edges = c.args.edges.now in
    let i = c.loop-corners.corners-index in
    subst (λ (xs : List EdgeCorners). All (AreBelow c.loop-corners.count) xs) (take_all i edges (omega arith)) c.loop-corners.invariant
