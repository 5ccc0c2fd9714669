use Rattle.std.proofs.Common.{◌≡◌, ℕ, ◌<◌, List, All, length, sym, ap, subst, ◌∙◌, arith}
use Rattle.edge_pick.specs.declared.order.EdgeCorners.{EdgeCorners}
use Rattle.edge_pick.specs.Orders.{AreWalked}
use Rattle.edge_pick.specs.inner.Numberings.{AreCornersOf}
use Rattle.span_count.proofs.Listings.{few_drawn}
use Rattle.span_count.proofs.OrderSteps.{steps_right}
use Rattle.span_count.proofs.order.steps_of.Goals as goal

pub corners_of-requires : goal.corners_of-requires
corners_of-requires g c = subst (λ (xs : List ℕ). All (λ i. i < length (g.S.Sight.sight c.args.sight.now).halves) xs) (sym c.deref.ensures.value) c.requires.picked.1.drawn.within

pub breadth_first-requires : goal.breadth_first-requires
breadth_first-requires g c =
    let few = few_drawn (g.S.Sight.sight c.args.sight.now) c.requires.seen c.args.picked.now c.requires.picked in
    omega (arith, few, c.in_ok-edges.ensures.for_each, ap (λ (xs : List ℕ). length xs) c.deref.ensures.value, ap (λ (xs : List EdgeCorners). length xs) c.deref-2.ensures.value)

pub returns : goal.returns
returns g c =
    let x = g.S.Sight.sight c.args.sight.now in
    let p = c.args.picked.now in
    let edges = c.in_ok-edges.edges.items in
    let steps = c.in_ok-steps.steps.items in
    let drawn : c.deref.result.now ≡ p.drawn.items = c.deref.ensures.value in
    let long : length edges ≡ length p.drawn.items = c.in_ok-edges.ensures.for_each ∙ ap (λ (xs : List ℕ). length xs) drawn in
    let corners = subst (λ (xs : List ℕ). AreCornersOf x.part x.halves xs edges) drawn c.in_ok-edges.ensures.right in
    let walked = subst (λ (xs : List EdgeCorners). AreWalked xs steps) c.deref-2.ensures.value c.in_ok-steps.ensures in
    steps_right x p edges long corners c.requires.picked.1.drawn.ascending c.requires.picked.1.runs steps walked
