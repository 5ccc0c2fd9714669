use Rattle.std.proofs.Common.{List, subst}
use Rattle.solid_mesh.specs.Solids.{solid_part, edge_halves}
use Rattle.edge_pick.specs.declared.order.EdgeCorners.{EdgeCorners}
use Rattle.edge_pick.specs.declared.order.Step.{Step}
use Rattle.edge_pick.specs.Orders.{AreWalked}
use Rattle.edge_pick.specs.inner.Numberings.{AreNumbered}
use Rattle.edge_pick.proofs.Numberings.{are_runs}
use Rattle.edge_pick.proofs.runs.find_runs.Goals as goal

pub returns : goal.returns
returns c =
    let edges = c.in_ok-edges.edges.items in
    let steps = c.in_ok-steps.steps.items in
    let runs = c.in_ok-runs.runs.items in
    let walked : AreWalked edges steps = subst (λ (xs : List EdgeCorners). AreWalked xs steps) c.deref.ensures.value c.in_ok-steps.ensures in
    let numbered : AreNumbered edges steps runs =
    subst (λ (xs : List EdgeCorners). AreNumbered xs steps runs) c.deref-2.ensures.value (subst (λ (xs : List Step). AreNumbered c.deref-2.result.now xs runs) c.deref-3.ensures.value c.in_ok-runs.ensures) in
    are_runs (solid_part c.args.solid.now) (edge_halves c.args.solid.now) c.args.drawn.now edges c.in_ok-edges.ensures.for_each c.in_ok-edges.ensures.right c.in_ok-edges.ensures.edges
    c.requires.rising steps walked runs numbered
