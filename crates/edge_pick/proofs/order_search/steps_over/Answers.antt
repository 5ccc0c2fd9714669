use Rattle.std.proofs.Common.{◌≡◌, ◌+◌, ◌<◌, false, length, get_or, sym, subst, ◌∙◌, arith}
use Rattle.std.proofs.lemmas.List.{get_or_default}
use Rattle.edge_pick.specs.inner.Searches.{lists_of}
use Rattle.edge_pick.proofs.OrderSearch.{AreWalkedBelow, below_none, below_passed, below_run, all_walked}
use Rattle.edge_pick.proofs.order_search.steps_over.Goals as goal
use Rattle.edge_pick.proofs.order_search.steps_over.Goals.{then-not-index+in_ok-walk_run, else-not-index}

pub loop-place-init : goal.loop-place-init
loop-place-init c =
    below_none c.args.edges.now (lists_of c.args.lists.items) c.in_ok-reached.reached.items c.new-steps.result.items c.requires.ends c.in_ok-reached.ensures.for_each c.in_ok-reached.ensures.none
    c.new-steps.ensures.items

pub loop-place-preserved : goal.loop-place-preserved
loop-place-preserved c =
    let edges = c.args.edges.now in
    let k = c.loop-place.place in
    let lists = lists_of c.loop-place.lists.items in
    let reached = c.loop-place.reached.items in
    let steps = c.loop-place.steps.items in
    let inside : k < length reached = omega (arith, c.loop-place.invariant.search.long, c.loop-place-test.true) in
    let flag : get_or reached k false ≡ c.index.result.now = get_or_default reached k false c.index.result.now inside ∙ sym c.index.ensures in
    elim c.if-not-index.branch [
      | then-not-index+in_ok-walk_run w ↦
          let more = below_run edges k lists reached steps c.loop-place.invariant (lists_of w.walk_run.new.lists.items) w.walk_run.new.reached.items w.walk_run.new.steps.items
          (flag ∙ w.if-not-index.true) w.in_ok-walk_run.ensures in
          subst (λ xs. AreWalkedBelow edges (k + 1) (lists_of xs.items) c.if-not-index.reached.items c.if-not-index.steps.items) (sym w.lists-is)
          (subst (λ xs. AreWalkedBelow edges (k + 1) (lists_of w.walk_run.new.lists.items) xs.items c.if-not-index.steps.items) (sym w.reached-is)
          (subst (λ xs. AreWalkedBelow edges (k + 1) (lists_of w.walk_run.new.lists.items) w.walk_run.new.reached.items xs.items) (sym w.steps-is) more))
      | else-not-index w ↦
          let passed = below_passed edges k lists reached steps c.loop-place.invariant (flag ∙ w.if-not-index.false) in
          subst (λ xs. AreWalkedBelow edges (k + 1) (lists_of xs.items) c.if-not-index.reached.items c.if-not-index.steps.items) (sym w.lists-is)
          (subst (λ xs. AreWalkedBelow edges (k + 1) lists xs.items c.if-not-index.steps.items) (sym w.reached-is)
          (subst (λ xs. AreWalkedBelow edges (k + 1) lists reached xs.items) (sym w.steps-is) passed))
    ]

pub returns : goal.returns
returns c =
    all_walked c.args.edges.now c.loop-place.place (lists_of c.loop-place.lists.items) c.loop-place.reached.items c.loop-place.steps.items c.loop-place.invariant
    (omega (arith, c.loop-place-test.false, c.loop-place.auto.place-end))
