use Rattle.std.proofs.Common.{◌≡◌, ℕ, ◌+◌, ◌-◌, ◌<◌, List, true, length, set, refl, sym, subst, arith}
use Rattle.std.proofs.lemmas.Option.{slice_get_read}
use Rattle.edge_pick.specs.declared.order.Step.{Step}
use Rattle.edge_pick.specs.inner.Searches.{lists_of}
use Rattle.edge_pick.proofs.OrderSearch.{IsWalking, few_steps, reached_at, walk_starts, walk_on, walk_ends}
use Rattle.edge_pick.proofs.order_search.walk_run.Goals as goal

pub loop-head-init : goal.loop-head-init
loop-head-init c =
    let edges = c.args.edges.now in
    let start = c.args.start in
    let old = c.args.reached.now.items in
    let old_steps = c.args.steps.now.items in
    let lists = lists_of c.args.lists.now.items in
    let head : length old_steps ≡ c.len-head.result = omega (arith, c.len-head.ensures, c.args.steps.now.ok.0) in
    subst (λ (n : ℕ). IsWalking edges start old old_steps n lists (set old start true) c.push.new.self.items) head
    (subst (λ (xs : List Step). IsWalking edges start old old_steps (length old_steps) lists (set old start true) xs) (sym c.in_ok-push.ensures.items)
    (walk_starts edges start old old_steps lists c.requires.start c.requires.new c.requires.first c.requires.search c.requires.ends c.requires.closed))

pub walk_around-requires-clause-from : goal.walk_around-requires-clause-from
walk_around-requires-clause-from c =
    let steps = c.loop-head.steps.items in
    let head = c.loop-head.head in
    let at = slice_get_read steps (length steps) head c.index.result.now refl (omega (arith, c.loop-head-test.true, c.len.ensures, c.loop-head.steps.ok.0)) c.index.ensures in
    reached_at c.args.edges.now c.loop-head.reached.items steps c.loop-head.invariant.search head c.index.result.now at

pub loop-head-preserved : goal.loop-head-preserved
loop-head-preserved c =
    let steps = c.loop-head.steps.items in
    let head = c.loop-head.head in
    let at = slice_get_read steps (length steps) head c.index.result.now refl (omega (arith, c.loop-head-test.true, c.len.ensures, c.loop-head.steps.ok.0)) c.index.ensures in
    walk_on c.args.edges.now c.args.start c.args.reached.now.items c.args.steps.now.items head (lists_of c.loop-head.lists.items) c.loop-head.reached.items steps c.index.result.now
    (lists_of c.walk_around.new.lists.items) c.walk_around.new.reached.items c.walk_around.new.steps.items c.loop-head.invariant at c.in_ok-walk_around.ensures

pub loop-head-smaller : goal.loop-head-smaller
loop-head-smaller c =
    let steps = c.loop-head.steps.items in
    let few = few_steps c.args.edges.now c.loop-head.reached.items steps c.loop-head.invariant.search in
    let inside : c.loop-head.head < length steps = omega (arith, c.loop-head-test.true, c.len.ensures, c.loop-head.steps.ok.0) in
    falls (length c.args.edges.now) c.loop-head.head (omega (arith, few, inside))
  where
    falls : (n i : ℕ) → i < n → n - (i + 1) < n - i
    falls n i h = omega arith

pub returns : goal.returns
returns c =
    let steps = c.loop-head.steps.items in
    walk_ends c.args.edges.now c.args.start c.args.reached.now.items c.args.steps.now.items c.loop-head.head (lists_of c.loop-head.lists.items) c.loop-head.reached.items steps
    (omega (arith, c.loop-head-test.false, c.len.ensures, c.loop-head.steps.ok.0)) c.loop-head.invariant
