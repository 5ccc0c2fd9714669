use Rattle.std.proofs.Common.{◌≡◌, ℕ, ◌<◌, true, false, length, subst, arith}
use Rattle.edge_pick.specs.Orders.{corner_at}
use Rattle.edge_pick.specs.inner.Searches.{lists_of, AreEndsAt}
use Rattle.edge_pick.proofs.CornerEnds.{end_at, long_lists, room_at, adds, ends_none, ends_more}
use Rattle.edge_pick.proofs.order_ends.find_ends.Goals as goal

pub loop-place-init : goal.loop-place-init
loop-place-init c =
    let lists = c.in_ok-lists.lists in
    ends_none c.args.edges.now (lists_of lists.items) c.corner_count.result (omega (arith, long_lists lists.items, c.in_ok-lists.ensures.for_each, lists.ok.0)) c.corner_count.ensures
    c.in_ok-lists.ensures.empty

pub loop-place-preserved : goal.loop-place-preserved
loop-place-preserved c =
    let edges = c.args.edges.now in
    let k = c.loop-place.place in
    let old = c.loop-place.lists in
    let mid = c.add.new.lists in
    let new = c.add-in-loop-place.new.lists in
    let within : k < length edges = c.loop-place-test.true in
    let count : length mid.items ≡ length old.items = omega (arith, c.add.ensures.for_each, old.ok.0, mid.ok.0) in
    let a : corner_at edges k false < length (lists_of old.items) = room_at edges k (lists_of old.items) c.loop-place.invariant k false within in
    let b : corner_at edges k true < length (lists_of mid.items) =
    omega (arith, room_at edges k (lists_of old.items) c.loop-place.invariant k true within, long_lists old.items, long_lists mid.items, count) in
    let one = adds (corner_at edges k false) (end_at k false) (lists_of old.items) (lists_of mid.items) a c.in_ok-add.ensures.added in
    let two = adds (corner_at edges k true) (end_at k true) (lists_of mid.items) (lists_of new.items) b c.in_ok-add-2.ensures.added in
    ends_more edges (lists_of old.items) (lists_of mid.items) (lists_of new.items) k within c.loop-place.invariant one two

pub returns : goal.returns
returns c =
    let all : c.loop-place.place ≡ length c.args.edges.now = omega (arith, c.loop-place-test.false, c.loop-place.auto.place-end) in
    subst (λ (n : ℕ). AreEndsAt c.args.edges.now n (lists_of c.loop-place.lists.items)) all c.loop-place.invariant
