use Rattle.edge_pick.specs.inner.Searches.{lists_of}
use Rattle.edge_pick.proofs.OrderSearch.{around}
use Rattle.edge_pick.proofs.order_search.walk_around.Goals as goal

pub returns : goal.returns
returns c =
    around c.args.edges.now c.args.place c.args.reached.now.items c.args.steps.now.items (lists_of c.spread.new.lists.items) (lists_of c.spread-2.new.lists.items)
    c.spread.new.reached.items c.spread.new.steps.items c.spread-2.new.reached.items c.spread-2.new.steps.items c.in_ok-spread.ensures c.in_ok-spread-2.ensures
