use Rattle.std.proofs.Common.{rules, refl}
use Rattle.part_input.proofs.Blocks.{goes_on, ends, is_longer, none_front, none_fetched, fetched_more}
use Rattle.part_input.proofs.fetch.fetch_all.Goals as goal

pub returns-then-branch-eq0-clause-took : goal.returns-then-branch-eq0-clause-took
returns-then-branch-eq0-clause-took g c = search (rules, ends)

pub loop-desk-init : goal.loop-desk-init
loop-desk-init g c =
    let desk = c.args.desk.now in
    let out = c.new-out.result.items in
    record {
      front = λ told. none_front ((g.D.Desk.state desk).files c.args.name.now) out c.new-out.ensures.items;
      same = refl;
      blocks = none_fetched g.D.Desk.fetches c.args.name.now desk out c.new-out.ensures.items;
    }

pub loop-desk-preserved : goal.loop-desk-preserved
loop-desk-preserved g c = search (rules, goes_on, fetched_more)

pub returns-clause-too_long : goal.returns-clause-too_long
returns-clause-too_long g c = λ told e. is_longer _ _ _ (c.loop-desk.invariant.front told) (search rules)
