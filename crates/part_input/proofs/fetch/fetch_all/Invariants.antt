use Rattle.std.proofs.Common.{◌≡◌, ◌+◌, ◌-◌, true, vec_len}
use Rattle.desk.specs.Taken.{AreFetched}
use Rattle.part_input.proofs.Blocks.{IsFront}
use Rattle.part_input.proofs.fetch.fetch_all.Given as goal

-- what was fetched is the front of the file, and nothing has changed
abbrev pub invariant-loop-desk : goal.invariant-loop-desk
invariant-loop-desk g l =
    let state = g.D.Desk.state in
    record {
      front : (state l.fn.desk).tells ≡ true → IsFront ((state l.fn.desk).files l.name) l.out.items;
      same : state l.desk ≡ state l.fn.desk;
      blocks : AreFetched g.D.Desk.fetches l.name l.fn.desk l.desk l.out.items;
    }

abbrev pub decreases-loop-desk : goal.decreases-loop-desk
decreases-loop-desk g l = l.limit + 1 - vec_len l.out
