use Rattle.std.proofs.Common.{refl}
use Rattle.detail_view.proofs.Takings.{judged}
use Rattle.detail_view.proofs.check.judge_list.Goals as goal

pub returns-in-Ok-check_list-clause-answer : goal.returns-in-Ok-check_list-clause-answer
returns-in-Ok-check_list-clause-answer g c = λ told.
    let taken = c.in-Ok.ensures.answer told in
    record {
      job = c.args.job.now;
      solid = c.args.solid.now;
      strokes = taken.0;
      entries = c.in-Ok.list.entries.items;
      given = (taken.0, taken.1, refl);
      read = taken.2;
      is = c.in-Ok-check_list.ensures.verdict;
    }

pub returns-in-Ok-check_list-clause-taken : goal.returns-in-Ok-check_list-clause-taken
returns-in-Ok-check_list-clause-taken g c =
    judged g.D.Desk.fetches c.args.words.now.list c.args.job.now c.args.solid.now c.args.desk.now c.take_list.new.desk c.in-Ok.list c.in-Ok.ensures.taken c.in-Ok-check_list.verdict c.in-Ok-check_list.ensures.verdict
