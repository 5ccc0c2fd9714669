use Rattle.std.proofs.Common.{sym, subst, unsigned_abs, ◌≤◌, ◌∙◌}
use Rattle.std.specs.Prelude.{ℤ}
use Rattle.hiding_laws.proofs.Sides.{tally_of}
use Rattle.cross_find.proofs.Passed.{small, smaller, product}
use Rattle.cross_find.proofs.turns.share.Goals as goal

pub times_between-requires-clause-from : goal.times_between-requires-clause-from
times_between-requires-clause-from c = subst (λ (z : ℤ). unsigned_abs z ≤ 1) (sym (smaller c.one_where-first.result c.one_where-first.ensures.size)) c.one_where-first.ensures.size

pub times_between-requires-clause-to : goal.times_between-requires-clause-to
times_between-requires-clause-to c = subst (λ (z : ℤ). unsigned_abs z ≤ 1) (sym (smaller c.one_where-second.result c.one_where-second.ensures.size)) c.one_where-second.ensures.size

pub returns-clause-share : goal.returns-clause-share
returns-clause-share c =
    let first = c.one_where-first in
    let second = c.one_where-second in
    record {
      first = first.result;
      second = second.result;
      passes_first = tally_of c.passes.ensures.0 c.passes.ensures.1 first.ensures.tally;
      passes_second = tally_of c.passes-2.ensures.0 c.passes-2.ensures.1 second.ensures.tally;
      is = small c.times_between.result c.times_between.ensures.size
          ∙ product c.times_between.result c.args.turn second.result first.result c.requires second.ensures.size first.ensures.size c.times_between.ensures.value;
    }
