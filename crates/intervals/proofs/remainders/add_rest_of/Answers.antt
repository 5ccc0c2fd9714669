use Rattle.std.proofs.Common.{◌≡◌, [], get_or, refl, sym, ◌∙◌, true≢false, arith, ◌⊎◌, inl, inr}
use Rattle.std.proofs.lemmas.List.{append-nil}
use Rattle.intervals.proofs.Lists.{one}
use Rattle.intervals.proofs.Orders.{not_after, not_after_less, itself}
use Rattle.intervals.proofs.Remaining.{added_on, rest_first, rest_last, rest_after_part, rest_before_part}
use Rattle.intervals.proofs.remainders.add_rest_of.Goals as goal

pub loop-k-init : goal.loop-k-init
loop-k-init g c = ([], sym (append-nil c.args.rest.now.items), rest_first g.met.T.Ord.total c.args.x c.args.parts.now c.args.passed c.requires.proper c.requires.passed)

pub loop-k-preserved : goal.loop-k-preserved
loop-k-preserved g c =
    let old = c.loop-k.invariant in
    let to = c.earlier.result in
    let least = c.earlier.ensures in
    let most = c.later-from.ensures in
    let grown = added_on g.row.T.Denot g.T.Ord.cmp c.loop-k.from to c.args.rest.now.items old.0 _ c.add.new.rest.items old.1 c.in_ok-add.ensures in (
      grown.0,
      grown.1,
      rest_after_part g.met.T.Ord.total c.args.x c.args.parts.now c.requires.parts c.loop-k.k c.index-parts-k.result c.loop-k-test.true (sym c.index-parts-k.is) c.loop-k.from old.0 old.2 to least.one least.first least.second grown.0 grown.2
          (c.is_before.ensures.0 c.if-not-is_before.false) c.later-from.result most.one most.first most.second,
    )

pub returns-then-not-is_before-clause-rest : goal.returns-then-not-is_before-clause-rest
returns-then-not-is_before-clause-rest g c =
    let o = g.met.T.Ord.total in
    let x = c.args.x in
    let p = c.index-parts-k.result in
    let old = c.loop-k.invariant in
    let to = c.earlier.result in
    let least = c.earlier.ensures in
    let grown = added_on g.row.T.Denot g.T.Ord.cmp c.loop-k.from to c.args.rest.now.items old.0 _ c.add.new.rest.items old.1 c.in_ok-add.ensures in
    let past = not_after o p.to x.to (λ h. true≢false (sym (c.is_before.ensures.1 h) ∙ c.if-not-is_before.true)) in
    record {
      added = grown.0;
      all = grown.1;
      right = rest_before_part o x c.args.parts.now c.requires.parts c.loop-k.k p c.loop-k-test.true (sym c.index-parts-k.is) c.loop-k.from old.0 old.2 to least.one least.first least.second grown.0 grown.2 past;
    }

pub returns-then-not-is_before-clause-passed : goal.returns-then-not-is_before-clause-passed
returns-then-not-is_before-clause-passed g c = λ j d h l.
    let old = c.loop-k.invariant.2 in
    not_after_less g.met.T.Ord.total (get_or c.args.parts.now j d).to c.loop-k.from c.args.x.to (old.passed j d h l) old.inside

pub returns-clause-rest : goal.returns-clause-rest
returns-clause-rest g c =
    let o = g.met.T.Ord.total in
    let x = c.args.x in
    let old = c.loop-k.invariant in
    let grown = added_on g.row.T.Denot g.T.Ord.cmp c.loop-k.from x.to c.args.rest.now.items old.0 _ c.add-2.new.rest.items old.1 c.in_ok-add-2.ensures in
    let ended = c.loop-k-test.false in
    record {
      added = grown.0;
      all = grown.1;
      right = rest_last o x c.args.parts.now c.loop-k.k c.loop-k.from old.0 old.2 x.to (inl (one (λ y. (y.from ≡ x.to) ⊎ (y.to ≡ x.to)) x (inr refl))) (itself o x.to)
          (λ j d le l. absurd (omega (arith, ended, le, l))) grown.0 grown.2 (λ cut is f h. absurd (true≢false (sym f ∙ h)));
    }
