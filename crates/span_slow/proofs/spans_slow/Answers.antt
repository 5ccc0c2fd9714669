use Rattle.std.proofs.Common.{sym, subst}
use Rattle.geometry.specs.Views.{IsEndOn}
use Rattle.span_slow.specs.declared.view.View.{View}
use Rattle.span_slow.specs.Views.{direction_in, AreSpansIn}
use Rattle.span_slow.proofs.Numbered.{if_ok}
use Rattle.span_slow.proofs.spans_slow.Goals as goal

pub plain_spans-requires-clause-seen : goal.plain_spans-requires-clause-seen
plain_spans-requires-clause-seen c e numbered = subst (λ (v : View). ¬ IsEndOn (direction_in v) e) c.in-Plain.is (c.requires.seen e numbered)

pub cut_spans-requires-clause-seen : goal.cut_spans-requires-clause-seen
cut_spans-requires-clause-seen c e numbered = subst (λ (v : View). ¬ IsEndOn (direction_in v) e) c.in-Section.is (c.requires.seen e numbered)

pub returns-in-Plain : goal.returns-in-Plain
returns-in-Plain c e numbered =
    if_ok c.plain_spans.result (λ spans right. subst (λ (v : View). AreSpansIn v e spans.items) (sym c.in-Plain.is) right) (c.plain_spans.ensures e numbered)

pub returns-in-Section : goal.returns-in-Section
returns-in-Section c e numbered =
    if_ok c.cut_spans.result (λ spans right. subst (λ (v : View). AreSpansIn v e spans.items) (sym c.in-Section.is) right) (c.cut_spans.ensures e numbered)
