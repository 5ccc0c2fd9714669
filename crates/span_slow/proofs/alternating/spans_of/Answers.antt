use Rattle.std.proofs.Common.{List, sym, subst}
use Rattle.std.specs.Prelude.{All}
use Rattle.std.proofs.lemmas.Result.{IfOk-weaker}
use Rattle.exact_frac.specs.declared.Frac.{Frac}
use Rattle.exact_frac.specs.Frac.{order_of}
use Rattle.intervals.specs.declared.interval.Interval.{Interval}
use Rattle.intervals.specs.Cuts.{AreApart}
use Rattle.cut_plane.specs.Beyond.{IsStretch}
use Rattle.span_slow.specs.inner.Hidden.{AreSpansOf}
use Rattle.span_slow.proofs.Composed.{given_proper, united_stretches, spans_through}
use Rattle.span_slow.proofs.alternating.spans_of.Goals as goal

pub united-requires : goal.united-requires
united-requires c = given_proper c.args.hidden.items c.requires

pub alternating-requires-clause-stretches : goal.alternating-requires-clause-stretches
alternating-requires-clause-stretches c =
    subst (λ (us : List (Interval Frac)). All IsStretch us) (sym c.deref.ensures.value) (united_stretches c.args.hidden.items c.in_ok-united.united.items c.in_ok-united.ensures c.requires)

pub alternating-requires-clause-apart : goal.alternating-requires-clause-apart
alternating-requires-clause-apart c = subst (λ (us : List (Interval Frac)). AreApart order_of us) (sym c.deref.ensures.value) c.in_ok-united.ensures.apart

pub returns : goal.returns
returns c =
    let hidden = c.args.hidden.items in
    let united = c.in_ok-united.united.items in
    IfOk-weaker c.alternating.result _ _
    (λ spans h. spans_through hidden united c.in_ok-united.ensures spans.items (subst (λ (us : List (Interval Frac)). AreSpansOf us spans.items) c.deref.ensures.value h)) c.alternating.ensures
