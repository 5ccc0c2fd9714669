use Rattle.std.proofs.Common.{sym, ◌∙◌}
use Rattle.detail_view.proofs.Readings.{span_facts}
use Rattle.detail_view.proofs.words.window_of.Goals as goal

pub invariant_of-result : goal.invariant_of-result
invariant_of-result c =
    let u = span_facts _ _ (sym c.is_span.ensures ∙ c.if-is_span.true) in
    let v = span_facts _ _ (sym c.is_span-then-is_span.ensures ∙ c.if-is_span-2.true) in
    record { wide = u.rises; tall = v.rises; u1_in_range = u.from_near; v1_in_range = v.from_near; u2_in_range = u.to_near; v2_in_range = v.to_near }
