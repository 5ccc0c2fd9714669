use Rattle.std.proofs.Common.{sym, ◌∙◌, ap, arith}
use Rattle.dec_text.specs.inner.Reading.{step}
use Rattle.dec_text.specs.declared.number.Kind.{Kind}
use Rattle.dec_text.proofs.States.{stops, ends_early, ends_well}
use Rattle.dec_text.proofs.number.fault_place.Goals as goal

pub returns-in-None : goal.returns-in-None
returns-in-None c =
    stops c.args.bytes.now c.loop-at.at c.loop-at.state (omega arith) c.loop-at.invariant
    (sym (ap (λ (k : Kind). step c.loop-at.state k) c.byte_kind.ensures) ∙ sym c.step.ensures ∙ c.in-None.is)

pub returns-then-may_end : goal.returns-then-may_end
returns-then-may_end c = ends_well c.args.bytes.now c.loop-at.at c.loop-at.state (omega arith) c.loop-at.invariant (sym c.may_end.ensures ∙ c.if-may_end.true)

pub returns-else-may_end : goal.returns-else-may_end
returns-else-may_end c = ends_early c.args.bytes.now c.loop-at.at c.loop-at.state (omega arith) c.loop-at.invariant (sym c.may_end.ensures ∙ c.if-may_end.false)
