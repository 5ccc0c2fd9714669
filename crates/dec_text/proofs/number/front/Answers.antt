use Rattle.std.proofs.Common.{◌*◌, ◌^◌, ◌++◌, ℕ, sym, ◌∙◌, ap, subst}
use Rattle.std.specs.Prelude.{Option}
use Rattle.dec_text.specs.inner.Reading.{IsBelowEnd, front_of}
use Rattle.dec_text.proofs.Digits.{digits-take}
use Rattle.dec_text.proofs.Rounding.{first_over, second_over, both_parts}
use Rattle.dec_text.proofs.number.front.Goals as goal

pub with_digits-requires-clause-digits : goal.with_digits-requires-clause-digits
with_digits-requires-clause-digits c = digits-take c.min.result c.args.whole.now c.requires.whole

pub with_digits-requires-2-clause-digits : goal.with_digits-requires-2-clause-digits
with_digits-requires-2-clause-digits c = digits-take c.min-2.result c.args.fraction.now c.requires.fraction

pub returns-in_err-value : goal.returns-in_err-value
returns-in_err-value c =
    subst (λ (r : Option ℕ). IsBelowEnd (front_of (c.args.whole.now ++ c.args.fraction.now) c.args.count) r) (sym c.from_residual.ensures)
    (first_over c.args.whole.now c.args.fraction.now c.args.count c.min.result c.min.ensures c.in_err-value.ensures)

pub returns-in_err-value-2 : goal.returns-in_err-value-2
returns-in_err-value-2 c =
    subst (λ (r : Option ℕ). IsBelowEnd (front_of (c.args.whole.now ++ c.args.fraction.now) c.args.count) r) (sym c.from_residual-in_err-value-2.ensures)
    (second_over c.args.whole.now c.args.fraction.now c.args.count c.min.result c.in_ok-value.value c.saturating_sub-rest.result c.min-2.result c.min.ensures c.in_ok-value.ensures.0 c.saturating_sub-rest.ensures c.min-2.ensures c.in_err-value-2.ensures)

pub returns : goal.returns
returns c =
    let e = both_parts c.args.whole.now c.args.fraction.now c.args.count c.min.result c.in_ok-value.value c.saturating_sub-rest.result c.min-2.result c.saturating_sub.result c.min.ensures c.in_ok-value.ensures.0 c.saturating_sub-rest.ensures c.min-2.ensures c.saturating_sub.ensures in
    subst (λ (n : ℕ). IsBelowEnd n c.with_zeros.result) (ap (λ (n : ℕ). n * 10 ^ c.saturating_sub.result) c.in_ok-value-2.ensures.0 ∙ e) c.with_zeros.ensures
