use Rattle.std.proofs.Common.{rules, refl}
use Rattle.piece_verify.proofs.Ratios.{no_whole, kept, whole_listed, whole_fits}
use Rattle.piece_verify.proofs.fractions.whole_fraction.Goals as goal

pub returns-in_err-whole : goal.returns-in_err-whole
returns-in_err-whole c = rw c.from_residual.ensures (no_whole c.args.bytes.now c.requires c.in_err-whole.ensures)

pub invariant_of-result : goal.invariant_of-result
invariant_of-result c =
    let same = kept c.in_ok-whole.field-0 c.in_ok-whole.ensures.0 in
    record { positive = search rules; not_least = rw same (whole_fits c.in_ok-whole.field-0 c.in_ok-whole.ensures.0) }

pub returns : goal.returns
returns c =
    let same = kept c.in_ok-whole.field-0 c.in_ok-whole.ensures.0 in
    (whole_listed _ (rw same c.in_ok-whole.ensures.0) refl, rw same c.in_ok-whole.ensures.1)
