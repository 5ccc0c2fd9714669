use Rattle.std.proofs.Common.{◌≡◌, refl}
use Rattle.dec_text.proofs.States.{one_longest}
use Rattle.dec_text.proofs.number.fixed.Goals as goal

pub returns-in-Some-clause-not_a_number : goal.returns-in-Some-clause-not_a_number
returns-in-Some-clause-not_a_number c = λ at.
    let h = c.in-Some.ensures in
    (λ e. let same : c.in-Some.at ≡ at = cc in rw (← same) h, λ k. let same : c.in-Some.at ≡ at = one_longest c.args.bytes.now c.in-Some.at at h.1 k.1 in rw same refl)
