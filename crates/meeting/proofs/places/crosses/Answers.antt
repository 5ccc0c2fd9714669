use Rattle.std.proofs.Common.{arith}
use Rattle.std.specs.Prelude.{pos, ◌<ℤ◌}
use Rattle.std.proofs.lemmas.Int.{ints}
use Rattle.meeting.proofs.InPlane.{not-above}
use Rattle.meeting.proofs.places.crosses.Goals as goal

pub returns-then-x-gt0-2 : goal.returns-then-x-gt0-2
returns-then-x-gt0-2 c =
    let x = c.args.x.now in
    let start : pos 0 <ℤ x.above.start = omega (arith, ints) in
    let end : pos 0 <ℤ x.above.end = omega (arith, ints) in
    (λ h. cc, λ r. absurd (not-above x start end r))
