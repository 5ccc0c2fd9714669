use Rattle.std.proofs.Common.{arith}
use Rattle.std.specs.Prelude.{pos, ◌<ℤ◌}
use Rattle.std.proofs.lemmas.Int.{ints}
use Rattle.meeting.proofs.Products.{offset_test}
use Rattle.meeting.proofs.places.is_in_order.Goals as goal

pub returns : goal.returns
returns c =
    let x = c.args.x.now in
    let y = c.args.y.now in
    let start : x.start <ℤ pos 0 = omega (arith, ints) in
    let end : y.end <ℤ pos 0 = omega (arith, ints) in
    let test = offset_test x.start y.end x.end y.start x.start_small y.end_small x.end_small y.start_small in
    (λ h _ _. test.0 h, λ h. test.1 (h start end))
