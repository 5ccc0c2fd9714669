use Rattle.std.proofs.Common.{◌≡◌, arith, to_z, of_z}
use Rattle.std.specs.Prelude.{◌≤ℤ◌}
use Rattle.std.specs.Int.{w32}
use Rattle.std.proofs.lemmas.Int.{ints}
use Rattle.meeting.proofs.Machine.{at_most_test}
use Rattle.meeting.proofs.Ranges.{ends_meet, meeting_ends}
use Rattle.meeting.proofs.boxes.ranges_meet.Goals as goal

pub returns-then-r-s : goal.returns-then-r-s
returns-then-r-s c =
    let r = c.args.r.now in
    let s = c.args.s.now in
    let first : r.from ≤ℤ s.to = omega (arith, ints) in
    let is_from : to_z w32 (of_z w32 s.from) ≡ s.from = omega (arith, ints) in
    let is_to : to_z w32 (of_z w32 r.to) ≡ r.to = omega (arith, ints) in
    let test = at_most_test _ _ s.from r.to is_from is_to in
    (λ h. ends_meet r s first (test.0 h), λ h. test.1 ((meeting_ends r s h).1))
