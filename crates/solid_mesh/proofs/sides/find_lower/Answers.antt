use Rattle.std.proofs.Common.{◌≡◌, filter, length, ap, ◌∙◌, arith}
use Rattle.std.specs.List.{range_with_len}
use Rattle.solid_mesh.specs.inner.Halves.{is_lower}
use Rattle.solid_mesh.proofs.HalfLemmas.{lower_listed, upper_passed}
use Rattle.solid_mesh.proofs.sides.find_lower.Goals as goal
use Rattle.solid_mesh.proofs.sides.find_lower.Goals.{then-half-twins+in_ok-push, else-half-twins}

pub loop-half-preserved : goal.loop-half-preserved
loop-half-preserved c =
    let twins = c.args.twins.now in
    let half = c.loop-half.half in
    let listed = lower_listed twins half c.loop-half.halves.items c.loop-half.invariant in
    let passed = upper_passed twins half c.loop-half.halves.items c.loop-half.invariant in
    elim c.if-half-twins.branch [
      | then-half-twins+in_ok-push w ↦ rw w.halves-is (listed w.if-half-twins.true w.push.new.self.items w.in_ok-push.ensures.items)
      | else-half-twins w ↦ rw w.halves-is (passed w.if-half-twins.false)
    ]

pub returns : goal.returns
returns c =
    let all : c.loop-half.half ≡ length c.args.twins.now = omega arith in
    c.loop-half.invariant ∙ ap (λ n. filter (is_lower c.args.twins.now) (range_with_len 0 n)) all
