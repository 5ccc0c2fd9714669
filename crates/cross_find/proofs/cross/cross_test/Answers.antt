use Rattle.std.proofs.Common.{◌≡◌, ◌⊎◌, inl, inr, refl, sym, subst, ◌∙◌}
use Rattle.std.specs.Prelude.{pos, ◌-ℤ◌, ◌<ℤ◌, ◌≢◌, ◌↔◌, IsTrue}
use Rattle.lattice.specs.Points.{of_dir}
use Rattle.geometry.specs.Counts.{to_left, to_right}
use Rattle.geometry.specs.Shares.{change_of}
use Rattle.cross_find.proofs.Passed.{passed, small, zero, some_left}
use Rattle.cross_find.proofs.Changes.{changed_passed, unchanged, passes_nearer, passes_by, crossed_at, denominator_between}
use Rattle.cross_find.proofs.Signs.{same_mark}
use Rattle.cross_find.proofs.cross.cross_test.Goals as goal
use Rattle.cross_find.proofs.cross.cross_test.Goals.{else-left-eq0-via-then-left-eq0+else-right-eq0, else-left-eq0-via-else-left-eq0}

pub returns-then-are_alike-clause-answer : goal.returns-then-are_alike-clause-answer
returns-then-are_alike-clause-answer c e o at_e at_o changes =
    let d = of_dir c.args.d.now in
    let (at_a, at_b) = c.ends.ensures e at_e in
    let (at_p, at_q) = c.ends-2.ensures o at_o in
    let x = c.sides_of-sides.result in
    let is = c.sides_of-sides.ensures in
    let from = passed x.from x.from_small in
    let to = passed x.to x.to_small in
    let alike = subst (λ (T : Type 0). IsTrue c.are_alike.result ↔ T) (λ i. ((pos 0 <ℤ from i) × (pos 0 <ℤ to i)) ⊎ ((from i <ℤ pos 0) × (to i <ℤ pos 0)) ⊎ ((from i ≡ pos 0) × (to i ≡ pos 0))) c.are_alike.ensures in
    let same = alike.0 c.if-are_alike.true in
    elim changes.some [
      | inl left ↦ left (unchanged d e o _ _ _ _ at_a at_b at_p at_q to_left x.from x.to is.from is.to (same_mark to_left x.from x.to same))
      | inr right ↦ right (unchanged d e o _ _ _ _ at_a at_b at_p at_q to_right x.from x.to is.from is.to (same_mark to_right x.from x.to same))
    ]

pub returns-in_default-clause-answer : goal.returns-in_default-clause-answer
returns-in_default-clause-answer c e o at_e at_o changes =
    let d = of_dir c.args.d.now in
    let (at_a, at_b) = c.ends.ensures e at_e in
    let (at_p, at_q) = c.ends-2.ensures o at_o in
    let is = c.sides_of-sides.ensures in
    let denominator = (λ i. is.to i -ℤ is.from i) ∙ denominator_between d c.ends.result.0 c.ends.result.1 c.ends-2.result.0 c.ends-2.result.1 in
    c.in_default.ensures.answer (passes_by d e o _ _ _ _ at_a at_b at_p at_q _ _ _ denominator refl refl changes.passes)

pub returns-then-right-eq0-clause-answer : goal.returns-then-right-eq0-clause-answer
returns-then-right-eq0-clause-answer c e o at_e at_o changes =
    let d = of_dir c.args.d.now in
    let (at_a, at_b) = c.ends.ensures e at_e in
    let (at_p, at_q) = c.ends-2.ensures o at_o in
    let s = c.sides_of-sides.result in
    let is = c.sides_of-sides.ensures in
    let turn = c.turn_of.ensures in
    let x = c.count_changes-left.result in
    let change = c.count_changes-left.ensures in
    elim changes.some [
      | inl left ↦
          left (sym (changed_passed d e o _ _ _ _ at_a at_b at_p at_q to_left c.turn_of.result s.from s.to x.left turn.size s.from_small s.to_small (turn.value o at_o) is.from is.to change.left) ∙ zero x.left x.left_small c.if-left-eq0.true)
      | inr right ↦
          right (sym (changed_passed d e o _ _ _ _ at_a at_b at_p at_q to_right c.turn_of.result s.from s.to x.right turn.size s.from_small s.to_small (turn.value o at_o) is.from is.to change.right) ∙ zero x.right x.right_small c.if-right-eq0.true)
    ]

pub returns-clause-answer : goal.returns-clause-answer
returns-clause-answer c e o at_e at_o =
    let d = of_dir c.args.d.now in
    let (at_a, at_b) = c.ends.ensures e at_e in
    let (at_p, at_q) = c.ends-2.ensures o at_o in
    let s = c.sides_of-sides.result in
    let is = c.sides_of-sides.ensures in
    let turn = c.turn_of.ensures in
    let x = c.count_changes-left.result in
    let change = c.count_changes-left.ensures in
    let left = changed_passed d e o _ _ _ _ at_a at_b at_p at_q to_left c.turn_of.result s.from s.to x.left turn.size s.from_small s.to_small (turn.value o at_o) is.from is.to change.left in
    let right = changed_passed d e o _ _ _ _ at_a at_b at_p at_q to_right c.turn_of.result s.from s.to x.right turn.size s.from_small s.to_small (turn.value o at_o) is.from is.to change.right in
    let denominator = (λ i. is.to i -ℤ is.from i) ∙ denominator_between d c.ends.result.0 c.ends.result.1 c.ends-2.result.0 c.ends-2.result.1 in
    let (passes, at) = c.in-Some.ensures.answer in
    let some : (change_of to_left d e o ≢ pos 0) ⊎ (change_of to_right d e o ≢ pos 0) = elim c.else-left-eq0.branch [
      | else-left-eq0-via-then-left-eq0+else-right-eq0 w ↦ inr (λ none. some_left x.right x.right_small (right ∙ none) w.if-right-eq0.false)
      | else-left-eq0-via-else-left-eq0 w ↦ inl (λ none. some_left x.left x.left_small (left ∙ none) w.if-left-eq0.false)
    ] in
    record {
      changes = record { passes = passes_nearer d e o _ _ _ _ at_a at_b at_p at_q _ _ _ denominator refl refl passes; some = some };
      at = crossed_at d e o _ _ _ _ at_a at_b at_p at_q _ _ _ denominator refl refl c.in-Some.at at;
      left = small x.left x.left_small ∙ left;
      right = small x.right x.right_small ∙ right;
    }
