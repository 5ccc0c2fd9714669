use Rattle.std.proofs.Common.{◌≡◌, ◌<◌, ◌^◌, ◌⊎◌, inl, inr, refl, sym, subst, ◌∙◌, arith, to_z, of_z, true, false}
use Rattle.std.specs.Prelude.{ℤ, pos, ◌-ℤ◌, ◌<ℤ◌, ◌≢◌, unsigned_abs}
use Rattle.std.specs.Int.{w64, w128}
use Rattle.std.specs.Int.Signed.{lt_z}
use Rattle.std.proofs.lemmas.Int.{ints}
use Rattle.lattice.specs.Triple.{Triple}
use Rattle.lattice.specs.Points.{of_dir}
use Rattle.lattice.specs.Cuts.{plane_of, toward_of}
use Rattle.geometry.specs.Cuts.{over_of}
use Rattle.geometry.specs.Views.{face_sign}
use Rattle.geometry.specs.Counts.{to_left, to_right, orientation_of}
use Rattle.geometry.specs.Shares.{PassesNearer, IsCrossedAt}
use Rattle.cross_find.proofs.Changes.{passes_nearer, passes_by, crossed_at, denominator_between}
use Rattle.cross_find.proofs.Passed.{passed, small, zero, some_left, turn_passed}
use Rattle.cut_plane.proofs.Lists.{not_true}
use Rattle.cut_count_laws.specs.CutShares.{cut_change_of}
use Rattle.cut_count.specs.Crossings.{IsCutAcross}
use Rattle.cut_count.proofs.CutEndTurns.{end_by}
use Rattle.cut_count.proofs.CutCrossings.{none_left, some_left_of, cut_changed, crossed_beyond, place_beyond}
use Rattle.cut_count.proofs.cross.cut_cross.Goals as goal
use Rattle.cut_count.proofs.cross.cut_cross.Goals.{else-left-eq0-via-then-left-eq0+else-right-eq0, else-left-eq0-via-else-left-eq0, else-p_over-gt0-via-then-p_over-gt0+else-q_over-gt0, else-p_over-gt0-via-else-p_over-gt0}

height : (r z : ℤ) → unsigned_abs r < 2 ^ 23 → r ≡ z → to_z w64 (of_z w64 r) ≡ z
height r z h e = omega (arith, ints)

-- a height that was found to be above 0
above : (r z : ℤ) → unsigned_abs r < 2 ^ 23 → r ≡ z → lt_z (pos 0) (to_z w64 (of_z w64 r)) ≡ true → pos 0 <ℤ z
above r z h e t = omega (arith, ints)

end_passed : (r : ℤ) → unsigned_abs r < 2 ^ 72 → to_z w128 (of_z w128 r) ≡ r
end_passed r h = omega (arith, ints)

-- and one that was not
not_above : (r z : ℤ) → unsigned_abs r < 2 ^ 23 → r ≡ z → lt_z (pos 0) (to_z w64 (of_z w64 r)) ≡ false → pos 0 <ℤ z → ⊥
not_above r z h e t p = omega (arith, ints)

pub returns-then-q_over-gt0-clause-answer : goal.returns-then-q_over-gt0-clause-answer
returns-then-q_over-gt0-clause-answer c e o at_e at_o changes =
    let plane = plane_of c.args.section.now.cut in
    let (at_p, at_q) = c.ends.ensures o at_o in
    let before = above c.over-p_over.result _ c.over-p_over.ensures.size c.over-p_over.ensures.value c.if-p_over-gt0.true in
    let before' = above c.over-q_over.result _ c.over-q_over.ensures.size c.over-q_over.ensures.value c.if-q_over-gt0.true in
    none_left plane e o e.a e.b _ _ refl refl at_p at_q before before' changes.passes.left

pub returns-then-right-eq0-clause-answer : goal.returns-then-right-eq0-clause-answer
returns-then-right-eq0-clause-answer c e o at_e at_o changes =
    let plane = plane_of c.args.section.now.cut in
    let (at_p, at_q) = c.ends.ensures o at_o in
    let (at_a, at_b) = c.ends-2.ensures e at_e in
    let (p, q) = c.ends.result in
    let (a, b) = c.ends-2.result in
    let s = c.sides_of-sides.result in
    let over_p = height c.over-p_over.result _ c.over-p_over.ensures.size c.over-p_over.ensures.value in
    let over_q = height c.over-q_over.result _ c.over-q_over.ensures.size c.over-q_over.ensures.value in
    let turn_p = passed s.from s.from_small ∙ c.sides_of-sides.ensures.from ∙ (λ i. orientation_of (c.dir-d.ensures i) a b p) in
    let turn_q = passed s.to s.to_small ∙ c.sides_of-sides.ensures.to ∙ (λ i. orientation_of (c.dir-d.ensures i) a b q) in
    let from = end_by plane a b p q _ _ _ _ over_p over_q turn_p turn_q ∙ sym (end_passed c.end_turn.result c.end_turn.ensures.size ∙ c.end_turn.ensures.value) in
    let to = end_by plane a b q p _ _ _ _ over_q over_p turn_q turn_p ∙ sym (end_passed c.end_turn-2.result c.end_turn-2.ensures.size ∙ c.end_turn-2.ensures.value) in
    let turn = turn_passed c.turn_of.result c.turn_of.ensures.size ∙ c.turn_of.ensures.value o at_o ∙ (λ i. face_sign (c.dir-d.ensures i) o.left -ℤ face_sign (c.dir-d.ensures i) o.right) in
    let x = c.count_changes-left.result in
    elim changes.some [
      | inl left ↦ left (sym (cut_changed plane e o a b p q at_a at_b at_p at_q to_left _ _ _ x.left turn from to c.count_changes-left.ensures.left) ∙ zero x.left x.left_small c.if-left-eq0.true)
      | inr right ↦ right (sym (cut_changed plane e o a b p q at_a at_b at_p at_q to_right _ _ _ x.right turn from to c.count_changes-left.ensures.right) ∙ zero x.right x.right_small c.if-right-eq0.true)
    ]

pub returns-in_err-at-clause-answer : goal.returns-in_err-at-clause-answer
returns-in_err-at-clause-answer c e o at_e at_o =
    let plane = plane_of c.args.section.now.cut in
    let d = of_dir c.dir-d.result in
    let (at_p, at_q) = c.ends.ensures o at_o in
    let (at_a, at_b) = c.ends-2.ensures e at_e in
    let (p, q) = c.ends.result in
    let (a, b) = c.ends-2.result in
    let is = c.sides_of-sides.ensures in
    let denominator = (λ i. is.to i -ℤ is.from i) ∙ denominator_between d a b p q in
    subst (IsCutAcross plane e o) (sym c.from_residual.ensures) (λ changes.
    let passes : PassesNearer d e o = subst (λ (v : Triple). PassesNearer v e o) (sym c.dir-d.ensures) changes.passes.passes in
    c.in_err-at.ensures.answer (passes_by d e o _ _ _ _ at_a at_b at_p at_q _ _ _ denominator refl refl passes))

pub returns-then-not-is_beyond_at-clause-answer : goal.returns-then-not-is_beyond_at-clause-answer
returns-then-not-is_beyond_at-clause-answer c e o at_e at_o changes =
    let plane = plane_of c.args.section.now.cut in
    let d = of_dir c.dir-d.result in
    let (at_p, at_q) = c.ends.ensures o at_o in
    let (at_a, at_b) = c.ends-2.ensures e at_e in
    let (p, q) = c.ends.result in
    let (a, b) = c.ends-2.result in
    let is = c.sides_of-sides.ensures in
    let denominator = (λ i. is.to i -ℤ is.from i) ∙ denominator_between d a b p q in
    let r = c.in_ok-at.at in
    let (by, crossed) = c.in_ok-at.ensures.answer in
    let at : IsCrossedAt (toward_of plane) e o r = subst (λ (v : Triple). IsCrossedAt v e o r) c.dir-d.ensures (crossed_at d e o _ _ _ _ at_a at_b at_p at_q _ _ _ denominator refl refl r crossed) in
    not_true c.is_beyond_at.result c.if-not-is_beyond_at.true (c.is_beyond_at.ensures.1 (place_beyond plane e o a b p q at_a at_b at_p at_q changes.passes.passes r at changes.passes.beyond))

pub returns-clause-answer : goal.returns-clause-answer
returns-clause-answer c e o at_e at_o =
    let plane = plane_of c.args.section.now.cut in
    let d = of_dir c.dir-d.result in
    let (at_p, at_q) = c.ends.ensures o at_o in
    let (at_a, at_b) = c.ends-2.ensures e at_e in
    let (p, q) = c.ends.result in
    let (a, b) = c.ends-2.result in
    let s = c.sides_of-sides.result in
    let is = c.sides_of-sides.ensures in
    let over_p = height c.over-p_over.result _ c.over-p_over.ensures.size c.over-p_over.ensures.value in
    let over_q = height c.over-q_over.result _ c.over-q_over.ensures.size c.over-q_over.ensures.value in
    let turn_p = passed s.from s.from_small ∙ is.from ∙ (λ i. orientation_of (c.dir-d.ensures i) a b p) in
    let turn_q = passed s.to s.to_small ∙ is.to ∙ (λ i. orientation_of (c.dir-d.ensures i) a b q) in
    let from = end_by plane a b p q _ _ _ _ over_p over_q turn_p turn_q ∙ sym (end_passed c.end_turn.result c.end_turn.ensures.size ∙ c.end_turn.ensures.value) in
    let to = end_by plane a b q p _ _ _ _ over_q over_p turn_q turn_p ∙ sym (end_passed c.end_turn-2.result c.end_turn-2.ensures.size ∙ c.end_turn-2.ensures.value) in
    let turn = turn_passed c.turn_of.result c.turn_of.ensures.size ∙ c.turn_of.ensures.value o at_o ∙ (λ i. face_sign (c.dir-d.ensures i) o.left -ℤ face_sign (c.dir-d.ensures i) o.right) in
    let x = c.count_changes-left.result in
    let left = cut_changed plane e o a b p q at_a at_b at_p at_q to_left _ _ _ x.left turn from to c.count_changes-left.ensures.left in
    let right = cut_changed plane e o a b p q at_a at_b at_p at_q to_right _ _ _ x.right turn from to c.count_changes-left.ensures.right in
    let some : (cut_change_of to_left plane e o ≢ pos 0) ⊎ (cut_change_of to_right plane e o ≢ pos 0) = elim c.else-left-eq0.branch [
      | else-left-eq0-via-then-left-eq0+else-right-eq0 w ↦ inr (λ none. some_left x.right x.right_small (right ∙ none) w.if-right-eq0.false)
      | else-left-eq0-via-else-left-eq0 w ↦ inl (λ none. some_left x.left x.left_small (left ∙ none) w.if-left-eq0.false)
    ] in
    let denominator = (λ i. is.to i -ℤ is.from i) ∙ denominator_between d a b p q in
    let r = c.in_ok-at.at in
    let (by, crossed) = c.in_ok-at.ensures.answer in
    let at : IsCrossedAt (toward_of plane) e o r = subst (λ (v : Triple). IsCrossedAt v e o r) c.dir-d.ensures (crossed_at d e o _ _ _ _ at_a at_b at_p at_q _ _ _ denominator refl refl r crossed) in
    let passes : PassesNearer (toward_of plane) e o = subst (λ (v : Triple). PassesNearer v e o) c.dir-d.ensures (passes_nearer d e o _ _ _ _ at_a at_b at_p at_q _ _ _ denominator refl refl by) in
    let not_both : (pos 0 <ℤ over_of plane p) → (pos 0 <ℤ over_of plane q) → ⊥ = elim c.else-p_over-gt0.branch [
      | else-p_over-gt0-via-then-p_over-gt0+else-q_over-gt0 w ↦ (λ before before'. not_above c.over-q_over.result _ c.over-q_over.ensures.size c.over-q_over.ensures.value w.if-q_over-gt0.false before')
      | else-p_over-gt0-via-else-p_over-gt0 w ↦ (λ before before'. not_above c.over-p_over.result _ c.over-p_over.ensures.size c.over-p_over.ensures.value w.if-p_over-gt0.false before)
    ] in
    record {
      changes = record {
        passes = record {
          passes = passes;
          beyond = crossed_beyond plane e o a b p q at_a at_b at_p at_q passes r at (c.is_beyond_at.ensures.0 c.if-not-is_beyond_at.false);
          left = some_left_of plane e o a b p q at_a at_b at_p at_q not_both;
        };
        some = some;
      };
      at = at;
      left = small x.left x.left_small ∙ left;
      right = small x.right x.right_small ∙ right;
    }
