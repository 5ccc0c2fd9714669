use Rattle.std.proofs.Common.{rules, ◌≡◌, ◌⊎◌, inl, inr, true, false, refl, FitsSigned, arith}
use Rattle.std.specs.Prelude.{ℤ, pos, ◌<ℤ◌, ◌≤ℤ◌}
use Rattle.std.specs.Int.{w128}
use Rattle.std.specs.Int.Signed.{lt_z, le_z}
use Rattle.std.proofs.lemmas.Int.{ints, to_z-of_z}
use Rattle.lattice.specs.Points.{of_dir, of_spot}
use Rattle.lattice.proofs.OnLines.{strip_seen}
use Rattle.detail_pieces.specs.inner.Sides.{over_of}
use Rattle.detail_pieces.proofs.Borders.{not_outside, not_inside, one_place}
use Rattle.detail_pieces.proofs.Shortened.{cut_on_border, lies_cut, lies_cut_back, cut_ends, cut_ends_back}
use Rattle.detail_pieces.proofs.halves.left_of.Goals.{else-a-ge0-via-then-a-ge0+else-b-ge0, else-a-ge0-via-else-a-ge0}
use Rattle.detail_pieces.proofs.halves.left_of.Goals as goal

-- the signs that the tests tell
not_negative_of : (r f : ℤ) → r ≡ f → le_z (pos 0) r ≡ true → pos 0 ≤ℤ f
not_negative_of r f e h = grind (arith, ints)

negative_of : (r f : ℤ) → r ≡ f → le_z (pos 0) r ≡ false → f <ℤ pos 0
negative_of r f e h = grind (arith, ints)

positive_of : (r f : ℤ) → r ≡ f → lt_z (pos 0) r ≡ true → pos 0 <ℤ f
positive_of r f e h = grind (arith, ints)

not_positive_of : (r f : ℤ) → r ≡ f → lt_z (pos 0) r ≡ false → f ≤ℤ pos 0
not_positive_of r f e h = grind (arith, ints)

neither : (r : ℤ) → lt_z (pos 0) r ≡ true → le_z (pos 0) r ≡ false → ⊥
neither r h k = grind (arith, ints)

pub returns-then-b-ge0-clause-some : goal.returns-then-b-ge0-clause-some
returns-then-b-ge0-clause-some c =
    let d = of_dir c.args.d.now in
    let h = c.args.side.now in
    let s = c.args.strip.now in
    let a_fits : FitsSigned w128 c.over-a.result = search rules in
    let b_fits : FitsSigned w128 c.over-b.result = search rules in
    let a = not_negative_of c.over-a.result (over_of d h (of_spot s.a)) c.over-a.ensures (simp to_z-of_z at c.if-a-ge0.true) in
    let b = not_negative_of c.over-b.result (over_of d h (of_spot s.b)) c.over-b.ensures (simp to_z-of_z at c.if-b-ge0.true) in
    record {
      line = record { a = refl; b = refl; c = refl };
      kind = refl;
      proper = c.requires;
      lies = λ p hp. ((λ k. (k, not_outside d h s.a s.b p hp a b k)), (λ k. k.0));
      first = inl refl;
      second = inl refl;
    }

pub invariant_of-result : goal.invariant_of-result
invariant_of-result c =
    let d = of_dir c.args.d.now in
    let h = c.args.side.now in
    let s = c.args.strip.now in
    let a_fits : FitsSigned w128 c.over-a.result = search rules in
    let b_fits : FitsSigned w128 c.over-b.result = search rules in
    let inside = positive_of c.over-a.result (over_of d h (of_spot s.a)) c.over-a.ensures (simp to_z-of_z at c.if-a-gt0.true) in
    let outside : over_of d h (of_spot s.b) <ℤ pos 0 = elim c.else-a-ge0.branch [
      | else-a-ge0-via-then-a-ge0+else-b-ge0 w ↦ negative_of c.over-b.result (over_of d h (of_spot s.b)) c.over-b.ensures (simp to_z-of_z at w.if-b-ge0.false)
      | else-a-ge0-via-else-a-ge0 w ↦ absurd (neither c.over-a.result (simp to_z-of_z at c.if-a-gt0.true) (simp to_z-of_z at w.if-a-ge0.false))
    ] in
    let ends = cut_ends d h s.a s.b c.meeting-end.result inside outside c.meeting-end.ensures s.line c.requires.first c.requires.second in
    record { seen = strip_seen c.args.d.now s.line s.a c.meeting-end.result ends.first ends.second ends.apart }

pub returns-then-a-gt0-clause-some : goal.returns-then-a-gt0-clause-some
returns-then-a-gt0-clause-some c =
    let d = of_dir c.args.d.now in
    let h = c.args.side.now in
    let s = c.args.strip.now in
    let a_fits : FitsSigned w128 c.over-a.result = search rules in
    let b_fits : FitsSigned w128 c.over-b.result = search rules in
    let inside = positive_of c.over-a.result (over_of d h (of_spot s.a)) c.over-a.ensures (simp to_z-of_z at c.if-a-gt0.true) in
    let outside : over_of d h (of_spot s.b) <ℤ pos 0 = elim c.else-a-ge0.branch [
      | else-a-ge0-via-then-a-ge0+else-b-ge0 w ↦ negative_of c.over-b.result (over_of d h (of_spot s.b)) c.over-b.ensures (simp to_z-of_z at w.if-b-ge0.false)
      | else-a-ge0-via-else-a-ge0 w ↦ absurd (neither c.over-a.result (simp to_z-of_z at c.if-a-gt0.true) (simp to_z-of_z at w.if-a-ge0.false))
    ] in
    record {
      line = record { a = refl; b = refl; c = refl };
      kind = refl;
      proper = cut_ends d h s.a s.b c.meeting-end.result inside outside c.meeting-end.ensures s.line c.requires.first c.requires.second;
      lies = λ p hp. lies_cut d h s.a s.b c.meeting-end.result inside outside c.meeting-end.ensures p hp;
      first = inl refl;
      second = inr (cut_on_border d h s.a s.b c.meeting-end.result inside outside c.meeting-end.ensures);
    }

pub invariant_of-result-then-b-gt0 : goal.invariant_of-result-then-b-gt0
invariant_of-result-then-b-gt0 c =
    let d = of_dir c.args.d.now in
    let h = c.args.side.now in
    let s = c.args.strip.now in
    let a_fits : FitsSigned w128 c.over-a.result = search rules in
    let b_fits : FitsSigned w128 c.over-b.result = search rules in
    let inside = positive_of c.over-b.result (over_of d h (of_spot s.b)) c.over-b.ensures (simp to_z-of_z at c.if-b-gt0.true) in
    let outside : over_of d h (of_spot s.a) <ℤ pos 0 = elim c.else-a-ge0.branch [
      | else-a-ge0-via-then-a-ge0+else-b-ge0 w ↦ absurd (neither c.over-b.result (simp to_z-of_z at c.if-b-gt0.true) (simp to_z-of_z at w.if-b-ge0.false))
      | else-a-ge0-via-else-a-ge0 w ↦ negative_of c.over-a.result (over_of d h (of_spot s.a)) c.over-a.ensures (simp to_z-of_z at w.if-a-ge0.false)
    ] in
    let ends = cut_ends_back d h s.b s.a c.meeting-end-then-b-gt0.result inside outside c.meeting-end-then-b-gt0.ensures s.line c.requires.second c.requires.first in
    record { seen = strip_seen c.args.d.now s.line c.meeting-end-then-b-gt0.result s.b ends.first ends.second ends.apart }

pub returns-then-b-gt0-clause-some : goal.returns-then-b-gt0-clause-some
returns-then-b-gt0-clause-some c =
    let d = of_dir c.args.d.now in
    let h = c.args.side.now in
    let s = c.args.strip.now in
    let a_fits : FitsSigned w128 c.over-a.result = search rules in
    let b_fits : FitsSigned w128 c.over-b.result = search rules in
    let inside = positive_of c.over-b.result (over_of d h (of_spot s.b)) c.over-b.ensures (simp to_z-of_z at c.if-b-gt0.true) in
    let outside : over_of d h (of_spot s.a) <ℤ pos 0 = elim c.else-a-ge0.branch [
      | else-a-ge0-via-then-a-ge0+else-b-ge0 w ↦ absurd (neither c.over-b.result (simp to_z-of_z at c.if-b-gt0.true) (simp to_z-of_z at w.if-b-ge0.false))
      | else-a-ge0-via-else-a-ge0 w ↦ negative_of c.over-a.result (over_of d h (of_spot s.a)) c.over-a.ensures (simp to_z-of_z at w.if-a-ge0.false)
    ] in
    record {
      line = record { a = refl; b = refl; c = refl };
      kind = refl;
      proper = cut_ends_back d h s.b s.a c.meeting-end-then-b-gt0.result inside outside c.meeting-end-then-b-gt0.ensures s.line c.requires.second c.requires.first;
      lies = λ p hp. lies_cut_back d h s.b s.a c.meeting-end-then-b-gt0.result inside outside c.meeting-end-then-b-gt0.ensures p hp;
      first = inr (cut_on_border d h s.b s.a c.meeting-end-then-b-gt0.result inside outside c.meeting-end-then-b-gt0.ensures);
      second = inl refl;
    }

pub returns-clause-none : goal.returns-clause-none
returns-clause-none c =
    let d = of_dir c.args.d.now in
    let h = c.args.side.now in
    let s = c.args.strip.now in
    let a_fits : FitsSigned w128 c.over-a.result = search rules in
    let b_fits : FitsSigned w128 c.over-b.result = search rules in
    let a = not_positive_of c.over-a.result (over_of d h (of_spot s.a)) c.over-a.ensures (simp to_z-of_z at c.if-a-gt0.false) in
    let b = not_positive_of c.over-b.result (over_of d h (of_spot s.b)) c.over-b.ensures (simp to_z-of_z at c.if-b-gt0.false) in
    let outside : (over_of d h (of_spot s.a) <ℤ pos 0) ⊎ (over_of d h (of_spot s.b) <ℤ pos 0) = elim c.else-a-ge0.branch [
      | else-a-ge0-via-then-a-ge0+else-b-ge0 w ↦ inr (negative_of c.over-b.result (over_of d h (of_spot s.b)) c.over-b.ensures (simp to_z-of_z at w.if-b-ge0.false))
      | else-a-ge0-via-else-a-ge0 w ↦ inl (negative_of c.over-a.result (over_of d h (of_spot s.a)) c.over-a.ensures (simp to_z-of_z at w.if-a-ge0.false))
    ] in
    λ _. record { none = λ p hp k. not_inside d h s.a s.b p hp a b k; alone = one_place d h s.a s.b a b outside }
