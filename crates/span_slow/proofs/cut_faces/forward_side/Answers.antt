use Rattle.std.proofs.Common.{◌∙◌, inl, inr, refl, sym, subst, ap, arith, true≢false}
use Rattle.std.specs.Prelude.{ℤ, pos, ◌<ℤ◌}
use Rattle.std.proofs.lemmas.Int.{ints}
use Rattle.lattice.specs.Triple.{Triple, dot}
use Rattle.lattice.specs.Points.{of_vector}
use Rattle.span_slow.proofs.Corners.{forward_turned}
use Rattle.span_slow.proofs.cut_faces.forward_side.Goals as goal
use Rattle.span_slow.proofs.cut_faces.forward_side.Goals.{then-not-is_in_line-via-then-not-is_in_line, then-not-is_in_line-via-else-not-is_in_line+then-not-is_in_line-2}

pub returns-then-not-is_in_line-clause-none : goal.returns-then-not-is_in_line-clause-none
returns-then-not-is_in_line-clause-none c = inl (λ (first, second). elim c.then-not-is_in_line.branch [
  | then-not-is_in_line-via-then-not-is_in_line w ↦ true≢false (sym (c.is_in_line.ensures.1 first) ∙ w.if-not-is_in_line.true)
  | then-not-is_in_line-via-else-not-is_in_line+then-not-is_in_line-2 w ↦ true≢false (sym (w.is_in_line-else-not-is_in_line.ensures.1 second) ∙ w.if-not-is_in_line-2.true)
])

pub returns-then-along-gt0-clause-some : goal.returns-then-along-gt0-clause-some
returns-then-along-gt0-clause-some c =
    let axis = of_vector c.args.seen.now.axis in
    let ahead : pos 0 <ℤ c.dot-along.result = omega (arith, ints) in
    record {
      ends = inl (refl, refl);
      in_line = (c.is_in_line.ensures.0 c.if-not-is_in_line.false, c.is_in_line-else-not-is_in_line.ensures.0 c.if-not-is_in_line-2.false);
      forward = subst (λ (z : ℤ). pos 0 <ℤ z) (c.dot-along.ensures.value ∙ ap (λ (t : Triple). dot axis t) c.between.ensures) ahead;
    }

pub returns-then-along-lt0-clause-some : goal.returns-then-along-lt0-clause-some
returns-then-along-lt0-clause-some c =
    let axis = of_vector c.args.seen.now.axis in
    let back : c.dot-along.result <ℤ pos 0 = omega (arith, ints) in
    record {
      ends = inr (refl, refl);
      in_line = (c.is_in_line-else-not-is_in_line.ensures.0 c.if-not-is_in_line-2.false, c.is_in_line.ensures.0 c.if-not-is_in_line.false);
      forward = forward_turned axis c.args.k.now c.args.l.now (subst (λ (z : ℤ). z <ℤ pos 0) (c.dot-along.ensures.value ∙ ap (λ (t : Triple). dot axis t) c.between.ensures) back);
    }
