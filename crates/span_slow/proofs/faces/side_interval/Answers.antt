use Rattle.std.proofs.Common.{◌≡◌, ◌∙◌, sym, subst, ap, arith, true≢false}
use Rattle.std.specs.Prelude.{ℤ, pos, ◌<ℤ◌}
use Rattle.std.proofs.lemmas.Int.{ints}
use Rattle.lattice.specs.Triple.{Triple, dot}
use Rattle.lattice.specs.Points.{of_dir, of_vector, difference}
use Rattle.hiding_laws.specs.Values.{IsInLine}
use Rattle.hiding_laws.proofs.Directions.{somewhere}
use Rattle.span_slow.proofs.Corners.{forward_turned}
use Rattle.span_slow.proofs.Sides.{ahead_at, in_line_at, side_turned, where_turned, side_off_line, side_end_on}
use Rattle.span_slow.proofs.faces.side_interval.Goals as goal
use Rattle.span_slow.proofs.faces.side_interval.Goals.{then-not-is_in_line-via-then-not-is_in_line, then-not-is_in_line-via-else-not-is_in_line+then-not-is_in_line-2}

pub returns-then-not-is_in_line : goal.returns-then-not-is_in_line
returns-then-not-is_in_line c s sound in_range e at_a at_b f side =
    let seen = c.args.seen.now in
    let k = c.args.k.now in
    let l = c.args.l.now in
    let d = of_dir seen.d in
    let axis = of_vector seen.axis in
    let off : ¬ IsInLine d seen.a seen.b k l = λ (first, second). elim c.then-not-is_in_line.branch [
      | then-not-is_in_line-via-then-not-is_in_line w ↦ true≢false (sym (c.is_in_line.ensures.1 first) ∙ w.if-not-is_in_line.true)
      | then-not-is_in_line-via-else-not-is_in_line+then-not-is_in_line-2 w ↦ true≢false (sym (w.is_in_line-else-not-is_in_line.ensures.1 second) ∙ w.if-not-is_in_line-2.true)
    ] in
    side_off_line d axis (somewhere seen.d) s sound in_range e (ahead_at d axis e seen.a seen.b at_a at_b seen.ahead) f k l side (λ h. off ((in_line_at d e seen.a seen.b k l at_a at_b).0 h))

pub forward_interval-requires-then-along-lt0-clause-forward : goal.forward_interval-requires-then-along-lt0-clause-forward
forward_interval-requires-then-along-lt0-clause-forward c =
    let axis = of_vector c.args.seen.now.axis in
    let backward : c.dot-along.result <ℤ pos 0 = omega (arith, ints) in
    forward_turned axis c.args.k.now c.args.l.now (subst (λ (z : ℤ). z <ℤ pos 0) (c.dot-along.ensures.value ∙ ap (λ (t : Triple). dot axis t) c.between.ensures) backward)

pub returns-then-along-lt0 : goal.returns-then-along-lt0
returns-then-along-lt0 c s sound in_range e at_a at_b f side =
    let k = c.args.k.now in
    let l = c.args.l.now in
    where_turned (of_dir c.args.seen.now.d) e k l _ (c.forward_interval-then-along-lt0.ensures s sound in_range e at_a at_b f (side_turned f k l side))

pub returns-else-along-lt0 : goal.returns-else-along-lt0
returns-else-along-lt0 c s sound in_range e at_a at_b f side =
    let seen = c.args.seen.now in
    let k = c.args.k.now in
    let l = c.args.l.now in
    let d = of_dir seen.d in
    let axis = of_vector seen.axis in
    let neither : c.dot-along.result ≡ pos 0 = omega (arith, ints) in
    let same : dot axis (difference k l) ≡ pos 0 = sym (c.dot-along.ensures.value ∙ ap (λ (t : Triple). dot axis t) c.between.ensures) ∙ neither in
    side_end_on d axis (somewhere seen.d) s sound in_range e (ahead_at d axis e seen.a seen.b at_a at_b seen.ahead) f k l side same
