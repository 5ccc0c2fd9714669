use Rattle.std.proofs.Common.{◌⊎◌, inl, inr, arith}
use Rattle.std.specs.Prelude.{pos, ◌<ℤ◌, ◌≤ℤ◌}
use Rattle.std.proofs.lemmas.Int.{ints}
use Rattle.lattice.specs.Points.{of_dir, of_vector}
use Rattle.hiding_laws.specs.Values.{past_of, short_of, behind_of}
use Rattle.hiding_laws.proofs.Directions.{somewhere}
use Rattle.span_slow.proofs.Axes.{square_positive}
use Rattle.span_slow.proofs.Where.{tells}
use Rattle.span_slow.proofs.Sides.{ahead_at, in_line_at, side_none, side_where}
use Rattle.span_slow.proofs.faces.forward_interval.Goals as goal
use Rattle.span_slow.proofs.faces.forward_interval.Goals.{else-behind-le0-via-then-behind-le0+else-behind-le0-2, else-behind-le0-via-else-behind-le0}

pub returns-then-behind-le0-2 : goal.returns-then-behind-le0-2
returns-then-behind-le0-2 c s sound in_range e at_a at_b f side =
    let seen = c.args.seen.now in
    let k = c.args.k.now in
    let l = c.args.l.now in
    let d = of_dir seen.d in
    let axis = of_vector seen.axis in
    let behind = c.behind-behind.result in
    let start : behind.start ≤ℤ pos 0 = omega (arith, ints) in
    let end : behind.end ≤ℤ pos 0 = omega (arith, ints) in
    side_none d axis (somewhere seen.d) s sound in_range e (ahead_at d axis e seen.a seen.b at_a at_b seen.ahead) f k l side (square_positive seen.d)
    ((in_line_at d e seen.a seen.b k l at_a at_b).1 c.requires.in_line) c.requires.forward
    behind (tells e behind (behind_of d axis k l) seen.a seen.b at_a at_b c.behind-behind.ensures.start c.behind-behind.ensures.end) start end

pub returns : goal.returns
returns c s sound in_range e at_a at_b f side =
    let seen = c.args.seen.now in
    let k = c.args.k.now in
    let l = c.args.l.now in
    let d = of_dir seen.d in
    let axis = of_vector seen.axis in
    let behind = c.behind-behind.result in
    let some : (pos 0 <ℤ behind.start) ⊎ (pos 0 <ℤ behind.end) = elim c.else-behind-le0.branch [
      | else-behind-le0-via-then-behind-le0+else-behind-le0-2 w ↦ let h : pos 0 <ℤ behind.end = omega (arith, ints, w.if-behind-le0-2.false) in inr h
      | else-behind-le0-via-else-behind-le0 w ↦ let h : pos 0 <ℤ behind.start = omega (arith, ints, w.if-behind-le0.false) in inl h
    ] in
    side_where d axis (somewhere seen.d) s sound in_range e (ahead_at d axis e seen.a seen.b at_a at_b seen.ahead) f k l side (square_positive seen.d)
    ((in_line_at d e seen.a seen.b k l at_a at_b).1 c.requires.in_line) c.requires.forward
    behind (tells e behind (behind_of d axis k l) seen.a seen.b at_a at_b c.behind-behind.ensures.start c.behind-behind.ensures.end)
    c.past.result c.short.result
    (tells e c.past.result (past_of axis k) seen.a seen.b at_a at_b c.past.ensures.start c.past.ensures.end)
    (tells e c.short.result (short_of axis l) seen.a seen.b at_a at_b c.short.ensures.start c.short.ensures.end)
    some c.where_nonnegative.result c.where_nonnegative.ensures c.proper.result c.proper.ensures.kept c.proper.ensures.dropped
