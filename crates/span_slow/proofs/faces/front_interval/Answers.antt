use Rattle.std.proofs.Common.{◌⊎◌, inl, inr, arith}
use Rattle.std.specs.Prelude.{pos, ◌<ℤ◌, ◌≤ℤ◌}
use Rattle.std.proofs.lemmas.Int.{ints}
use Rattle.lattice.specs.Points.{of_dir}
use Rattle.hiding_laws.specs.Values.{side_of, depth_of}
use Rattle.span_slow.proofs.Where.{tells}
use Rattle.span_slow.proofs.Fronts.{front_none, front_where}
use Rattle.span_slow.proofs.faces.front_interval.Goals as goal
use Rattle.span_slow.proofs.faces.front_interval.Goals.{else-depth-le0-via-then-depth-le0+else-depth-le0-2, else-depth-le0-via-else-depth-le0}

pub returns-then-depth-le0-2 : goal.returns-then-depth-le0-2
returns-then-depth-le0-2 c s sound in_range e at_a at_b f corners =
    let seen = c.args.seen.now in
    let i = c.args.a.now in
    let j = c.args.b.now in
    let k = c.args.c.now in
    let depth = c.depth-depth.result in
    let start : depth.start ≤ℤ pos 0 = omega (arith, ints) in
    let end : depth.end ≤ℤ pos 0 = omega (arith, ints) in
    front_none (of_dir seen.d) s sound in_range e f i j k corners c.requires depth
    (tells e depth (depth_of i j k) seen.a seen.b at_a at_b c.depth-depth.ensures.start c.depth-depth.ensures.end) start end

pub returns : goal.returns
returns c s sound in_range e at_a at_b f corners =
    let seen = c.args.seen.now in
    let d = of_dir seen.d in
    let i = c.args.a.now in
    let j = c.args.b.now in
    let k = c.args.c.now in
    let depth = c.depth-depth.result in
    let some : (pos 0 <ℤ depth.start) ⊎ (pos 0 <ℤ depth.end) = elim c.else-depth-le0.branch [
      | else-depth-le0-via-then-depth-le0+else-depth-le0-2 w ↦ let h : pos 0 <ℤ depth.end = omega (arith, ints, w.if-depth-le0-2.false) in inr h
      | else-depth-le0-via-else-depth-le0 w ↦ let h : pos 0 <ℤ depth.start = omega (arith, ints, w.if-depth-le0.false) in inl h
    ] in
    front_where d s sound in_range e f i j k corners c.requires depth
    (tells e depth (depth_of i j k) seen.a seen.b at_a at_b c.depth-depth.ensures.start c.depth-depth.ensures.end)
    c.side.result c.side-2.result c.side-3.result
    (tells e c.side.result (side_of d i j) seen.a seen.b at_a at_b c.side.ensures.start c.side.ensures.end)
    (tells e c.side-2.result (side_of d j k) seen.a seen.b at_a at_b c.side-2.ensures.start c.side-2.ensures.end)
    (tells e c.side-3.result (side_of d k i) seen.a seen.b at_a at_b c.side-3.ensures.start c.side-3.ensures.end)
    some c.where_nonnegative.result c.where_nonnegative.ensures c.proper.result c.proper.ensures.kept c.proper.ensures.dropped
