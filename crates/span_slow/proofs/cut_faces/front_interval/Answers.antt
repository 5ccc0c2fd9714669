use Rattle.std.proofs.Common.{◌∙◌, sym, subst, true≢false}
use Rattle.std.specs.Prelude.{pos, ◌<ℤ◌}
use Rattle.lattice.specs.Triple.{Triple}
use Rattle.lattice.specs.Points.{point_of}
use Rattle.lattice.specs.Cuts.{plane_of, toward_of}
use Rattle.geometry.specs.Faces.{facing_of}
use Rattle.hiding_laws.specs.Values.{side_of, depth_of}
use Rattle.hiding_laws.specs.CutValues.{under_of}
use Rattle.span_slow.proofs.CutFronts.{cut_front_none, cut_under_none, cut_front_where}
use Rattle.span_slow.proofs.CutReads.{none_positive}
use Rattle.span_slow.proofs.Where.{tells}
use Rattle.span_slow.proofs.cut_faces.front_interval.Goals as goal

pub returns-then-not-has_positive_end : goal.returns-then-not-has_positive_end
returns-then-not-has_positive_end c s sound in_range e at_a at_b f corners =
    let seen = c.args.edge.now.seen in
    let q = plane_of c.args.edge.now.cut in
    let i = c.args.a.now in
    let j = c.args.b.now in
    let k = c.args.c.now in
    let depth = c.depth-depth.result in
    let front = subst (λ (d : Triple). pos 0 <ℤ facing_of d i j k) c.args.edge.now.along c.requires in
    let none = none_positive depth.start depth.end (λ h. true≢false (sym (c.has_positive_end.ensures.1 h) ∙ c.if-not-has_positive_end.true)) in
    cut_front_none q s sound in_range e f i j k corners front depth (tells e depth (depth_of i j k) seen.a seen.b at_a at_b c.depth-depth.ensures.start c.depth-depth.ensures.end) none.0 none.1

pub returns-then-not-has_positive_end-2 : goal.returns-then-not-has_positive_end-2
returns-then-not-has_positive_end-2 c s sound in_range e at_a at_b f corners =
    let seen = c.args.edge.now.seen in
    let q = plane_of c.args.edge.now.cut in
    let i = c.args.a.now in
    let j = c.args.b.now in
    let k = c.args.c.now in
    let depth = c.depth-depth.result in
    let under = c.under-under.result in
    let front = subst (λ (d : Triple). pos 0 <ℤ facing_of d i j k) c.args.edge.now.along c.requires in
    let none = none_positive under.start under.end (λ h. true≢false (sym (c.has_positive_end-2.ensures.1 h) ∙ c.if-not-has_positive_end-2.true)) in
    cut_under_none q s sound in_range e f i j k corners front depth (tells e depth (depth_of i j k) seen.a seen.b at_a at_b c.depth-depth.ensures.start c.depth-depth.ensures.end)
    under (tells e under (under_of q i j k) seen.a seen.b at_a at_b c.under-under.ensures.start c.under-under.ensures.end) none.0 none.1

pub returns : goal.returns
returns c s sound in_range e at_a at_b f corners =
    let seen = c.args.edge.now.seen in
    let q = plane_of c.args.edge.now.cut in
    let d = toward_of q in
    let dir = c.args.edge.now.along in
    let i = c.args.a.now in
    let j = c.args.b.now in
    let k = c.args.c.now in
    let depth = c.depth-depth.result in
    let under = c.under-under.result in
    let front = subst (λ (d : Triple). pos 0 <ℤ facing_of d i j k) dir c.requires in
    cut_front_where q s sound in_range e f i j k corners front
    depth (tells e depth (depth_of i j k) seen.a seen.b at_a at_b c.depth-depth.ensures.start c.depth-depth.ensures.end)
    under (tells e under (under_of q i j k) seen.a seen.b at_a at_b c.under-under.ensures.start c.under-under.ensures.end)
    c.side.result c.side-2.result c.side-3.result
    (tells e c.side.result (side_of d i j) seen.a seen.b at_a at_b (c.side.ensures.start ∙ (λ t. side_of (dir t) i j (point_of seen.a))) (c.side.ensures.end ∙ (λ t. side_of (dir t) i j (point_of seen.b))))
    (tells e c.side-2.result (side_of d j k) seen.a seen.b at_a at_b (c.side-2.ensures.start ∙ (λ t. side_of (dir t) j k (point_of seen.a))) (c.side-2.ensures.end ∙ (λ t. side_of (dir t) j k (point_of seen.b))))
    (tells e c.side-3.result (side_of d k i) seen.a seen.b at_a at_b (c.side-3.ensures.start ∙ (λ t. side_of (dir t) k i (point_of seen.a))) (c.side-3.ensures.end ∙ (λ t. side_of (dir t) k i (point_of seen.b))))
    (c.has_positive_end.ensures.0 c.if-not-has_positive_end.false) (c.has_positive_end-2.ensures.0 c.if-not-has_positive_end-2.false)
    c.where_nonnegative.result c.where_nonnegative.ensures c.proper.result c.proper.ensures.kept c.proper.ensures.dropped
