use Rattle.std.proofs.Common.{◌∙◌, sym, true≢false}
use Rattle.lattice.specs.Points.{of_vector}
use Rattle.lattice.specs.Cuts.{plane_of}
use Rattle.hiding_laws.specs.Values.{past_of, short_of}
use Rattle.hiding_laws.specs.CutValues.{reach_of}
use Rattle.span_slow.proofs.CutPairs.{pair_none, pair_where}
use Rattle.span_slow.proofs.CutReads.{none_positive}
use Rattle.span_slow.proofs.InCut.{ahead, in_line, tells_behind}
use Rattle.span_slow.proofs.Where.{tells}
use Rattle.span_slow.proofs.cut_faces.forward_pair.Goals as goal

pub returns-then-not-has_positive_end : goal.returns-then-not-has_positive_end
returns-then-not-has_positive_end c s sound in_range e at_a at_b f first second =
    let x = c.args.edge.now in
    let k = c.args.k.now in
    let l = c.args.l.now in
    let m = c.args.m.now in
    let n = c.args.n.now in
    let behind = c.behind-behind in
    let none = none_positive behind.result.start behind.result.end (λ h. true≢false (sym (c.has_positive_end.ensures.1 h) ∙ c.if-not-has_positive_end.true)) in
    pair_none (plane_of x.cut) (of_vector x.seen.axis) s sound in_range e (ahead x e at_a at_b) f k l m n first second
    (in_line x e at_a at_b k l c.requires.first_in_line) c.requires.first_forward (in_line x e at_a at_b m n c.requires.second_in_line) c.requires.second_forward
    behind.result (tells_behind x e at_a at_b k l behind.result behind.ensures.start behind.ensures.end) none.0 none.1

pub returns : goal.returns
returns c s sound in_range e at_a at_b f first second =
    let x = c.args.edge.now in
    let seen = x.seen in
    let q = plane_of x.cut in
    let axis = of_vector seen.axis in
    let k = c.args.k.now in
    let l = c.args.l.now in
    let m = c.args.m.now in
    let n = c.args.n.now in
    let behind = c.behind-behind in
    pair_where q axis s sound in_range e (ahead x e at_a at_b) f k l m n first second
    (in_line x e at_a at_b k l c.requires.first_in_line) c.requires.first_forward (in_line x e at_a at_b m n c.requires.second_in_line) c.requires.second_forward
    behind.result (tells_behind x e at_a at_b k l behind.result behind.ensures.start behind.ensures.end)
    c.past-2.result c.short-2.result c.reach.result c.past.result c.short.result
    (tells e c.past-2.result (past_of axis k) seen.a seen.b at_a at_b c.past-2.ensures.start c.past-2.ensures.end)
    (tells e c.short-2.result (short_of axis l) seen.a seen.b at_a at_b c.short-2.ensures.start c.short-2.ensures.end)
    (tells e c.reach.result (reach_of q axis m n) seen.a seen.b at_a at_b c.reach.ensures.start c.reach.ensures.end)
    (tells e c.past.result (past_of axis m) seen.a seen.b at_a at_b c.past.ensures.start c.past.ensures.end)
    (tells e c.short.result (short_of axis n) seen.a seen.b at_a at_b c.short.ensures.start c.short.ensures.end)
    (c.has_positive_end.ensures.0 c.if-not-has_positive_end.false) c.where_nonnegative.result c.where_nonnegative.ensures c.proper.result c.proper.ensures.kept c.proper.ensures.dropped
