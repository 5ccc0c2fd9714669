use Rattle.std.proofs.Common.{◌∙◌, sym, true≢false}
use Rattle.lattice.specs.Points.{of_dir, of_vector}
use Rattle.lattice.specs.Cuts.{plane_of, toward_of}
use Rattle.span_slow.proofs.CutPairs.{line_none, side_renamed, side_apart, side_before, hidden_renamed}
use Rattle.span_slow.proofs.CutReads.{none_positive}
use Rattle.span_slow.proofs.InCut.{ahead, in_line, tells_behind}
use Rattle.span_slow.proofs.cut_faces.may_hide.Goals as goal

pub returns-in-None : goal.returns-in-None
returns-in-None c s sound in_range e at_a at_b f side never =
    let edge = c.args.edge.now in
    let seen = edge.seen in
    let q = plane_of edge.cut in
    let axis = of_vector seen.axis in
    let k = c.args.k.now in
    let l = c.args.l.now in
    side_apart q axis s sound in_range e (ahead edge e at_a at_b) f k l side
    (line_none (of_dir seen.d) (toward_of q) axis edge.along e seen.a seen.b k l at_a at_b c.in-None.ensures.none)

pub returns-in-Some : goal.returns-in-Some
returns-in-Some c s sound in_range e at_a at_b f side never =
    let edge = c.args.edge.now in
    let q = plane_of edge.cut in
    let k = c.args.k.now in
    let l = c.args.l.now in
    let x = c.in-Some.k in
    let y = c.in-Some.l in
    let some = c.in-Some.ensures.some in
    let behind = c.behind in
    let none = none_positive behind.result.start behind.result.end (λ h. true≢false (sym (c.has_positive_end.ensures.1 h) ∙ never)) in
    hidden_renamed (toward_of q) e k l x y some.ends
    (side_before q (of_vector edge.seen.axis) s sound in_range e (ahead edge e at_a at_b) f x y (side_renamed f k l x y some.ends side)
    (in_line edge e at_a at_b x y some.in_line) some.forward
    behind.result (tells_behind edge e at_a at_b x y behind.result behind.ensures.start behind.ensures.end) none.0 none.1)
