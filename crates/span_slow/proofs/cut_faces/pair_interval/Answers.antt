use Rattle.std.specs.Prelude.{option_to_list}
use Rattle.lattice.specs.Points.{of_dir, of_vector}
use Rattle.lattice.specs.Cuts.{plane_of, toward_of}
use Rattle.span_slow.proofs.CutPairs.{line_none, side_renamed, pair_renamed, pair_first_none, pair_second_none}
use Rattle.span_slow.proofs.InCut.{ahead}
use Rattle.span_slow.proofs.cut_faces.pair_interval.Goals as goal

pub returns-in-None : goal.returns-in-None
returns-in-None c s sound in_range e at_a at_b f first second =
    let x = c.args.edge.now in
    let seen = x.seen in
    let q = plane_of x.cut in
    let axis = of_vector seen.axis in
    let k = c.args.k.now in
    let l = c.args.l.now in
    pair_first_none q axis s sound in_range e (ahead x e at_a at_b) f k l c.args.m.now c.args.n.now first second
    (line_none (of_dir seen.d) (toward_of q) axis x.along e seen.a seen.b k l at_a at_b c.in-None.ensures.none)

pub returns-in-None-forward_side : goal.returns-in-None-forward_side
returns-in-None-forward_side c s sound in_range e at_a at_b f first second =
    let x = c.args.edge.now in
    let seen = x.seen in
    let q = plane_of x.cut in
    let axis = of_vector seen.axis in
    let m = c.args.m.now in
    let n = c.args.n.now in
    pair_second_none q axis s sound in_range e (ahead x e at_a at_b) f c.args.k.now c.args.l.now m n first second
    (line_none (of_dir seen.d) (toward_of q) axis x.along e seen.a seen.b m n at_a at_b c.in-None-forward_side.ensures.none)

pub returns-in-Some-forward_side : goal.returns-in-Some-forward_side
returns-in-Some-forward_side c s sound in_range e at_a at_b f first second =
    let q = plane_of c.args.edge.now.cut in
    let k = c.args.k.now in
    let l = c.args.l.now in
    let m = c.args.m.now in
    let n = c.args.n.now in
    let x = c.in-Some.k in
    let y = c.in-Some.l in
    let u = c.in-Some-forward_side.m in
    let v = c.in-Some-forward_side.n in
    let one = c.in-Some.ensures.some.ends in
    let two = c.in-Some-forward_side.ensures.some.ends in
    pair_renamed q e k l m n x y u v one two (option_to_list c.forward_pair.result)
    (c.forward_pair.ensures s sound in_range e at_a at_b f (side_renamed f k l x y one first) (side_renamed f m n u v two second))
