use Rattle.std.proofs.Common.{ℕ, List, All, take, get_or, sym, subst}
use Rattle.std.proofs.lemmas.List.{take_more}
use Rattle.std.proofs.lemmas.List.Elements.{Contains-get_or}
use Rattle.lattice.specs.Points.{of_dir}
use Rattle.lattice.specs.Triple.{Triple}
use Rattle.geometry.specs.Places.{IsEarlier}
use Rattle.geometry.specs.Views.{IsEndOn}
use Rattle.solid_mesh.specs.Solids.{solid_part, edge_halves}
use Rattle.solid_mesh.proofs.Facts.{edge_there}
use Rattle.span_slow.specs.Views.{AreSpansIn}
use Rattle.lattice.specs.declared.spans.Span.{Span}
use Rattle.drawn_strips.specs.Strips.{AreEdgeStrips}
use Rattle.piece_verify.proofs.SlowSpans.{slow_earlier}
use Rattle.drawn_strips.proofs.StripLists.{edge_added}
use Rattle.piece_verify.proofs.slow_views.slow_edges.Goals as goal

pub spans_slow-requires-clause-seen : goal.spans_slow-requires-clause-seen
spans_slow-requires-clause-seen c e n =
    let drawn = c.args.drawn.now in
    let k = c.loop-edge.edge-index in
    let (fraction, are) = c.requires.drawn in
    subst (λ (v : Triple). ¬ IsEndOn v e) c.requires.direction ((are.exactly (get_or drawn k 0) e n).0 (Contains-get_or drawn k 0 c.loop-edge-test.true)).1

pub add_strips-requires-clause-seen : goal.add_strips-requires-clause-seen
add_strips-requires-clause-seen c e n =
    let drawn = c.args.drawn.now in
    let k = c.loop-edge.edge-index in
    let (fraction, are) = c.requires.drawn in
    ((are.exactly (get_or drawn k 0) e n).0 (Contains-get_or drawn k 0 c.loop-edge-test.true)).1

pub add_strips-requires-clause-ordered : goal.add_strips-requires-clause-ordered
add_strips-requires-clause-ordered c =
    let drawn = c.args.drawn.now in
    let k = c.loop-edge.edge-index in
    let (fraction, are) = c.requires.drawn in
    let (e, n) = edge_there c.args.solid.now (get_or drawn k 0) (are.within k 0 c.loop-edge-test.true) in
    subst (λ (xs : List Span). All (λ x. IsEarlier x.from x.to) xs) (sym c.deref.ensures.value) (slow_earlier c.args.view.now e c.in_ok-spans.spans.items (c.in_ok-spans.ensures e n))

pub loop-edge-preserved : goal.loop-edge-preserved
loop-edge-preserved c =
    let d = of_dir c.args.d.now in
    let halves = edge_halves c.args.solid.now in
    let view = c.args.view.now in
    let drawn = c.args.drawn.now in
    let k = c.loop-edge.edge-index in
    let (here, added, zip) = c.in_ok-add_strips.ensures in
    subst (λ (ns : List ℕ). AreEdgeStrips d {s = solid_part c.args.solid.now} (AreSpansIn view) halves ns c.add_strips.new.strips.items) (sym (take_more drawn k 0 c.loop-edge-test.true))
    (edge_added d (AreSpansIn view) halves (take k drawn) c.loop-edge.strips.items c.add_strips.new.strips.items here (get_or drawn k 0) c.deref.result.now added
    (λ e n. subst (λ (xs : List Span). AreSpansIn view e xs) (sym c.deref.ensures.value) (c.in_ok-spans.ensures e n)) zip c.loop-edge.invariant)
