use Rattle.std.proofs.Common.{◌≡◌, List, ◌++◌, map, get_or, sym, subst, ap, ◌∙◌}
use Rattle.std.proofs.lemmas.List.Elements.{Contains-get_or}
use Rattle.lattice.specs.Cuts.{plane_of}
use Rattle.lattice.specs.Points.{of_dir}
use Rattle.lattice.specs.declared.pieces.Strip.{Strip}
use Rattle.line_merge.specs.Merging.{AreStrips}
use Rattle.drawn_strips.specs.Traces.{AreTraceStrips}
use Rattle.drawn_strips.proofs.TraceStrips.{trace_ends}
use Rattle.solid_mesh.specs.Solids.{solid_part}
use Rattle.view_lines.proofs.CountedEdges.{along_chained}
use Rattle.view_lines.proofs.plain_strips.plain_pieces.Goals as goal

pub merged_pieces-requires-clause-drawn : goal.merged_pieces-requires-clause-drawn
merged_pieces-requires-clause-drawn c = let (fraction, along) = c.requires in (fraction, along.edges)

pub merged_pieces-requires-clause-chained : goal.merged_pieces-requires-clause-chained
merged_pieces-requires-clause-chained c = let (fraction, along) = c.requires in along_chained (of_dir c.args.d.now) fraction c.args.solid.now c.args.entries.now along

pub merged_pieces-requires-clause-others : goal.merged_pieces-requires-clause-others
merged_pieces-requires-clause-others c =
    let d = of_dir c.args.d.now in
    let (here, together, are) = c.in_ok-add_traces.ensures in
    let same : here ≡ c.deref.result.now = sym {A = List Strip} (c.deref.ensures.value ∙ together ∙ ap (λ (ys : List Strip). ys ++ here) c.new-traces.ensures.items) in
    subst (AreStrips d) same
    (λ k e less. let (plane, listed, (sight, is)) = are.each (get_or here k e) (Contains-get_or here k e less) in trace_ends d (solid_part c.args.solid.now) plane sight (get_or here k e) is)

pub returns : goal.returns
returns c =
    let (here, together, are) = c.in_ok-add_traces.ensures in
    let same : here ≡ c.deref.result.now = sym {A = List Strip} (c.deref.ensures.value ∙ together ∙ ap (λ (ys : List Strip). ys ++ here) c.new-traces.ensures.items) in
    (c.deref.result.now, subst (AreTraceStrips (of_dir c.args.d.now) (solid_part c.args.solid.now) (map plane_of c.args.cuts.now)) same are, c.in_ok-pieces.ensures)
