use Rattle.std.proofs.Common.{◌<◌, inl, List, Contains, ◌++◌, length, map, take, sym, subst, append-nil}
use Rattle.std.proofs.lemmas.List.{take_all}
use Rattle.std.proofs.lemmas.List.Elements.{All-contains, Contains-get_or}
use Rattle.edge_pick.specs.Edges.{OfEdge}
use Rattle.geometry.specs.Views.{IsEndOn}
use Rattle.lattice.specs.Points.{of_dir}
use Rattle.solid_mesh.specs.Solids.{edge_halves}
use Rattle.span_count.specs.declared.span.EdgeSpans.{EdgeSpans}
use Rattle.view_lines.specs.inner.Sources.{Origin, ArePlaced}
use Rattle.view_lines.proofs.PlacedSources.{origins_more}
use Rattle.view_lines.proofs.sources.place_edges.Goals as goal

pub loop-entry-init : goal.loop-entry-init
loop-entry-init c all placed =
    subst (λ (xs : List Origin). ArePlaced (of_dir c.args.d.now) c.args.solid.now c.args.table.now.keys xs c.args.placed.now.items) (sym (append-nil all)) placed

pub edge_line-requires-clause-in_range : goal.edge_line-requires-clause-in_range
edge_line-requires-clause-in_range c =
    let entries = c.args.entries.now in
    let x = c.entry-item.result in
    All-contains (λ (x : EdgeSpans). x.edge < length (edge_halves c.args.solid.now)) entries x c.requires.in_range
    (subst (Contains entries) (sym c.entry-item.is) (Contains-get_or entries c.loop-entry.entry-index x c.loop-entry-test.true))

pub edge_line-requires-clause-seen : goal.edge_line-requires-clause-seen
edge_line-requires-clause-seen c =
    let entries = c.args.entries.now in
    let x = c.entry-item.result in
    All-contains (λ (x : EdgeSpans). OfEdge c.args.solid.now x.edge (λ e. ¬ IsEndOn (of_dir c.args.d.now) e)) entries x c.requires.seen
    (subst (Contains entries) (sym c.entry-item.is) (Contains-get_or entries c.loop-entry.entry-index x c.loop-entry-test.true))

pub loop-entry-preserved : goal.loop-entry-preserved
loop-entry-preserved c all placed =
    let d = of_dir c.args.d.now in
    let solid = c.args.solid.now in
    let entries = c.args.entries.now in
    let k = c.loop-entry.entry-index in
    let so_far : List Origin = all ++ map inl (take k entries) in
    subst (λ (xs : List Origin). ArePlaced d solid c.place.new.table.keys xs c.place.new.placed.items) (origins_more inl all entries k c.entry-item.result c.loop-entry-test.true c.entry-item.is)
    (c.in_ok-place.ensures d solid so_far c.edge_line.ensures (c.loop-entry.invariant all placed))

pub returns : goal.returns
returns c all placed =
    let entries = c.args.entries.now in
    subst (λ (xs : List EdgeSpans). ArePlaced (of_dir c.args.d.now) c.args.solid.now c.loop-entry.table.keys (all ++ map inl xs) c.loop-entry.placed.items) (take_all c.loop-entry.entry-index entries c.loop-entry-test.false)
    (c.loop-entry.invariant all placed)
