use Rattle.std.proofs.Common.{List, map, get_or, sym, subst}
use Rattle.std.specs.List.{All, AllZip}
use Rattle.std.proofs.lemmas.List.Elements.{Contains-get_or}
use Rattle.lattice.specs.Points.{of_dir}
use Rattle.line_merge.specs.Numbers.{number_in}
use Rattle.view_lines.specs.declared.sources.Placed.{Placed}
use Rattle.view_lines.specs.inner.Sources.{origin_of, origins, CanBeDrawn, AreOriginStrips, IsPlaced}
use Rattle.view_lines.proofs.CountedEdges.{edge_within, edge_seen}
use Rattle.view_lines.proofs.OriginStrips.{joined, taken_numbering, merged_in_order}
use Rattle.view_lines.proofs.PlacedSources.{drawable_view, drawable_placed}
use Rattle.view_lines.proofs.merged.merged_pieces.Goals as goal

pub by_line-requires-clause-in_range : goal.by_line-requires-clause-in_range
by_line-requires-clause-in_range c =
    let (fraction, drawn) = c.requires.drawn in
    let entries = c.args.entries.now in
    λ k e less. edge_within (of_dir c.args.d.now) fraction c.args.solid.now entries drawn (get_or entries k e) (Contains-get_or entries k e less)

pub by_line-requires-clause-seen : goal.by_line-requires-clause-seen
by_line-requires-clause-seen c =
    let (fraction, drawn) = c.requires.drawn in
    let entries = c.args.entries.now in
    λ k e less. edge_seen (of_dir c.args.d.now) fraction c.args.solid.now entries drawn (get_or entries k e) (Contains-get_or entries k e less)

pub take_by_line-requires-clause-drawable : goal.take_by_line-requires-clause-drawable
take_by_line-requires-clause-drawable c =
    let d = of_dir c.args.d.now in
    let solid = c.args.solid.now in
    let all = origins c.args.entries.now c.args.others.now in
    let (fraction, drawn) = c.requires.drawn in
    subst (All (λ (x : Placed). CanBeDrawn d solid (origin_of x.source))) (sym c.deref.ensures.value)
    (drawable_placed d solid all c.in_ok-placed.placed.items c.in_ok-placed.ensures.moves
    (drawable_view d fraction solid c.args.entries.now c.args.others.now drawn c.requires.chained c.requires.others))

pub take_by_line-requires-clause-numbered : goal.take_by_line-requires-clause-numbered
take_by_line-requires-clause-numbered c =
    let table = c.in_ok-placed.ensures.table in
    (table, subst (All (IsPlaced (of_dir c.args.d.now) c.args.solid.now table)) (sym c.deref.ensures.value) c.in_ok-placed.ensures.each)

pub pieces-requires : goal.pieces-requires
pieces-requires c = let (table, so_far) = c.in_ok-lines.ensures in (number_in table, joined so_far.strips, so_far.taken)

pub returns : goal.returns
returns c =
    let d = of_dir c.args.d.now in
    let solid = c.args.solid.now in
    let (table, so_far) = c.in_ok-lines.ensures in
    let all = map (λ (x : Placed). origin_of x.source) c.deref.result.now in
    merged_in_order d solid c.args.entries.now c.args.others.now (map (λ x. origin_of x.source) c.in_ok-placed.placed.items) so_far.strips c.in_ok-pieces.pieces.items c.in_ok-placed.ensures.moves
    (subst (λ (xs : List Placed). AllZip (AreOriginStrips d solid) (map (λ x. origin_of x.source) xs) so_far.strips) c.deref.ensures.value so_far.each)
    (c.in_ok-pieces.ensures (number_in table) (joined so_far.strips) (taken_numbering d solid table all c.in_ok-lines.lines so_far) so_far.taken)
