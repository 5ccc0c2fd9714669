use Rattle.std.proofs.Common.{◌≡◌, List, ◌++◌, map, sym, subst, ap, ◌∙◌}
use Rattle.std.specs.List.{AllZip}
use Rattle.geometry.specs.Pieces.{AreInOrder}
use Rattle.geometry.specs.Views.{AreDrawnEdges}
use Rattle.lattice.specs.Cuts.{plane_of}
use Rattle.lattice.specs.Points.{of_dir}
use Rattle.lattice.specs.declared.pieces.Strip.{Strip}
use Rattle.lattice.specs.Triple.{Triple}
use Rattle.line_merge.specs.Merging.{AreStrips}
use Rattle.solid_mesh.specs.Solids.{solid_part, edge_halves}
use Rattle.solid_mesh.proofs.Facts.{closed}
use Rattle.drawn_strips.specs.Strips.{IsBorderStrip}
use Rattle.view_lines.specs.inner.Merged.{AreMergedWith}
use Rattle.view_lines.proofs.CountedEdges.{beyond_cut_chained}
use Rattle.view_lines.proofs.RightViews.{border_ends, right_cut}
use Rattle.view_lines.proofs.cut_strips.cut_pieces.Goals as goal

pub add_borders-requires : goal.add_borders-requires
add_borders-requires c = (solid_part c.args.solid.now, closed c.args.solid.now, c.requires.borders)

pub merged_pieces-requires-clause-drawn : goal.merged_pieces-requires-clause-drawn
merged_pieces-requires-clause-drawn c =
    let solid = c.args.solid.now in
    let (fraction, beyond) = c.requires.counts in
    (fraction, subst (λ (v : Triple). AreDrawnEdges v fraction (solid_part solid) (edge_halves solid) (map (λ x. x.edge) c.args.entries.now)) (sym c.dir.ensures) beyond.edges)

pub merged_pieces-requires-clause-chained : goal.merged_pieces-requires-clause-chained
merged_pieces-requires-clause-chained c =
    let (fraction, beyond) = c.requires.counts in beyond_cut_chained (plane_of c.args.section.now.cut) fraction c.args.solid.now c.args.entries.now beyond

pub merged_pieces-requires-clause-others : goal.merged_pieces-requires-clause-others
merged_pieces-requires-clause-others c =
    let section = c.args.section.now in
    let (here, together, each) = c.in_ok-add_borders.ensures in
    let same : here ≡ c.deref.result.now = sym {A = List Strip} (c.deref.ensures.value ∙ together ∙ ap (λ (ys : List Strip). ys ++ here) c.new-strips.ensures.items) in
    subst (λ (ys : List Strip). AreStrips (of_dir c.dir.result) ys) same
    (subst (λ (v : Triple). AreStrips v here) (sym c.dir.ensures)
    (border_ends (plane_of section.cut) c.args.solid.now section.segments.items section.loops.items here c.requires.borders each))

pub returns-clause-right : goal.returns-clause-right
returns-clause-right c fraction beyond =
    let solid = c.args.solid.now in
    let section = c.args.section.now in
    let pieces = c.in_ok-pieces.pieces.items in
    let (here, together, each) = c.in_ok-add_borders.ensures in
    let same : here ≡ c.deref.result.now = sym {A = List Strip} (c.deref.ensures.value ∙ together ∙ ap (λ (ys : List Strip). ys ++ here) c.new-strips.ensures.items) in
    right_cut (plane_of section.cut) fraction solid c.args.entries.now section.segments.items section.loops.items c.deref.result.now pieces c.requires.borders beyond (subst (AllZip IsBorderStrip section.segments.items) same each)
    (subst (λ (v : Triple). AreMergedWith v solid c.args.entries.now c.deref.result.now pieces) c.dir.ensures c.in_ok-pieces.ensures)

pub returns-clause-order : goal.returns-clause-order
returns-clause-order c = let (of_edges, told, merged) = c.in_ok-pieces.ensures in subst (λ (v : Triple). AreInOrder v c.in_ok-pieces.pieces.items) c.dir.ensures merged.order
