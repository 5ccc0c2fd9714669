use Rattle.std.proofs.Common.{ℕ, List, sym, subst}
use Rattle.lattice.specs.Creases.{fraction_of}
use Rattle.lattice.specs.Cuts.{Plane, plane_of}
use Rattle.lattice.specs.Points.{of_dir}
use Rattle.lattice.specs.Triple.{Triple}
use Rattle.cut_plane.specs.Loops.{AreBorders}
use Rattle.geometry.specs.Views.{AreDrawnEdges}
use Rattle.solid_mesh.specs.Solids.{solid_part, edge_halves}
use Rattle.solid_mesh.proofs.Facts.{closed}
use Rattle.span_slow.specs.CutSpans.{AreCutSpans}
use Rattle.drawn_strips.specs.Scenes.{AreStripsBeyond}
use Rattle.drawn_strips.specs.Strips.{AreEdgeStrips}
use Rattle.piece_verify.proofs.SlowSpans.{slow_beyond}
use Rattle.piece_verify.proofs.slow_views.cut_strips.Goals as goal

pub add_borders-requires : goal.add_borders-requires
add_borders-requires c =
    let s = solid_part c.args.solid.now in
    let section = c.in_ok-section.section in
    (s, closed c.args.solid.now, subst (λ (p : Plane). AreBorders p s section.segments.items section.loops.items) (sym c.in_ok-section.ensures.cut) c.in_ok-section.ensures.borders)

pub returns : goal.returns
returns c =
    let solid = c.args.solid.now in
    let s = solid_part solid in
    let halves = edge_halves solid in
    let section = c.in_ok-section.section in
    let plane = plane_of section.cut in
    let numbers = c.deref.result.now in
    let of_edges = c.in_ok-strips.strips.items in
    let strips = c.add_borders.new.strips.items in
    let fraction = fraction_of c.args.crease in
    let (here, together, each) = c.in_ok-add_borders.ensures in
    let borders = subst (λ (p : Plane). AreBorders p s section.segments.items section.loops.items) (sym c.in_ok-section.ensures.cut) c.in_ok-section.ensures.borders in
    let drawn = subst (λ (v : Triple). AreDrawnEdges v fraction s halves numbers) c.dir-d.ensures
    (subst (λ (ns : List ℕ). AreDrawnEdges (of_dir c.dir-d.result) fraction s halves ns) (sym c.deref.ensures.value) c.in_ok-picked.ensures.drawn) in
    let edges = subst (λ (v : Triple). AreEdgeStrips v {s = s} (AreCutSpans plane) halves numbers of_edges) c.dir-d.ensures c.in_ok-strips.ensures in
    subst (λ (p : Plane). AreStripsBeyond p fraction s strips) c.in_ok-section.ensures.cut
    (slow_beyond solid fraction numbers of_edges here strips together plane section.segments.items section.loops.items drawn borders edges each)
