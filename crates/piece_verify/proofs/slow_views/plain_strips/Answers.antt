use Rattle.std.proofs.Common.{ℕ, List, map, sym, subst}
use Rattle.lattice.specs.Creases.{fraction_of}
use Rattle.lattice.specs.Cuts.{plane_of}
use Rattle.lattice.specs.Points.{of_dir}
use Rattle.geometry.specs.Views.{AreDrawnEdges}
use Rattle.solid_mesh.specs.Solids.{solid_part, edge_halves}
use Rattle.piece_verify.proofs.SlowSpans.{slow_along}
use Rattle.piece_verify.proofs.slow_views.plain_strips.Goals as goal

pub returns : goal.returns
returns c =
    let solid = c.args.solid.now in
    let d = of_dir c.args.d.now in
    let fraction = fraction_of c.args.crease in
    let (here, together, traces) = c.in_ok-add_traces.ensures in
    slow_along solid fraction c.deref.result.now c.in_ok-strips.strips.items here c.add_traces.new.strips.items together d (map plane_of c.args.cuts.now)
    (subst (λ (ns : List ℕ). AreDrawnEdges d fraction (solid_part solid) (edge_halves solid) ns) (sym c.deref.ensures.value) c.in_ok-picked.ensures.drawn) c.in_ok-strips.ensures traces
