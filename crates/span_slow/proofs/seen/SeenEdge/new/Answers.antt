use Rattle.std.proofs.Common.{◌∙◌, sym, ap}
use Rattle.lattice.specs.Triple.{Triple, dot, right_axis, up_axis}
use Rattle.lattice.specs.Points.{of_dir}
use Rattle.span_slow.proofs.Axes.{one_sight_by_axes}
use Rattle.span_slow.proofs.seen.SeenEdge.new.Goals as goal

pub axis_along-axis-requires : goal.axis_along-axis-requires
axis_along-axis-requires c (right, up) =
    let d = of_dir c.args.d.now in
    let way = sym c.between.ensures in
    c.requires (one_sight_by_axes d c.args.a.now c.args.b.now (ap (λ (t : Triple). dot (right_axis d) t) way ∙ right) (ap (λ (t : Triple). dot (up_axis d) t) way ∙ up))
