use Rattle.std.proofs.Common.{◌^◌, ◌∙◌, ap, ◌-ℤ◌}
use Rattle.integers.proofs.Worth.{size_of}
use Rattle.lattice.specs.Points.{of_dir}
use Rattle.lattice.specs.Triple.{right_axis, up_axis}
use Rattle.sheet_plan.specs.Layout.{across_at, upward_at}
use Rattle.sheet_plan.specs.Numbers.{measure_of, square_of}
use Rattle.sheet_plan.proofs.Ordered.{length_ordered}
use Rattle.sheet_plan.proofs.Reaches.{passed, own, between, ordered}
use Rattle.sheet_plan.proofs.Scales.{scale_bounds}
use Rattle.sheet_plan.proofs.shapes.shape_of.Goals as goal

pub returns-clause-value : goal.returns-clause-value
returns-clause-value c =
    let e = c.args.extent.now in
    let m = measure_of c.args.ruler.now.scale c.args.ruler.now.decimals in
    let d = of_dir e.d in
    let left = c.across_at-left.ensures.value ∙ ap (across_at m d) (passed e.u_min e.u_min_in_range) in
    let right = c.across_at-right.ensures.value ∙ ap (across_at m d) (passed e.u_max e.u_max_in_range) in
    let bottom = c.upward_at-bottom.ensures.value ∙ ap (upward_at m d) (passed e.v_min e.v_min_in_range) in
    let top = c.upward_at-top.ensures.value ∙ ap (upward_at m d) (passed e.v_max e.v_max_in_range) in
    let left_at = (own c.across_at-left.result c.across_at-left.ensures.size).is ∙ left in
    let top_at = (own c.upward_at-top.result c.upward_at-top.ensures.size).is ∙ top in
    let width = (between c.across_at-left.result c.across_at-right.result c.across_at-left.ensures.size c.across_at-right.ensures.size).is ∙ (λ i. right i -ℤ left i) in
    let height = (between c.upward_at-bottom.result c.upward_at-top.result c.upward_at-bottom.ensures.size c.upward_at-top.ensures.size).is ∙ (λ i. top i -ℤ bottom i) in
    λ i. record { cell = c.of.ensures.value i; left = left_at i; top = top_at i; width = width i; height = height i }

pub returns-clause-small : goal.returns-clause-small
returns-clause-small c =
    let e = c.args.extent.now in
    let ruler = c.args.ruler.now in
    let m = measure_of ruler.scale ruler.decimals in
    let d = of_dir e.d in
    let s = scale_bounds ruler.scale.num ruler.scale.den ruler.scale.listed in
    let left = c.across_at-left.ensures.value ∙ ap (across_at m d) (passed e.u_min e.u_min_in_range) in
    let right = c.across_at-right.ensures.value ∙ ap (across_at m d) (passed e.u_max e.u_max_in_range) in
    let bottom = c.upward_at-bottom.ensures.value ∙ ap (upward_at m d) (passed e.v_min e.v_min_in_range) in
    let top = c.upward_at-top.ensures.value ∙ ap (upward_at m d) (passed e.v_max e.v_max_in_range) in
    let across = length_ordered m (square_of (right_axis d)) e.u_min e.u_max s.den_least s.den_greatest ruler.few_decimals e.across in
    let upward = length_ordered m (square_of (up_axis d)) e.v_min e.v_max s.den_least s.den_greatest ruler.few_decimals e.upward in
    let width = ordered _ _ _ _ _ left right across (between c.across_at-left.result c.across_at-right.result c.across_at-left.ensures.size c.across_at-right.ensures.size) in
    let height = ordered _ _ _ _ _ bottom top upward (between c.upward_at-bottom.result c.upward_at-top.result c.upward_at-bottom.ensures.size c.upward_at-top.ensures.size) in
    record {
      cell = c.of.ensures.in_grid;
      left = size_of (2 ^ 45) (own c.across_at-left.result c.across_at-left.ensures.size) tt;
      top = size_of (2 ^ 45) (own c.upward_at-top.result c.upward_at-top.ensures.size) tt;
      width_least = width.0;
      width_greatest = width.1;
      height_least = height.0;
      height_greatest = height.1;
    }
