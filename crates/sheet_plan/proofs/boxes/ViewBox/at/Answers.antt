use Rattle.std.proofs.Common.{◌^◌, ◌∙◌, ap, ◌+ℤ◌, ◌-ℤ◌}
use Rattle.integers.proofs.Worth.{below_of}
use Rattle.lattice.specs.Points.{of_dir}
use Rattle.sheet_plan.specs.Layout.{across_at, upward_at}
use Rattle.sheet_plan.specs.Numbers.{measure_of}
use Rattle.sheet_plan.proofs.Reaches.{passed, right_of, above}
use Rattle.sheet_plan.proofs.boxes.ViewBox.at.Goals as goal

pub invariant_of-result : goal.invariant_of-result
invariant_of-result c =
    let place = c.args.place.now in
    record {
      left_in_range = below_of (2 ^ 61) (right_of place.x0 c.across_at.result place.x_in_range c.across_at.ensures.size) tt;
      top_in_range = below_of (2 ^ 61) (above place.y0 c.upward_at.result place.y_in_range c.upward_at.ensures.size) tt;
      right_in_range = below_of (2 ^ 61) (right_of place.x0 c.across_at-2.result place.x_in_range c.across_at-2.ensures.size) tt;
      bottom_in_range = below_of (2 ^ 61) (above place.y0 c.upward_at-2.result place.y_in_range c.upward_at-2.ensures.size) tt;
    }

pub returns : goal.returns
returns c =
    let place = c.args.place.now in
    let e = c.args.reach.now in
    let m = measure_of c.args.ruler.now.scale c.args.ruler.now.decimals in
    let d = of_dir place.d in
    let left = c.across_at.ensures.value ∙ ap (across_at m d) (passed e.u_min e.u_min_in_range) in
    let top = c.upward_at.ensures.value ∙ ap (upward_at m d) (passed e.v_max e.v_max_in_range) in
    let right = c.across_at-2.ensures.value ∙ ap (across_at m d) (passed e.u_max e.u_max_in_range) in
    let bottom = c.upward_at-2.ensures.value ∙ ap (upward_at m d) (passed e.v_min e.v_min_in_range) in
    let left_at = (right_of place.x0 c.across_at.result place.x_in_range c.across_at.ensures.size).is ∙ (λ i. place.x0 +ℤ left i) in
    let top_at = (above place.y0 c.upward_at.result place.y_in_range c.upward_at.ensures.size).is ∙ (λ i. place.y0 -ℤ top i) in
    let right_at = (right_of place.x0 c.across_at-2.result place.x_in_range c.across_at-2.ensures.size).is ∙ (λ i. place.x0 +ℤ right i) in
    let bottom_at = (above place.y0 c.upward_at-2.result place.y_in_range c.upward_at-2.ensures.size).is ∙ (λ i. place.y0 -ℤ bottom i) in
    λ i. record { left = left_at i; right = right_at i; top = top_at i; bottom = bottom_at i }
