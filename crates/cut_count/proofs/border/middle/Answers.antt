use Rattle.std.proofs.Common.{◌≡◌, ◌≤◌, ◌^◌, ◌∙◌, to_z, of_z}
use Rattle.std.specs.Prelude.{ℤ, pos, ◌+ℤ◌, ◌*ℤ◌, unsigned_abs}
use Rattle.std.specs.Int.{w128}
use Rattle.integers.proofs.Comparisons.{positive_at, twice_positive}
use Rattle.integers.proofs.Signs.{mul_pos}
use Rattle.integers.proofs.Worth.{known, below, pass, below_of}
use Rattle.cut_count.proofs.MiddleSizes.{near_at}
use Rattle.cut_count.proofs.border.middle.Goals as goal

whole : (r : ℤ) → unsigned_abs r ≤ 2 ^ 70 → to_z w128 (of_z w128 r) ≡ r
whole r h = (pass w128 (known r (2 ^ 70) h) tt).is

pub invariant_of-result : goal.invariant_of-result
invariant_of-result c =
    let p = c.args.p.now in
    let q = c.args.q.now in
    let pw = pass w128 (known p.w (2 ^ 24) c.requires.first) tt in
    let qw = pass w128 (known q.w (2 ^ 24) c.requires.second) tt in
    let w = (pass w128 (known c.doubled.result (2 ^ 49) c.doubled.ensures.size) tt) in
    let w_is = w.is ∙ c.doubled.ensures.value in
    record {
      positive = positive_at _ _ (w_is ∙ (λ i. pos 2 *ℤ (pw.is i *ℤ qw.is i))) (twice_positive _ (mul_pos p.w q.w p.positive q.positive));
      w_in_range = below_of (2 ^ 70) w tt;
      x_in_range = below_of (2 ^ 92) (pass w128 (known c.mixed.result (2 ^ 70) c.mixed.ensures.size) tt) tt;
      y_in_range = below_of (2 ^ 92) (pass w128 (known c.mixed-2.result (2 ^ 70) c.mixed-2.ensures.size) tt) tt;
      z_in_range = below_of (2 ^ 92) (pass w128 (known c.mixed-3.result (2 ^ 70) c.mixed-3.ensures.size) tt) tt;
      x_near = near_at _ _ _ _ (whole c.mixed.result c.mixed.ensures.size) w_is c.mixed.ensures.near;
      y_near = near_at _ _ _ _ (whole c.mixed-2.result c.mixed-2.ensures.size) w_is c.mixed-2.ensures.near;
      z_near = near_at _ _ _ _ (whole c.mixed-3.result c.mixed-3.ensures.size) w_is c.mixed-3.ensures.near;
    }

pub returns : goal.returns
returns c =
    let p = c.args.p.now in
    let q = c.args.q.now in
    let pw = (pass w128 (known p.w (2 ^ 24) c.requires.first) tt).is in
    let qw = (pass w128 (known q.w (2 ^ 24) c.requires.second) tt).is in
    let px = (pass w128 (below p.x (2 ^ 92) p.x_in_range) tt).is in
    let py = (pass w128 (below p.y (2 ^ 92) p.y_in_range) tt).is in
    let pz = (pass w128 (below p.z (2 ^ 92) p.z_in_range) tt).is in
    let qx = (pass w128 (below q.x (2 ^ 92) q.x_in_range) tt).is in
    let qy = (pass w128 (below q.y (2 ^ 92) q.y_in_range) tt).is in
    let qz = (pass w128 (below q.z (2 ^ 92) q.z_in_range) tt).is in
    let x = whole c.mixed.result c.mixed.ensures.size ∙ c.mixed.ensures.value ∙ (λ i. (px i *ℤ qw i) +ℤ (qx i *ℤ pw i)) in
    let y = whole c.mixed-2.result c.mixed-2.ensures.size ∙ c.mixed-2.ensures.value ∙ (λ i. (py i *ℤ qw i) +ℤ (qy i *ℤ pw i)) in
    let z = whole c.mixed-3.result c.mixed-3.ensures.size ∙ c.mixed-3.ensures.value ∙ (λ i. (pz i *ℤ qw i) +ℤ (qz i *ℤ pw i)) in
    let w = (pass w128 (known c.doubled.result (2 ^ 49) c.doubled.ensures.size) tt).is ∙ c.doubled.ensures.value ∙ (λ i. pos 2 *ℤ (pw i *ℤ qw i)) in
    λ i. record { x = x i; y = y i; z = z i; w = w i }
