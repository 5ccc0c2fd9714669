use Rattle.std.proofs.Common.{rules, FitsSigned, le_trans}
use Rattle.std.specs.Int.{w64, w128}
use Rattle.std.proofs.lemmas.Int.{to_z-of_z}
use Rattle.integers.proofs.Comparisons.{not_negative_at}
use Rattle.integers.proofs.Signs.{mul_nonneg}
use Rattle.detail_pieces.proofs.spots.step.Goals as goal

pub returns-clause-step : goal.returns-clause-step
returns-clause-step c =
    let a_fits : FitsSigned w64 c.args.d.now.x = search rules in
    let b_fits : FitsSigned w64 c.args.d.now.y = search rules in
    let c_fits : FitsSigned w64 c.args.d.now.z = search rules in
    let x_fits : FitsSigned w128 c.args.p.now.x = search rules in
    let y_fits : FitsSigned w128 c.args.p.now.y = search rules in
    let z_fits : FitsSigned w128 c.args.p.now.z = search rules in
    let w_fits : FitsSigned w128 c.args.p.now.w = search rules in
    let s_fits : FitsSigned w64 c.push_in-push.result.scale = search rules in
    let e_fits : FitsSigned w128 c.push_in-push.result.by = search rules in
    let one_fits : FitsSigned w128 c.moved.result = search rules in
    let two_fits : FitsSigned w128 c.moved-2.result = search rules in
    let three_fits : FitsSigned w128 c.moved-3.result = search rules in
    let times_fits : FitsSigned w128 c.times.result = search rules in
    record {
      s = c.push_in-push.result.scale;
      e = c.push_in-push.result.by;
      push = simp to_z-of_z at c.push_in-push.ensures.push;
      x = simp to_z-of_z (simp to_z-of_z at c.moved.ensures.value);
      y = simp to_z-of_z (simp to_z-of_z at c.moved-2.ensures.value);
      z = simp to_z-of_z (simp to_z-of_z at c.moved-3.ensures.value);
      w = simp to_z-of_z (simp to_z-of_z at c.times.ensures.value);
    }

pub returns-clause-not_negative : goal.returns-clause-not_negative
returns-clause-not_negative c =
    let w_fits : FitsSigned w128 c.args.p.now.w = search rules in
    let s_fits : FitsSigned w64 c.push_in-push.result.scale = search rules in
    let times_fits : FitsSigned w128 c.times.result = search rules in
    simp to_z-of_z (not_negative_at _ _ (simp to_z-of_z at c.times.ensures.value) (mul_nonneg c.push_in-push.result.scale c.args.p.now.w c.push_in-push.ensures.not_negative c.requires.not_negative))

pub returns-clause-size : goal.returns-clause-size
returns-clause-size c m h =
    let x_fits : FitsSigned w128 c.args.p.now.x = search rules in
    let y_fits : FitsSigned w128 c.args.p.now.y = search rules in
    let z_fits : FitsSigned w128 c.args.p.now.z = search rules in
    let one_fits : FitsSigned w128 c.moved.result = search rules in
    let two_fits : FitsSigned w128 c.moved-2.result = search rules in
    let three_fits : FitsSigned w128 c.moved-3.result = search rules in
    let by = le_trans (simp to_z-of_z at c.push_in-push.ensures.by) h.x in
    record {
      x = simp to_z-of_z ((simp to_z-of_z at c.moved.ensures.size) m h.y by);
      y = simp to_z-of_z ((simp to_z-of_z at c.moved-2.ensures.size) m h.z by);
      z = simp to_z-of_z ((simp to_z-of_z at c.moved-3.ensures.size) m h.x by);
    }
