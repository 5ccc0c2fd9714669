use Rattle.std.proofs.Common.{◌≡◌, rules, FitsSigned}
use Rattle.std.specs.Int.{w128, int_min, int_max}
use Rattle.std.proofs.lemmas.Int.{to_z-of_z}
use Rattle.cut_marks.proofs.areas.around.Goals as goal

pub returns : goal.returns
returns c =
    let a = c.args.a.now in
    let b = c.args.b.now in
    let a_left : FitsSigned w128 a.left = search rules in
    let a_right : FitsSigned w128 a.right = search rules in
    let a_top : FitsSigned w128 a.top = search rules in
    let a_bottom : FitsSigned w128 a.bottom = search rules in
    let b_left : FitsSigned w128 b.left = search rules in
    let b_right : FitsSigned w128 b.right = search rules in
    let b_top : FitsSigned w128 b.top = search rules in
    let b_bottom : FitsSigned w128 b.bottom = search rules in
    let left_fits : FitsSigned w128 c.min.result = search rules in
    let right_fits : FitsSigned w128 c.max.result = search rules in
    let top_fits : FitsSigned w128 c.min-2.result = search rules in
    let bottom_fits : FitsSigned w128 c.max-2.result = search rules in
    let left : c.min.result ≡ int_min a.left b.left = simp to_z-of_z at c.min.ensures.value in
    let right : c.max.result ≡ int_max a.right b.right = simp to_z-of_z at c.max.ensures.value in
    let top : c.min-2.result ≡ int_min a.top b.top = simp to_z-of_z at c.min-2.ensures.value in
    let bottom : c.max-2.result ≡ int_max a.bottom b.bottom = simp to_z-of_z at c.max-2.ensures.value in
    simp to_z-of_z (λ i. record { left = left i; right = right i; top = top i; bottom = bottom i })
