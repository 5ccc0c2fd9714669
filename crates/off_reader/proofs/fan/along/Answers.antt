use Rattle.std.proofs.Common.{rules, ◌^◌, ◌∙◌, ◌+ℤ◌, FitsSigned}
use Rattle.std.specs.Int.{w64, w128}
use Rattle.std.proofs.lemmas.Int.{to_z-of_z}
use Rattle.integers.proofs.Worth.{fits, known, pass, plus}
use Rattle.lattice.proofs.VectorSizes.{sum_of_three, machine_sum}
use Rattle.off_reader.proofs.fan.along.Goals as goal

pub overflow_add-result : goal.overflow_add-result
overflow_add-result c =
    fits w128 (plus (pass w128 (known c.summand.result (2 ^ 92) c.summand.ensures.size) tt) (pass w128 (known c.summand-2.result (2 ^ 92) c.summand-2.ensures.size) tt)) tt

pub overflow_add-result-2 : goal.overflow_add-result-2
overflow_add-result-2 c =
    fits w128 (sum_of_three (2 ^ 92) c.summand.result c.summand-2.result c.summand-3.result c.summand.ensures.size c.summand-2.ensures.size c.summand-3.ensures.size tt tt) tt

pub returns : goal.returns
returns c =
    let ax : FitsSigned w64 c.args.area.x = search rules in
    let ay : FitsSigned w64 c.args.area.y = search rules in
    let az : FitsSigned w64 c.args.area.z = search rules in
    let nx : FitsSigned w64 c.args.normal.x = search rules in
    let ny : FitsSigned w64 c.args.normal.y = search rules in
    let nz : FitsSigned w64 c.args.normal.z = search rules in
    let ex = simp to_z-of_z at c.summand.ensures.value in
    let ey = simp to_z-of_z at c.summand-2.ensures.value in
    let ez = simp to_z-of_z at c.summand-3.ensures.value in
    (machine_sum (2 ^ 92) c.summand.result c.summand-2.result c.summand-3.result c.summand.ensures.size c.summand-2.ensures.size c.summand-3.ensures.size tt tt tt).is ∙ (λ i. (ex i +ℤ ey i) +ℤ ez i)
