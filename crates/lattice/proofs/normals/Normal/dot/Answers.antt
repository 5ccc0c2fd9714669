use Rattle.std.proofs.Common.{rules, ◌^◌, ◌∙◌, ◌+ℤ◌, FitsSigned}
use Rattle.std.specs.Int.{w64, w128}
use Rattle.std.proofs.lemmas.Int.{to_z-of_z}
use Rattle.integers.proofs.Worth.{fits, below_of}
use Rattle.lattice.proofs.VectorSizes.{sum_of_three, machine_sum}
use Rattle.lattice.proofs.normals.Normal.dot.Goals as goal

pub overflow_add-result-2 : goal.overflow_add-result-2
overflow_add-result-2 c =
    fits w128 (sum_of_three (2 ^ 86) c.summand.result c.summand-2.result c.summand-3.result c.summand.ensures.size c.summand-2.ensures.size c.summand-3.ensures.size tt tt) tt

pub returns-clause-value : goal.returns-clause-value
returns-clause-value c =
    let sx : FitsSigned w64 c.args.self.now.x = search rules in
    let sy : FitsSigned w64 c.args.self.now.y = search rules in
    let sz : FitsSigned w64 c.args.self.now.z = search rules in
    let ox : FitsSigned w64 c.args.other.now.x = search rules in
    let oy : FitsSigned w64 c.args.other.now.y = search rules in
    let oz : FitsSigned w64 c.args.other.now.z = search rules in
    let ex = simp to_z-of_z at c.summand.ensures.value in
    let ey = simp to_z-of_z at c.summand-2.ensures.value in
    let ez = simp to_z-of_z at c.summand-3.ensures.value in
    (machine_sum (2 ^ 86) c.summand.result c.summand-2.result c.summand-3.result c.summand.ensures.size c.summand-2.ensures.size c.summand-3.ensures.size tt tt tt).is ∙ (λ i. (ex i +ℤ ey i) +ℤ ez i)

pub returns-clause-size : goal.returns-clause-size
returns-clause-size c =
    below_of (2 ^ 88) (machine_sum (2 ^ 86) c.summand.result c.summand-2.result c.summand-3.result c.summand.ensures.size c.summand-2.ensures.size c.summand-3.ensures.size tt tt tt) tt
