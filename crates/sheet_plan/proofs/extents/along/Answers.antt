use Rattle.std.proofs.Common.{rules, ◌*◌, ◌^◌, ◌∙◌, ◌+ℤ◌, to_z, of_z, FitsSigned}
use Rattle.std.specs.Int.{w32, w64}
use Rattle.std.proofs.lemmas.Int.{to_z-of_z}
use Rattle.integers.proofs.Worth.{Reads, fits, plus, pass, known, below_of}
use Rattle.sheet_plan.proofs.extents.along.Goals as goal

sum : (c : goal.After-summand-3)
    → Reads (to_z w64 (of_z w64 (to_z w64 (of_z w64 c.summand.result) +ℤ to_z w64 (of_z w64 c.summand-2.result))) +ℤ to_z w64 (of_z w64 c.summand-3.result))
    ((c.summand.result +ℤ c.summand-2.result) +ℤ c.summand-3.result) (3 * (162 * 2 ^ 20))
sum c =
    plus (pass w64 (plus (pass w64 (known c.summand.result (162 * 2 ^ 20) c.summand.ensures.size) tt) (pass w64 (known c.summand-2.result (162 * 2 ^ 20) c.summand-2.ensures.size) tt)) tt)
    (pass w64 (known c.summand-3.result (162 * 2 ^ 20) c.summand-3.ensures.size) tt)

pub overflow_add-result-2 : goal.overflow_add-result-2
overflow_add-result-2 c = fits w64 (sum c) tt

pub returns-clause-value : goal.returns-clause-value
returns-clause-value c =
    let rx : FitsSigned w64 c.args.axis.now.x = search rules in
    let ry : FitsSigned w64 c.args.axis.now.y = search rules in
    let rz : FitsSigned w64 c.args.axis.now.z = search rules in
    let cx : FitsSigned w32 c.args.corner.now.x = search rules in
    let cy : FitsSigned w32 c.args.corner.now.y = search rules in
    let cz : FitsSigned w32 c.args.corner.now.z = search rules in
    let ex = simp to_z-of_z at c.summand.ensures.value in
    let ey = simp to_z-of_z at c.summand-2.ensures.value in
    let ez = simp to_z-of_z at c.summand-3.ensures.value in
    (pass w64 (sum c) tt).is ∙ (λ i. (ex i +ℤ ey i) +ℤ ez i)

pub returns-clause-size : goal.returns-clause-size
returns-clause-size c = below_of (2 ^ 29) (pass w64 (sum c) tt) tt
