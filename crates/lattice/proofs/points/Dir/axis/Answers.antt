use Rattle.std.proofs.Common.{rules, FitsSigned, ◌≡◌, Bool, false, IsTrue}
use Rattle.std.specs.Int.{w64}
use Rattle.std.proofs.lemmas.Int.{to_z-of_z}
use Rattle.lattice.specs.Points.{of_dir}
use Rattle.lattice.proofs.AlongAxes.{not_along}
use Rattle.lattice.proofs.points.Dir.axis.Goals as goal

no : (b : Bool) → b ≡ false → IsTrue b → ⊥
no b e t = cc

pub returns-clause-none : goal.returns-clause-none
returns-clause-none c = λ none.
    let d = c.args.self.now in
    let x : FitsSigned w64 d.x = search rules in
    let y : FitsSigned w64 d.y = search rules in
    let z : FitsSigned w64 d.z = search rules in
    let first = simp to_z-of_z at c.are_nothing.ensures in
    let second = simp to_z-of_z at c.are_nothing-2.ensures in
    let third = simp to_z-of_z at c.are_nothing-3.ensures in
    not_along (of_dir d)
    (λ h. no c.are_nothing.result c.if-are_nothing.false (first.1 h))
    (λ h. no c.are_nothing-2.result c.if-are_nothing-2.false (second.1 h))
    (λ h. no c.are_nothing-3.result c.if-are_nothing-3.false (third.1 h))
