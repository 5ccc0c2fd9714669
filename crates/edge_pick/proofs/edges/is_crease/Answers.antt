use Rattle.std.proofs.Common.{rules, ◌↔◌, IsTrue, subst, sym, ◌∙◌, ℤ, FitsSigned}
use Rattle.std.specs.Prelude.{pos, ◌<ℤ◌}
use Rattle.std.specs.Int.{w128}
use Rattle.std.proofs.lemmas.Int.{to_z-of_z}
use Rattle.lattice.specs.Triple.{dot}
use Rattle.lattice.specs.Points.{of_normal}
use Rattle.edge_pick.proofs.Creases.{Turns, long_of_product}
use Rattle.edge_pick.proofs.edges.is_crease.Goals as goal

pub turns-requires-clause-left_positive : goal.turns-requires-clause-left_positive
turns-requires-clause-left_positive c =
    let l = of_normal c.triangle_normal-left.result in
    let r = of_normal c.triangle_normal-right.result in
    let f : FitsSigned w128 c.dot.result = search rules in
    let g : FitsSigned w128 c.dot-2.result = search rules in
    simp to_z-of_z (λ h. subst (λ (z : ℤ). pos 0 <ℤ z) (sym c.dot-2.ensures.value) (long_of_product l r (subst (λ (z : ℤ). pos 0 <ℤ z) c.dot.ensures.value h)))

pub returns : goal.returns
returns c e n =
    let h = c.edge-numbers.ensures.each e n in
    let left = c.triangle_normal-left.ensures e.left h.left in
    let right = c.triangle_normal-right.ensures e.right h.right in
    let read = λ (z : ℤ) (fits : FitsSigned w128 z). to_z-of_z w128 z fits in
    let p = read c.dot.result (search rules) ∙ c.dot.ensures.value ∙ (λ i. dot (left i) (right i)) in
    let a = read c.dot-2.result (search rules) ∙ c.dot-2.ensures.value ∙ (λ i. dot (left i) (left i)) in
    let b = read c.dot-3.result (search rules) ∙ c.dot-3.ensures.value ∙ (λ i. dot (right i) (right i)) in
    coe 0 1 (i. IsTrue c.turns.result ↔ Turns (pos (c.fraction.ensures i)) (p i) (a i) (b i)) c.turns.ensures
