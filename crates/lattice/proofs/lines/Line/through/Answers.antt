use Rattle.std.proofs.Common.{rules, arith, ◌∙◌, ◌+ℤ◌, ◌*ℤ◌, FitsSigned}
use Rattle.std.specs.Int.{w128}
use Rattle.std.proofs.lemmas.Int.{to_z-of_z}
use Rattle.lattice.specs.Triple.{dot}
use Rattle.lattice.specs.Points.{of_dir, point_of, scaled}
use Rattle.lattice.proofs.VectorSizes.{wider}
use Rattle.lattice.proofs.OnLines.{some_step, first_on, second_on}
use Rattle.lattice.proofs.lines.Line.through.Goals as goal

pub constant-c-requires-clause-first : goal.constant-c-requires-clause-first
constant-c-requires-clause-first c =
    let fits : FitsSigned w128 c.dot-a.result = search rules in
    simp to_z-of_z (c.dot-a.ensures.small c.up-up.ensures.size)

pub constant-c-requires-clause-second : goal.constant-c-requires-clause-second
constant-c-requires-clause-second c =
    let fits : FitsSigned w128 c.dot-b.result = search rules in
    simp to_z-of_z (c.dot-b.ensures.small (wider _ c.right-right.ensures.size))

pub lowest-requires-clause-first : goal.lowest-requires-clause-first
lowest-requires-clause-first c =
    let fits : FitsSigned w128 c.dot-a.result = search rules in
    simp to_z-of_z (omega (arith, c.dot-a.ensures.small c.up-up.ensures.size))

pub lowest-requires-clause-second : goal.lowest-requires-clause-second
lowest-requires-clause-second c =
    let fits : FitsSigned w128 c.dot-b.result = search rules in
    simp to_z-of_z (omega (arith, c.dot-b.ensures.small (wider _ c.right-right.ensures.size)))

pub lowest-requires-clause-somewhere : goal.lowest-requires-clause-somewhere
lowest-requires-clause-somewhere c =
    let d = of_dir c.args.d.now in
    let a_fits : FitsSigned w128 c.dot-a.result = search rules in
    let b_fits : FitsSigned w128 c.dot-b.result = search rules in
    let a_is = c.dot-a.ensures.value ∙ (λ i. dot (c.up-up.ensures.axis i) (c.between.ensures i)) in
    let b_is = c.dot-b.ensures.value ∙ (λ i. dot (c.right-right.ensures.axis i) (c.between-2.ensures i)) in
    simp to_z-of_z (some_step d c.args.p.now c.args.q.now c.dot-a.result c.dot-b.result a_is b_is c.requires)

pub returns : goal.returns
returns c =
    let d = of_dir c.args.d.now in
    let a_fits : FitsSigned w128 c.dot-a.result = search rules in
    let b_fits : FitsSigned w128 c.dot-b.result = search rules in
    let c_fits : FitsSigned w128 c.constant-c.result = search rules in
    let u_fits : FitsSigned w128 c.component.result = search rules in
    let v_fits : FitsSigned w128 c.component-2.result = search rules in
    let a_is = c.dot-a.ensures.value ∙ (λ i. dot (c.up-up.ensures.axis i) (c.between.ensures i)) in
    let b_is = c.dot-b.ensures.value ∙ (λ i. dot (c.right-right.ensures.axis i) (c.between-2.ensures i)) in
    let u_is = c.component.ensures.value ∙ (λ i. dot (c.right-right.ensures.axis i) (scaled (point_of c.args.p.now))) in
    let v_is = c.component-2.ensures.value ∙ (λ i. dot (c.up-up.ensures.axis i) (scaled (point_of c.args.p.now))) in
    let c_is = (simp to_z-of_z at c.constant-c.ensures.value) ∙ (λ i. (c.dot-a.result *ℤ u_is i) +ℤ (c.dot-b.result *ℤ v_is i)) in
    let lowest_is = simp to_z-of_z at c.lowest.ensures in
    record {
      first = first_on d c.args.p.now c.args.q.now c.dot-a.result c.dot-b.result a_is b_is c.lowest.result c.constant-c.result c_is lowest_is;
      second = second_on d c.args.p.now c.args.q.now c.dot-a.result c.dot-b.result a_is b_is c.lowest.result c.constant-c.result c_is lowest_is;
    }
