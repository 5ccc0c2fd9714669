use Rattle.std.proofs.Common.{◌≡◌, ◌∙◌, sym, arith, of_z, FitsSigned, rules}
use Rattle.std.specs.Prelude.{ℤ, pos, ◌↔◌, IsTrue, nat_eq}
use Rattle.std.specs.Int.{w128}
use Rattle.std.proofs.lemmas.Grind.{common_steps}
use Rattle.lattice.specs.Triple.{det}
use Rattle.lattice.specs.Points.{of_dir}
use Rattle.hiding_laws.proofs.CornerValues.{side_at}
use Rattle.span_slow.proofs.faces.is_in_line.Goals as goal

-- the machine's test
is_zero : (x : ℤ) → FitsSigned w128 x → IsTrue (nat_eq (of_z w128 x) 0) ↔ (x ≡ pos 0)
is_zero x fits = grind (arith, common_steps)

pub returns : goal.returns
returns c =
    let seen = c.args.seen.now in
    let value = c.view_cross.ensures.value ∙ (λ i. det (of_dir seen.d) (c.between.ensures i) (c.between-2.ensures i)) ∙ side_at (of_dir seen.d) seen.a seen.b c.args.k.now in
    let fits : FitsSigned w128 c.view_cross.result = search rules in
    let test = is_zero c.view_cross.result fits in
    ((λ h. sym value ∙ test.0 h), (λ h. test.1 (value ∙ h)))
