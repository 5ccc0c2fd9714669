use Rattle.std.proofs.Common.{◌⊎◌, true≢false, sym, subst, ◌∙◌}
use Rattle.std.specs.Prelude.{pos, ◌<ℤ◌, ◌↔◌, IsTrue}
use Rattle.cross_find.specs.Lines.{IsInner, IsCrossedBy}
use Rattle.cross_find.proofs.Passed.{passed_difference, passed_height}
use Rattle.cross_find.proofs.Passes.{nearer_of_signs, signs_of_nearer}
use Rattle.cross_find.proofs.cross.passing.Goals as goal

pub returns-in_default-clause-answer : goal.returns-in_default-clause-answer
returns-in_default-clause-answer c passes =
    let is = c.lines-x.ensures in
    c.in_default.ensures (subst (λ (T : Type 0). T) (sym (λ i. IsInner (is.denominator i) (is.numerator i))) passes.inner)

pub returns-then-not-is_nearer-clause-answer : goal.returns-then-not-is_nearer-clause-answer
returns-then-not-is_nearer-clause-answer c passes =
    let x = c.lines-x.result in
    let denominator = passed_difference x.denominator x.denominator_small ∙ c.lines-x.ensures.denominator in
    let height = passed_height c.height_numerator.result c.height_numerator.ensures.size ∙ c.height_numerator.ensures.value in
    let signs = subst (λ (T : Type 0). IsTrue c.is_nearer.result ↔ T) (λ i. ((pos 0 <ℤ denominator i) × (pos 0 <ℤ height i)) ⊎ ((denominator i <ℤ pos 0) × (height i <ℤ pos 0))) c.is_nearer.ensures in
    true≢false (sym (signs.1 (signs_of_nearer _ _ passes.nearer)) ∙ c.if-not-is_nearer.true)

pub returns-clause-answer : goal.returns-clause-answer
returns-clause-answer c =
    let x = c.lines-x.result in
    let is = c.lines-x.ensures in
    let denominator = passed_difference x.denominator x.denominator_small ∙ is.denominator in
    let height = passed_height c.height_numerator.result c.height_numerator.ensures.size ∙ c.height_numerator.ensures.value in
    let signs = subst (λ (T : Type 0). IsTrue c.is_nearer.result ↔ T) (λ i. ((pos 0 <ℤ denominator i) × (pos 0 <ℤ height i)) ⊎ ((denominator i <ℤ pos 0) × (height i <ℤ pos 0))) c.is_nearer.ensures in
    let (inner, crossed) = c.in-Some.ensures in (
      record {
        inner = subst (λ (T : Type 0). T) (λ i. IsInner (is.denominator i) (is.numerator i)) inner;
        nearer = nearer_of_signs _ _ (signs.0 c.if-not-is_nearer.false);
      },
      subst (λ (T : Type 0). T) (λ i. IsCrossedBy (is.denominator i) (is.numerator i) c.in-Some.at) crossed,
    )

pub returns-clause-place : goal.returns-clause-place
returns-clause-place c = let (inner, crossed) = c.in-Some.ensures in crossed.place
