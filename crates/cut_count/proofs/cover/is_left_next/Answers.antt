use Rattle.std.proofs.Common.{◌≡◌, inl, inr, sym, subst, ◌∙◌, arith}
use Rattle.std.specs.Prelude.{ℤ, pos, ◌<ℤ◌, ◌≤ℤ◌}
use Rattle.std.proofs.lemmas.Int.{ints}
use Rattle.integers.proofs.Comparisons.{less_not_at_most}
use Rattle.lattice.specs.Cuts.{plane_of, toward_of}
use Rattle.geometry.specs.Faces.{facing_of}
use Rattle.cut_count.proofs.cover.is_left_next.Goals as goal

pub returns-else-orientation_of-gt0 : goal.returns-else-orientation_of-gt0
returns-else-orientation_of-gt0 c =
    let t = c.args.t.now in
    let is : c.orientation_of.result ≡ facing_of (toward_of (plane_of c.args.cut.now)) t.a t.b t.c = c.orientation_of.ensures.value ∙ (λ i. facing_of (c.dir.ensures i) t.a t.b t.c) in
    let most : c.orientation_of.result ≤ℤ pos 0 = omega (arith, ints) in
    let back : ¬ (pos 0 <ℤ facing_of (toward_of (plane_of c.args.cut.now)) t.a t.b t.c) =
    λ h. less_not_at_most (pos 0) c.orientation_of.result (subst (λ (z : ℤ). pos 0 <ℤ z) (sym is) h) most in (
      (λ h. inr (back, c.front_is_left_next-else-orientation_of-gt0.ensures.0 h)),
      (λ h. elim h [ inl g ↦ absurd (back g.0) | inr g ↦ c.front_is_left_next-else-orientation_of-gt0.ensures.1 g.1 ]),
    )
