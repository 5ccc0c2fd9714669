use Rattle.std.proofs.Common.{rules, ◌≡◌, ap, ◌∙◌, FitsSigned}
use Rattle.std.specs.Prelude.{ℤ, ◌+ℤ◌, ◌*ℤ◌}
use Rattle.std.specs.Int.{w128}
use Rattle.std.proofs.lemmas.Int.{to_z-of_z}
use Rattle.integers.proofs.Comparisons.{sum_exchanged}
use Rattle.detail_pieces.proofs.crossings.crossing_upward.Goals as goal

exchanged : (a b c num den v : ℤ) → v ≡ den → (b *ℤ den) +ℤ (a *ℤ num) ≡ c → (a *ℤ num) +ℤ (b *ℤ v) ≡ c
exchanged a b c num den v e h = sum_exchanged (a *ℤ num) (b *ℤ v) ∙ ap (λ (k : ℤ). (b *ℤ k) +ℤ (a *ℤ num)) e ∙ h

pub returns : goal.returns
returns c =
    let l = c.args.line.now in
    let at_fits = c.ranges.at in
    let a_fits : FitsSigned w128 l.a = search rules in
    let b_fits : FitsSigned w128 l.b = search rules in
    let c_fits : FitsSigned w128 l.c = search rules in
    let num_fits : FitsSigned w128 c.other-other.result.num = search rules in
    let den_fits : FitsSigned w128 c.other-other.result.den = search rules in
    let times_fits : FitsSigned w128 c.times.result = search rules in
    let value = simp to_z-of_z at c.times.ensures.value in
    record {
      on_line = simp to_z-of_z (exchanged l.a l.b _ c.other-other.result.num _ c.times.result value (simp to_z-of_z at c.other-other.ensures.on_line));
      on_border = simp to_z-of_z value;
    }
