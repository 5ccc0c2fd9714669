use Rattle.std.proofs.Common.{◌≡◌, ◌∙◌, arith, to_z, of_z}
use Rattle.std.specs.Int.{w32, int_min, int_max}
use Rattle.std.proofs.lemmas.Int.{ints}
use Rattle.meeting.proofs.boxes.triangle_range.Goals as goal

pub returns : goal.returns
returns c =
    let a : to_z w32 (of_z w32 c.args.a) ≡ c.args.a = omega (arith, ints) in
    let b : to_z w32 (of_z w32 c.args.b) ≡ c.args.b = omega (arith, ints) in
    let d : to_z w32 (of_z w32 c.args.c) ≡ c.args.c = omega (arith, ints) in
    let lesser : to_z w32 (of_z w32 c.min.result) ≡ c.min.result = omega (arith, ints) in
    let least : to_z w32 (of_z w32 c.min-2.result) ≡ c.min-2.result = omega (arith, ints) in
    let greater : to_z w32 (of_z w32 c.max.result) ≡ c.max.result = omega (arith, ints) in
    let greatest : to_z w32 (of_z w32 c.max-2.result) ≡ c.max-2.result = omega (arith, ints) in
    let first = lesser ∙ c.min.ensures.value ∙ (λ i. int_min (a i) (b i)) in
    let last = greater ∙ c.max.ensures.value ∙ (λ i. int_max (a i) (b i)) in
    record {
      from = least ∙ c.min-2.ensures.value ∙ (λ i. int_min (first i) (d i));
      to = greatest ∙ c.max-2.ensures.value ∙ (λ i. int_max (last i) (d i));
    }
