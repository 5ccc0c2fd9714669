use Rattle.std.proofs.Common.{◌≡◌, ℕ, ◌≤◌, Bool, true, pos, neg_ℤ, ◌-ℤ◌, to_z, of_z, w32, sym, ◌∙◌, ap, arith}
use Rattle.std.proofs.lemmas.Int.{ints}
use Rattle.dec_text.specs.Numbers.{magnitude_of, signed}
use Rattle.dec_text.proofs.Parts.{minus_is}
use Rattle.dec_text.proofs.number.units.Goals as goal

negated : (m : ℕ) → m ≤ 1048576 → neg_ℤ (pos m) ≡ to_z w32 (of_z w32 (pos 0 -ℤ to_z w32 m))
negated m h = omega (arith, ints)

pub returns-then-negative : goal.returns-then-negative
returns-then-negative c = λ n.
    let k = c.in_ok-magnitude.ensures n in
    let m = magnitude_of c.args.decimals c.args.unit n in
    let negative : n.negative ≡ true = sym (minus_is c.args.bytes.now n) ∙ sym c.split_sign-negative.ensures.negative ∙ c.if-negative.true in
    let small : m ≤ 1048576 = omega (arith, k.1, c.if-magnitude-gt-LARGEST.false) in (
      small,
      ap (λ (b : Bool). signed b m) negative
          ∙ negated m small
          ∙ ap (λ (t : ℕ). to_z w32 (of_z w32 (pos 0 -ℤ to_z w32 t))) k.1,
    )
