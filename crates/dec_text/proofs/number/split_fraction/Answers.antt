use Rattle.std.proofs.Common.{◌≡◌, ◌∷◌, ◌++◌, drop, drop-cons, arith}
use Rattle.std.proofs.lemmas.List.{take_rest}
use Rattle.dec_text.proofs.Parts.{fraction_parts}
use Rattle.dec_text.proofs.number.split_fraction.Goals as goal

pub returns-in-46-clause-parts : goal.returns-in-46-clause-parts
returns-in-46-clause-parts c = λ fraction tail x.
    let first = drop-cons c.args.text.now 0 0 (omega arith) in
    let text : c.args.text.now ≡ 46 ∷ drop 1 c.args.text.now = cc in
    let parts : drop 1 c.args.text.now ≡ c.split_digits.result.0.now ++ c.split_digits.result.1.now = rw take_rest at c.split_digits.ensures.whole in
    fraction_parts c.args.text.now (drop 1 c.args.text.now) c.split_digits.result.0.now c.split_digits.result.1.now fraction tail text parts c.split_digits.ensures.digits c.split_digits.ensures.end x
