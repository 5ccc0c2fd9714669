use Rattle.std.proofs.Common.{◌≡◌, ◌∷◌, ◌<◌, ◌^◌, ℕ, drop, arith, drop-cons}
use Rattle.std.specs.Fmt.{decimal}
use Rattle.std.proofs.lemmas.List.{take_rest}
use Rattle.piece_verify.proofs.Numerals.{minus_none}
use Rattle.piece_verify.proofs.digits.whole.Goals as goal

pub returns-in_err-natural-in-45 : goal.returns-in_err-natural-in-45
returns-in_err-natural-in-45 c =
    let first = drop-cons c.args.bytes.now 0 0 (omega arith) in
    let text : c.args.bytes.now ≡ 45 ∷ drop 1 c.args.bytes.now = cc in
    let none : (n : ℕ) → n < 2 ^ 104 → drop 1 c.args.bytes.now ≡ decimal n → ⊥ = simp take_rest at c.in_err-natural-in-45.ensures in
    rw c.from_residual.ensures (minus_none c.args.bytes.now (drop 1 c.args.bytes.now) text none)
