use Rattle.std.specs.Fmt.{signed_decimal}
use Rattle.piece_verify.specs.Values.{IsInRange}
use Rattle.piece_verify.proofs.Heads.{kept_word}
use Rattle.piece_verify.proofs.Joins.{no_first, no_second, both}
use Rattle.piece_verify.proofs.pairs.number_pair.Goals as goal

pub returns-in_err-first : goal.returns-in_err-first
returns-in_err-first c = rw c.from_residual.ensures (no_first IsInRange IsInRange signed_decimal signed_decimal c.args.end c.args.text.now c.in_err-first.ensures)

pub returns-in_err-second : goal.returns-in_err-second
returns-in_err-second c =
    rw c.from_residual-in_err-second.ensures
    (no_second IsInRange IsInRange signed_decimal signed_decimal c.args.end c.args.text.now c.in_ok-first.first c.in_ok-first.text.now c.in_ok-first.ensures
    c.in_err-second.ensures)

pub returns : goal.returns
returns c =
    let first = kept_word c.in_ok-first.first c.in_ok-first.ensures.holds in
    let second = kept_word c.in_ok-second.second c.in_ok-second.ensures.holds in
    rw (first, second)
    (both IsInRange IsInRange signed_decimal signed_decimal c.args.end c.args.text.now c.in_ok-first.first c.in_ok-first.text.now c.in_ok-second.second c.in_ok-second.rest.now
    c.in_ok-first.ensures c.in_ok-second.ensures)
