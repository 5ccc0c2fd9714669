use Rattle.plot_rack.specs.Lists.{frac_text}
use Rattle.piece_verify.specs.Values.{IsListedFrac}
use Rattle.piece_verify.proofs.Joins.{no_first, no_second, both}
use Rattle.piece_verify.proofs.pairs.fraction_pair.Goals as goal

pub returns-in_err-first : goal.returns-in_err-first
returns-in_err-first c = rw c.from_residual.ensures (no_first IsListedFrac IsListedFrac frac_text frac_text 32 c.args.text.now c.in_err-first.ensures)

pub returns-in_err-second : goal.returns-in_err-second
returns-in_err-second c =
    rw c.from_residual-in_err-second.ensures
    (no_second IsListedFrac IsListedFrac frac_text frac_text 32 c.args.text.now c.in_ok-first.first c.in_ok-first.text.now c.in_ok-first.ensures c.in_err-second.ensures)

pub returns : goal.returns
returns c =
    both IsListedFrac IsListedFrac frac_text frac_text 32 c.args.text.now c.in_ok-first.first c.in_ok-first.text.now c.in_ok-second.second c.in_ok-second.rest.now
    c.in_ok-first.ensures c.in_ok-second.ensures
