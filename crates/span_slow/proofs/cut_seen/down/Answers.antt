use Rattle.std.proofs.Common.{◌∙◌, ◌^◌, sym}
use Rattle.std.specs.Int.{w64}
use Rattle.integers.proofs.Worth.{known, pass, minus}
use Rattle.lattice.specs.Cuts.{plane_of}
use Rattle.span_slow.proofs.CutReads.{down_low}
use Rattle.span_slow.proofs.cut_seen.down.Goals as goal

pub returns-else-from_high-clause-value : goal.returns-else-from_high-clause-value
returns-else-from_high-clause-value c =
    let along = pass w64 (known c.coordinate-along.result (2 ^ 20) c.coordinate-along.ensures.size) tt in
    let at = pass w64 (known c.at-else-from_high.result (2 ^ 20) c.at-else-from_high.ensures.size) tt in
    (pass w64 (minus along at) tt).is
    ∙ down_low (plane_of c.args.cut.now) c.args.p.now c.axis.result c.at-else-from_high.result c.coordinate-along.result (sym c.from_high.ensures ∙ c.if-from_high.false) c.axis.ensures c.at-else-from_high.ensures.place c.coordinate-along.ensures.value
