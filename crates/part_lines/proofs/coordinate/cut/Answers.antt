use Rattle.std.proofs.Common.{sym, arith}
use Rattle.std.proofs.lemmas.List.{length-take-le}
use Rattle.part_lines.proofs.coordinate.cut.Goals as goal

pub slice_bounds-shown_bytes-end : goal.slice_bounds-shown_bytes-end
slice_bounds-shown_bytes-end c = sym (length-take-le 40 c.args.word.now (omega (arith, c.if-word-le40.false)))
