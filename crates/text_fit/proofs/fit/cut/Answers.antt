use Rattle.std.proofs.Common.{arith}
use Rattle.text_fit.proofs.CutTexts.{cut_to_nothing, cut_to_kept}
use Rattle.text_fit.proofs.fit.cut.Goals as goal

pub returns-then-most-lt-POINTS : goal.returns-then-most-lt-POINTS
returns-then-most-lt-POINTS c =
    cut_to_nothing c.args.room c.args.size c.args.text.now _ c.requires.some (rw (← c.from.ensures, ← c.from-2.ensures) c.if-most-lt-POINTS.true) c.new.ensures.bytes

pub returns : goal.returns
returns c =
    let kept = c.in_ok-cut.ensures in
    cut_to_kept c.args.room c.args.size kept.0 c.args.text.now _ _ c.requires.some (rw (← c.from.ensures, ← c.from-2.ensures) (omega (arith, c.if-most-lt-POINTS.false)))
    kept.1 c.in_ok-push_str.ensures.bytes (rw (← c.from.ensures, ← c.from-2.ensures) kept.2)
