use Rattle.std.proofs.Common.{get_or, ◌-◌, arith}
use Rattle.std.proofs.lemmas.List.Sums.{fold_more}
use Rattle.dec_text.proofs.Digits.{more, held_next, held_stays}
use Rattle.dec_text.proofs.number.held.Goals as goal
use Rattle.dec_text.proofs.number.held.Goals.{then-value-lt-EXPONENT_END, else-value-lt-EXPONENT_END}

pub loop-digit-preserved : goal.loop-digit-preserved
loop-digit-preserved c =
    let e = fold_more more 0 c.args.digits.now c.loop-digit.digit-index 0 (omega arith) in
    record {
      value = elim c.if-value-lt-EXPONENT_END.branch [
        | then-value-lt-EXPONENT_END w ↦ held_next _ _ (get_or c.args.digits.now c.loop-digit.digit-index 0 - 48) _ _ c.loop-digit.invariant.value (omega arith) e (omega arith)
        | else-value-lt-EXPONENT_END w ↦ held_stays _ _ (get_or c.args.digits.now c.loop-digit.digit-index 0 - 48) _ _ c.loop-digit.invariant.value (omega arith) e (omega arith)
      ];
      size = elim c.if-value-lt-EXPONENT_END.branch [ then-value-lt-EXPONENT_END w ↦ omega arith | else-value-lt-EXPONENT_END w ↦ omega arith ];
    }
