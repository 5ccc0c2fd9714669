use Rattle.std.proofs.Common.{arith}
use Rattle.dec_text.proofs.Rests.{step_value, step_size}
use Rattle.dec_text.proofs.number.carried.Goals as goal

pub loop-at-preserved : goal.loop-at-preserved
loop-at-preserved c = record {
  within = omega (arith, c.loop-at.invariant.within);
  value = step_value c.args.factor c.args.behind c.args.digits.now c.loop-at.at c.from.result c.loop-at.carry c.requires.digits c.loop-at-test.true c.loop-at.invariant.within c.from.ensures c.loop-at.invariant.value;
  size = step_size c.args.factor c.args.behind c.args.digits.now c.loop-at.at c.from.result c.loop-at.carry c.requires.digits c.loop-at-test.true c.loop-at.invariant.within c.from.ensures c.loop-at.invariant.size;
}
