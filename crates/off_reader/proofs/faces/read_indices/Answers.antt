use Rattle.std.proofs.Common.{◌∙◌, refl, rules, arith}
use Rattle.off_reader.proofs.Rows.{no_indices, index_pushed, length_pushed, below_pushed, index_fails}
use Rattle.off_reader.proofs.faces.read_indices.Goals as goal

pub loop-init : goal.loop-init
loop-init c = record {
  step = rw (c.new-numbers.ensures.items) (no_indices c.args.bytes.now c.args.vertices _);
  text = c.requires.same;
  line = λ less. omega (arith, less);
  count = rw (c.new-numbers.ensures.items) refl;
  below = rw (c.new-numbers.ensures.items) (search rules);
}

pub loop-preserved : goal.loop-preserved
loop-preserved c =
    let pushed = c.in_ok-push-in-Ok.ensures.items in
    record {
      step = index_pushed c.args.bytes.now c.args.vertices c.loop.counter _ c.loop.tokens.left _ c.loop.numbers.items _ c.loop.line _ _ pushed c.loop.invariant.step c.in-Ok.ensures.step;
      text = c.in-Ok.ensures.text ∙ c.loop.invariant.text;
      line = λ less. c.in-Ok.ensures.line;
      count = length_pushed c.loop.counter _ c.loop.numbers.items _ pushed c.loop.invariant.count;
      below = below_pushed c.args.vertices _ c.loop.numbers.items _ pushed c.loop.invariant.below c.in-Ok.ensures.below;
    }

pub returns-in-Err-clause-step : goal.returns-in-Err-clause-step
returns-in-Err-clause-step c = index_fails _ _ c.loop.counter _ _ _ _ _ _ c.loop-test.true c.loop.invariant.step c.in-Err.ensures.step
