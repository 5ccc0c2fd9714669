use Rattle.std.proofs.Common.{◌≡◌, ◌+◌, suc, ◌∙◌, arith}
use Rattle.std.proofs.lemmas.List.{map-append}
use Rattle.part_text.proofs.Again.{one_more, fails_within}
use Rattle.off_reader.proofs.vertices.read_vertices.Goals as goal

pub returns-in-Err-clause-step : goal.returns-in-Err-clause-step
returns-in-Err-clause-step c = fails_within _ c.loop.counter _ _ _ _ _ (omega arith) c.loop.invariant.read c.in-Err.ensures.step

pub loop-preserved : goal.loop-preserved
loop-preserved c =
    let next : c.loop.counter + 1 ≡ suc c.loop.counter = omega arith in
    record {
      read = rw (next, c.in_ok-push-in-Ok.ensures.items, map-append) (one_more _ c.loop.counter _ _ _ _ _ c.loop.invariant.read c.in-Ok.ensures.step);
      count = omega (arith, c.in_ok-push-in-Ok.ensures.len);
      text = c.in-Ok.ensures.text ∙ c.loop.invariant.text;
      comments = c.in-Ok.ensures.comments ∙ c.loop.invariant.comments;
    }
