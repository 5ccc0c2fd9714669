use Rattle.std.proofs.Common.{◌≡◌, ◌∙◌, sym, length, rules, arith}
use Rattle.std.proofs.lemmas.List.{length-map, map-append}
use Rattle.stl_reader.specs.inner.Views.{of_facet}
use Rattle.stl_reader.proofs.Turns.{facet_done, facet_fails, solid_done, all_done, solid_fails, word_fails}
use Rattle.stl_reader.proofs.Shorter.{facet_taken, solid_taken}
use Rattle.stl_reader.proofs.facets.read_facets.Goals as goal

pub returns-in-Err-clause-step : goal.returns-in-Err-clause-step
returns-in-Err-clause-step c = word_fails c.args.decimals c.args.unit c.args.bytes.now _ _ _ c.in-Err.fault c.loop-follows.invariant.done c.in-Err.ensures.step

-- ---- a facet
pub loop-follows-smaller-in-Continue-1 : goal.loop-follows-smaller-in-Continue-1
loop-follows-smaller-in-Continue-1 c = facet_taken c.args.decimals c.args.unit c.args.bytes.now _ _ _ c.in-Ok.ensures.step c.len.result c.in-Ok.follows.line _ _ c.in-Ok-read_facet.ensures.step

pub loop-follows-preserved-in-Continue-1 : goal.loop-follows-preserved-in-Continue-1
loop-follows-preserved-in-Continue-1 c =
    let before : c.len.result ≡ length c.loop-follows.facets.items = search rules in
    record {
      done = rw (c.in_ok-push-in-Ok-read_facet.ensures.items, map-append) (facet_done c.args.decimals c.args.unit c.args.bytes.now _ _ _ _ _ _ c.loop-follows.invariant.done c.in-Ok.ensures.step c.if-follows.true c.len.result (before ∙ sym (length-map c.loop-follows.facets.items of_facet)) (of_facet c.in-Ok-read_facet.facet) _ c.in-Ok-read_facet.ensures.step);
      text = c.in-Ok-read_facet.ensures.text ∙ c.in-Ok.ensures.text ∙ c.loop-follows.invariant.text;
      most = omega (arith, before, c.in_ok-push-in-Ok-read_facet.ensures.len, c.in-Ok-read_facet.ensures.room);
    }

pub returns-in-Err-read_facet-clause-step : goal.returns-in-Err-read_facet-clause-step
returns-in-Err-read_facet-clause-step c =
    let before : c.len.result ≡ length c.loop-follows.facets.items = search rules in
    facet_fails c.args.decimals c.args.unit c.args.bytes.now _ _ _ _ _ _ c.loop-follows.invariant.done c.in-Ok.ensures.step c.if-follows.true c.len.result (before ∙ sym (length-map c.loop-follows.facets.items of_facet)) c.in-Err-read_facet.fault c.in-Err-read_facet.ensures.step

-- ---- the end of a solid
pub loop-follows-smaller : goal.loop-follows-smaller
loop-follows-smaller c = solid_taken c.args.decimals c.args.unit c.args.bytes.now _ _ _ c.in-Ok.ensures.step c.read_facet_or_end.new.tokens.line _ _ _ c.skip_line.ensures.left c.in-Ok-true.ensures.step

pub loop-follows-preserved : goal.loop-follows-preserved
loop-follows-preserved c = record {
  done = solid_done c.args.decimals c.args.unit c.args.bytes.now _ _ _ _ _ _ c.loop-follows.invariant.done c.in-Ok.ensures.step c.if-follows.false _ _ _ c.in-Ok.ensures.line c.skip_line.ensures.left _ c.in-Ok-true.ensures.step c.in-Ok-true.field-0-test;
  text = c.in-Ok-true.ensures.text ∙ c.skip_line.ensures.text ∙ c.in-Ok.ensures.text ∙ c.loop-follows.invariant.text;
  most = c.loop-follows.invariant.most;
}

pub returns-in-Ok-false-clause-step : goal.returns-in-Ok-false-clause-step
returns-in-Ok-false-clause-step c = all_done c.args.decimals c.args.unit c.args.bytes.now _ _ _ _ _ _ c.loop-follows.invariant.done c.in-Ok.ensures.step c.if-follows.false _ _ _ c.in-Ok.ensures.line c.skip_line.ensures.left _ c.in-Ok-false.ensures.step c.in-Ok-false.field-0-test

pub returns-in-Err-another_solid-clause-step : goal.returns-in-Err-another_solid-clause-step
returns-in-Err-another_solid-clause-step c = solid_fails c.args.decimals c.args.unit c.args.bytes.now _ _ _ _ _ _ c.loop-follows.invariant.done c.in-Ok.ensures.step c.if-follows.false _ _ c.in-Ok.ensures.line c.skip_line.ensures.left c.in-Err-another_solid.fault c.in-Err-another_solid.ensures.step
