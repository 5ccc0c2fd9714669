use Rattle.std.proofs.Common.{arith}
use Rattle.solid_mesh.specs.Solids.{solid_part}
use Rattle.drawn_strips.proofs.TraceAxes.{first_none, last_none, first_more, last_more, first_whole, last_whole}
use Rattle.drawn_strips.proofs.trace_strips.ends_on.Goals as goal

pub loop-i-init : goal.loop-i-init
loop-i-init c =
    let corners = (solid_part c.args.solid.now).corners in record {
      first = first_none c.args.axis corners 0 c.corner-first.result c.corner-first.ensures;
      last = last_none c.args.axis corners 0 c.corner-last.result c.corner-last.ensures;
    }

pub loop-i-preserved : goal.loop-i-preserved
loop-i-preserved c =
    let corners = (solid_part c.args.solid.now).corners in record {
      first = first_more c.args.axis corners c.loop-i.i c.loop-i.first c.corner.result c.first_of-first.result c.corner.ensures c.first_of-first.ensures.one
          c.first_of-first.ensures.before_a c.first_of-first.ensures.before_b c.loop-i.invariant.first;
      last = last_more c.args.axis corners c.loop-i.i c.loop-i.last c.corner-in-loop-i.result c.last_of-last.result c.corner-in-loop-i.ensures c.last_of-last.ensures.one
          c.last_of-last.ensures.behind_a c.last_of-last.ensures.behind_b c.loop-i.invariant.last;
    }

pub returns-clause-first : goal.returns-clause-first
returns-clause-first c = first_whole _ _ c.loop-i.i _ (omega (arith, c.corners-i-end.ensures, c.loop-i-test.false)) c.loop-i.invariant.first

pub returns-clause-last : goal.returns-clause-last
returns-clause-last c = last_whole _ _ c.loop-i.i _ (omega (arith, c.corners-i-end.ensures, c.loop-i-test.false)) c.loop-i.invariant.last
