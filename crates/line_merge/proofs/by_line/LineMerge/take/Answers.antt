use Rattle.lattice.specs.Points.{of_dir}
use Rattle.line_merge.proofs.Taken.{taken_ends, taken_none, taken_more, taken_all}
use Rattle.line_merge.proofs.by_line.LineMerge.take.Goals as goal

pub loop-strip-init : goal.loop-strip-init
loop-strip-init c =
    let (number, given, may) = c.requires in
    (λ number given may. taken_none (of_dir c.args.d.now) number given c.args.self.now may.taken, may.later)

pub take_one-requires : goal.take_one-requires
take_one-requires c =
    let (number, given, may) = c.requires in
    taken_ends (of_dir c.args.d.now) number _ c.loop-strip.self (c.loop-strip.invariant.0 number given may)

pub loop-strip-preserved : goal.loop-strip-preserved
loop-strip-preserved c = (
  λ number given may.
      taken_more (of_dir c.args.d.now) number given c.args.strips.now c.args.line c.args.self.now c.loop-strip.self c.take_one.new.self c.loop-strip.strip-index c.strip-item.result
      c.loop-strip-test.true c.strip-item.is may (c.loop-strip.invariant.0 number given may)
      (λ so_far. c.in_ok-take_one.ensures.taken so_far c.loop-strip.invariant.1),
  c.in_ok-take_one.ensures.line,
)

pub returns-clause-taken : goal.returns-clause-taken
returns-clause-taken c number given may =
    taken_all (of_dir c.args.d.now) number given c.args.strips.now c.loop-strip.self c.loop-strip.strip-index c.loop-strip-test.false (c.loop-strip.invariant.0 number given may)
