use Rattle.std.proofs.Common.{List, map, refl, arith}
use Rattle.lattice.specs.Points.{of_corner}
use Rattle.lattice.specs.Triple.{Triple}
use Rattle.off_reader.specs.Fans.{corners_at}
use Rattle.off_reader.specs.inner.Fans.{of_area}
use Rattle.off_reader.proofs.Areas.{long_corners, widest, wider, one_side, all_sides}
use Rattle.off_reader.proofs.fan.vector_area.Goals as goal

pub loop-i-init : goal.loop-i-init
loop-i-init c = record { part = refl; size = record { x = omega arith; y = omega arith; z = omega arith } }

pub with_side-area-requires : goal.with_side-area-requires
with_side-area-requires c = widest c.loop-i.i (of_area c.loop-i.area) (omega (arith, c.loop-i-test.true, c.requires.few)) c.loop-i.invariant.size

pub loop-i-preserved : goal.loop-i-preserved
loop-i-preserved c =
    let vertices : List Triple = map of_corner c.args.vertices.now in
    let numbers = c.args.numbers.now in
    record {
      part = one_side (corners_at vertices numbers) c.loop-i.i (of_corner c.corner_at-a.result) (of_corner c.corner_at-b.result) (of_area c.loop-i.area) (of_area c.with_side-area.result)
          (omega (arith, c.loop-i-test.true, long_corners vertices numbers)) c.corner_at-a.ensures c.corner_at-b.ensures c.with_side-area.ensures.value c.loop-i.invariant.part;
      size = wider c.loop-i.i (of_area c.with_side-area.result) (c.with_side-area.ensures.size _ c.loop-i.invariant.size);
    }

pub returns-clause-value : goal.returns-clause-value
returns-clause-value c =
    let vertices : List Triple = map of_corner c.args.vertices.now in
    let numbers = c.args.numbers.now in
    all_sides (corners_at vertices numbers) c.loop-i.i (of_area c.loop-i.area) (omega (arith, c.loop-i-test.false, long_corners vertices numbers)) c.loop-i.invariant.part

pub returns-clause-size : goal.returns-clause-size
returns-clause-size c = widest c.loop-i.i (of_area c.loop-i.area) (omega (arith, c.loop-i.auto.i-end, c.requires.few)) c.loop-i.invariant.size
