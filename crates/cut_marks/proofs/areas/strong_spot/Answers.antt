use Rattle.std.proofs.Common.{rules, lit≤}
use Rattle.cut_marks.proofs.AroundPlaces.{around_place}
use Rattle.cut_marks.proofs.areas.strong_spot.Goals as goal

pub returns : goal.returns
returns c = around_place c.args.place.now (search rules) (search rules) c.from-x.result c.from-y.result c.from-x.ensures c.from-y.ensures 55 55 55 55 (lit≤ tt) (lit≤ tt) (lit≤ tt) (lit≤ tt)
