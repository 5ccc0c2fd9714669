use Rattle.std.proofs.Common.{rules, lit≤}
use Rattle.cut_marks.proofs.AroundPlaces.{around_place}
use Rattle.cut_marks.proofs.areas.line_spot.Goals as goal

pub returns : goal.returns
returns c = around_place c.args.place.now (search rules) (search rules) c.from-x.result c.from-y.result c.from-x.ensures c.from-y.ensures 20 20 20 20 (lit≤ tt) (lit≤ tt) (lit≤ tt) (lit≤ tt)
