use Rattle.std.proofs.Common.{rules, lit≤}
use Rattle.cut_marks.proofs.AroundPlaces.{around_place}
use Rattle.cut_marks.proofs.areas.letter_area.Goals as goal

pub returns : goal.returns
returns c = around_place c.args.place.now (search rules) (search rules) c.from-x.result c.from-y.result c.from-x.ensures c.from-y.ensures 240 240 400 40 (lit≤ tt) (lit≤ tt) (lit≤ tt) (lit≤ tt)
