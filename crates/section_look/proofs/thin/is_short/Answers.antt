use Rattle.lattice.specs.Points.{of_spot}
use Rattle.section_look.proofs.Squares.{near_on}
use Rattle.section_look.proofs.thin.is_short.Goals as goal

pub returns : goal.returns
returns c place at =
    let a = c.shown-a.result in
    let b = c.shown-b.result in
    near_on c.args.sheet.now place (of_spot c.args.line.now.a) (of_spot c.args.line.now.b) a.x a.y b.x b.y (c.shown-a.ensures place at) (c.shown-b.ensures place at) c.are_near.result c.are_near.ensures
