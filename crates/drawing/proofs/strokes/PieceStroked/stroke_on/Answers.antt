use Rattle.drawing.proofs.StrokeLists.{place_there}
use Rattle.drawing.proofs.strokes.PieceStroked.stroke_on.Goals as goal

pub returns : goal.returns
returns c =
    let (place, at) = place_there c.args.sheet.now c.args.number c.requires in
    (place, at, c.stroke.ensures place at)
