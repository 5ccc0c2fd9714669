use Rattle.drawing.proofs.StrokeLists.{place_there}
use Rattle.drawing.proofs.strokes.HatchLineStroked.stroke_on.Goals as goal

pub returns : goal.returns
returns c =
    let (place, at) = place_there c.args.sheet.now c.args.number c.requires in
    (place, at, c.hatch_stroke.ensures place at)
