use Rattle.std.proofs.Common.{◌∙◌, sym}
use Rattle.cut_plane.proofs.AmidPlaces.{amid_of_less, amid_of_equal, amid_of_greater}
use Rattle.cut_plane.proofs.places.is_amid.Goals as goal

pub returns-in-Less : goal.returns-in-Less
returns-in-Less c =
    let x = c.args.x.now in
    let y = c.args.y.now in
    let z = c.args.z.now in
    amid_of_less x.num x.den y.num y.den z.num z.den (sym c.cmp.ensures ∙ c.in-Less.is) c.le.result c.le.ensures

pub returns-in-Equal : goal.returns-in-Equal
returns-in-Equal c =
    let x = c.args.x.now in
    let y = c.args.y.now in
    let z = c.args.z.now in
    amid_of_equal x.num x.den y.num y.den z.num z.den (sym c.cmp.ensures ∙ c.in-Equal.is)

pub returns-in-Greater : goal.returns-in-Greater
returns-in-Greater c =
    let x = c.args.x.now in
    let y = c.args.y.now in
    let z = c.args.z.now in
    amid_of_greater x.num x.den y.num y.den z.num z.den (sym c.cmp.ensures ∙ c.in-Greater.is) c.le-in-Greater.result c.le-in-Greater.ensures
