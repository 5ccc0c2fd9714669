use Rattle.std.proofs.Common.{map, sym, subst}
use Rattle.std.specs.Prelude.{IfOk}
use Rattle.lattice.specs.Creases.{fraction_of}
use Rattle.lattice.specs.Cuts.{plane_of}
use Rattle.lattice.specs.declared.pieces.ViewSpec.{ViewSpec}
use Rattle.solid_mesh.specs.Solids.{solid_part}
use Rattle.drawn_strips.specs.Scenes.{AreViewStrips}
use Rattle.piece_verify.proofs.slow_views.slow_strips.Goals as goal

pub returns-in-Section : goal.returns-in-Section
returns-in-Section c =
    subst (λ (spec : ViewSpec). IfOk c.cut_strips.result (λ strips. AreViewStrips spec (fraction_of c.args.crease) (solid_part c.args.solid.now) (map plane_of c.args.cuts.now) strips.items))
    (sym c.in-Section.is) c.cut_strips.ensures
