use Rattle.std.proofs.Common.{[], ◌∷◌, refl, sym, subst, append-nil}
use Rattle.lattice.specs.declared.pieces.ViewSpec.{ViewSpec}
use Rattle.solid_mesh.specs.Solids.{solid_part}
use Rattle.section_look.specs.Looks.{LooksOfView}
use Rattle.section_look.proofs.looks.add_look.Goals as goal

pub returns-in-Plain : goal.returns-in-Plain
returns-in-Plain c = ([], sym (append-nil c.args.looks.now.items), subst (λ (v : ViewSpec). LooksOfView c.args.sheet.now (solid_part c.args.solid.now) c.args.view v []) (sym c.in-Plain.is) refl)

pub returns-in_ok-push-in-Section : goal.returns-in_ok-push-in-Section
returns-in_ok-push-in-Section c =
    let look = c.in_ok-look_of-in-Section.field-0 in (
      look ∷ [],
      c.in_ok-push-in-Section.ensures.items,
      subst (λ (v : ViewSpec). LooksOfView c.args.sheet.now (solid_part c.args.solid.now) c.args.view v (look ∷ [])) (sym c.in-Section.is) (look, refl, c.in_ok-look_of-in-Section.ensures),
    )
