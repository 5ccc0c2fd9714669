use Rattle.lattice.specs.Cuts.{plane_of}
use Rattle.section_look.specs.Spacings.{spacing_at}
use Rattle.section_look.proofs.Chosen.{chosen_first, chosen_later, chosen_last}
use Rattle.section_look.proofs.Marks.{match_true, match_false}
use Rattle.section_look.proofs.spacings.chosen_spacing.Goals as goal

pub returns-then-wide_does-clause-chosen : goal.returns-then-wide_does-clause-chosen
returns-then-wide_does-clause-chosen c =
    chosen_first (plane_of c.args.cut.now) c.args.regions.now c.args.marks.now c.spacing_at-wide.result _ _ c.spacing_at-wide.ensures.value (match_true c.in_ok-wide_does.wide_does _ _ c.in_ok-wide_does.ensures c.if-wide_does.true)

pub returns-then-close_does-clause-chosen : goal.returns-then-close_does-clause-chosen
returns-then-close_does-clause-chosen c =
    let p = plane_of c.args.cut.now in
    let rs = c.args.regions.now in
    let ms = c.args.marks.now in
    chosen_later p rs ms c.spacing_at-wide.result _ _ _ c.spacing_at-wide.ensures.value (match_false c.in_ok-wide_does.wide_does _ _ c.in_ok-wide_does.ensures c.if-wide_does.false)
    (chosen_first p rs ms c.spacing_at-close.result _ _ c.spacing_at-close.ensures.value (match_true c.in_ok-close_does.close_does _ _ c.in_ok-close_does.ensures c.if-close_does.true))

pub returns-then-closer_does-clause-chosen : goal.returns-then-closer_does-clause-chosen
returns-then-closer_does-clause-chosen c =
    let p = plane_of c.args.cut.now in
    let rs = c.args.regions.now in
    let ms = c.args.marks.now in
    chosen_later p rs ms c.spacing_at-wide.result _ _ _ c.spacing_at-wide.ensures.value (match_false c.in_ok-wide_does.wide_does _ _ c.in_ok-wide_does.ensures c.if-wide_does.false)
    (chosen_later p rs ms c.spacing_at-close.result _ _ _ c.spacing_at-close.ensures.value (match_false c.in_ok-close_does.close_does _ _ c.in_ok-close_does.ensures c.if-close_does.false)
    (chosen_first p rs ms c.spacing_at-closer.result _ _ c.spacing_at-closer.ensures.value (match_true c.in_ok-closer_does.closer_does _ _ c.in_ok-closer_does.ensures c.if-closer_does.true)))

pub returns-clause-chosen : goal.returns-clause-chosen
returns-clause-chosen c =
    let p = plane_of c.args.cut.now in
    let rs = c.args.regions.now in
    let ms = c.args.marks.now in
    chosen_later p rs ms c.spacing_at-wide.result _ _ _ c.spacing_at-wide.ensures.value (match_false c.in_ok-wide_does.wide_does _ _ c.in_ok-wide_does.ensures c.if-wide_does.false)
    (chosen_later p rs ms c.spacing_at-close.result _ _ _ c.spacing_at-close.ensures.value (match_false c.in_ok-close_does.close_does _ _ c.in_ok-close_does.ensures c.if-close_does.false)
    (chosen_later p rs ms c.spacing_at-closer.result _ _ _ c.spacing_at-closer.ensures.value (match_false c.in_ok-closer_does.closer_does _ _ c.in_ok-closer_does.ensures c.if-closer_does.false)
    (chosen_last p rs ms c.spacing_at.result _ c.spacing_at.ensures.value)))
