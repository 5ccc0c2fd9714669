use Rattle.std.proofs.Common.{◌+◌, ◌++◌, ◌∷◌, [], List, take, sym, ap, subst, ◌∙◌}
use Rattle.std.specs.List.{AllZip}
use Rattle.std.proofs.lemmas.List.{take_all, take_more}
use Rattle.lattice.specs.declared.pieces.HatchLine.{HatchLine}
use Rattle.drawing.specs.Strokes.{IsHatchStrokeOn}
use Rattle.sheet_plan.specs.declared.sheet.Stroke.{Stroke}
use Rattle.section_look.specs.HatchStrokes.{AreHatchStrokes}
use Rattle.section_look.specs.declared.looks.SectionLook.{SectionLook}
use Rattle.section_look.proofs.StrokeLooks.{look_more, all_in_range}
use Rattle.section_look.proofs.strokes.hatch_strokes.Goals as goal

pub loop-look-preserved : goal.loop-look-preserved
loop-look-preserved c =
    let sheet = c.args.sheet.now in
    let looks = c.args.looks.now in
    let i = c.loop-look.look-index in
    let (here, added, zip) = c.in_ok-add_strokes.ensures in
    let look = c.look-item.result in
    let of_look = subst (λ (lines : List HatchLine). AllZip (IsHatchStrokeOn sheet look.view) lines here) c.deref.ensures.value zip in
    let more = look_more sheet (take i looks) look c.loop-look.strokes.items here c.loop-look.invariant of_look in
    subst (λ (ys : List Stroke). AreHatchStrokes sheet (take (i + 1) looks) ys) (sym {A = List Stroke} added)
    (subst (λ (ls : List SectionLook). AreHatchStrokes sheet ls (c.loop-look.strokes.items ++ here)) (sym {A = List SectionLook} (take_more looks i look c.loop-look-test.true ∙ ap (λ (x : SectionLook). take i looks ++ x ∷ []) (sym {A = SectionLook} c.look-item.is))) more)

pub returns-clause-strokes : goal.returns-clause-strokes
returns-clause-strokes c =
    subst (λ (looks : List SectionLook). AreHatchStrokes c.args.sheet.now looks c.loop-look.strokes.items) (take_all c.loop-look.look-index c.args.looks.now c.loop-look-test.false) c.loop-look.invariant

pub returns-clause-in_range : goal.returns-clause-in_range
returns-clause-in_range c = all_in_range c.args.sheet.now _ _ c.loop-look.invariant
