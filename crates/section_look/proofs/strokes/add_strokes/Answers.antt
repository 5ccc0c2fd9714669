use Rattle.std.proofs.Common.{List, [], ◌∷◌, ◌++◌, sym, subst, ap, ◌∙◌, append-nil}
use Rattle.std.specs.List.{AllZip}
use Rattle.std.proofs.lemmas.List.{append_assoc, take_all}
use Rattle.lattice.specs.declared.pieces.HatchLine.{HatchLine}
use Rattle.line_merge.proofs.Zips.{zip_more}
use Rattle.drawing.specs.Strokes.{IsHatchStrokeOn}
use Rattle.sheet_plan.specs.declared.sheet.Stroke.{Stroke}
use Rattle.section_look.proofs.strokes.add_strokes.Goals as goal

pub loop-line-init : goal.loop-line-init
loop-line-init c = ([], sym (append-nil c.args.strokes.now.items), tt)

pub loop-line-preserved : goal.loop-line-preserved
loop-line-preserved c =
    let y = c.stroke_on.result in
    let (here, added, zip) = c.loop-line.invariant in (
      here ++ y ∷ [],
      c.in_ok-push.ensures.items ∙ ap (λ (ys : List Stroke). ys ++ y ∷ []) added ∙ append_assoc c.args.strokes.now.items here (y ∷ []),
      zip_more (IsHatchStrokeOn c.args.sheet.now c.args.view) c.args.lines.now here c.loop-line.line-index c.line-item.result y c.loop-line-test.true c.line-item.is zip c.stroke_on.ensures,
    )

pub returns : goal.returns
returns c =
    let (here, added, zip) = c.loop-line.invariant in (
      here,
      added,
      subst (λ (xs : List HatchLine). AllZip (IsHatchStrokeOn c.args.sheet.now c.args.view) xs here) (take_all c.loop-line.line-index c.args.lines.now c.loop-line-test.false) zip,
    )
