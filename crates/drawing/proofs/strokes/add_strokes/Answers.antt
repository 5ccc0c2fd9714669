use Rattle.std.proofs.Common.{List, [], ◌∷◌, ◌++◌, sym, subst, ap, ◌∙◌, append-nil}
use Rattle.std.specs.List.{AllZip}
use Rattle.std.proofs.lemmas.List.{append_assoc, take_all}
use Rattle.line_merge.proofs.Zips.{zip_more}
use Rattle.sheet_plan.specs.declared.sheet.Stroke.{Stroke}
use Rattle.drawing.proofs.strokes.add_strokes.Goals as goal

pub loop-one-init : goal.loop-one-init
loop-one-init g c = ([], sym (append-nil c.args.strokes.now.items), tt)

pub loop-one-preserved : goal.loop-one-preserved
loop-one-preserved g c =
    let y = c.stroke_on.result in
    let (here, added, zip) = c.loop-one.invariant in (
      here ++ y ∷ [],
      c.in_ok-push.ensures.items ∙ ap (λ (ys : List Stroke). ys ++ y ∷ []) added ∙ append_assoc c.args.strokes.now.items here (y ∷ []),
      zip_more (g.S.Stroked.has_stroke_on c.args.sheet.now c.args.number) c.args.shown.now here c.loop-one.one-index c.one-item.result y c.loop-one-test.true c.one-item.is zip c.stroke_on.ensures,
    )

pub returns : goal.returns
returns g c =
    let (here, added, zip) = c.loop-one.invariant in (
      here,
      added,
      subst (λ (xs : List g.row.S.Denot). AllZip (g.S.Stroked.has_stroke_on c.args.sheet.now c.args.number) xs here) (take_all c.loop-one.one-index c.args.shown.now c.loop-one-test.false) zip,
    )
