use Rattle.std.proofs.Common.{◌++◌, ◌∙◌, List, [], ◌∷◌, length, ap, sym}
use Rattle.std.proofs.lemmas.Bool.{eqb-false}
use Rattle.sheet_page.specs.declared.page.Item.{Item}
use Rattle.sheet_page.proofs.LabelTexts.{one_label, one_inside}
use Rattle.sheet_page.proofs.labels.add_text.Goals as goal

pub returns-clause-items : goal.returns-clause-items
returns-clause-items c =
    let one = one_label c.args.corner.now.at c.args.space.now c.args.text.now c.in_ok-fitted.fitted (eqb-false (length c.args.text.now) 0 (sym c.is_empty.ensures ∙ c.if-is_empty.false)) c.in_ok-fitted.ensures in
    c.in_ok-push.ensures.items ∙ ap (λ (label : Item). c.args.items.now.items ++ label ∷ []) c.label_in.ensures ∙ sym (ap (λ (labels : List Item). c.args.items.now.items ++ labels) one)

pub returns-clause-inside : goal.returns-clause-inside
returns-clause-inside c = one_inside c.args.corner.now.at c.args.space.now c.args.text.now c.in_ok-fitted.fitted (eqb-false (length c.args.text.now) 0 (sym c.is_empty.ensures ∙ c.if-is_empty.false)) c.in_ok-fitted.ensures
