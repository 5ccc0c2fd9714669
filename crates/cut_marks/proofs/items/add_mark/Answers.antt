use Rattle.std.proofs.Common.{[], ◌∷◌, ◌++◌, ◌∙◌, ap}
use Rattle.sheet_page.specs.declared.page.Item.{Item}
use Rattle.cut_marks.specs.Items.{end_items}
use Rattle.cut_marks.proofs.Parts.{three_parts}
use Rattle.cut_marks.proofs.items.add_mark.Goals as goal

pub returns : goal.returns
returns c =
    let m = c.args.mark.now in
    three_parts c.args.items.now.items _ _ _ (c.rule_to.result ∷ []) (end_items m m.first) (end_items m m.second) c.in_ok-push.ensures.items c.in_ok-add_end.ensures c.in_ok-add_end-2.ensures
    ∙ ap (λ (i : Item). c.args.items.now.items ++ ((i ∷ []) ++ end_items m m.first ++ end_items m m.second)) c.rule_to.ensures
