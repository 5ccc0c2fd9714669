use Rattle.std.proofs.Common.{◌++◌, ap, sym, ◌∙◌, add-one}
use Rattle.sheet_summary.specs.NearLines.{near_lines}
use Rattle.sheet_summary.proofs.near.near_lines.Goals as goal

pub loop-view-preserved : goal.loop-view-preserved
loop-view-preserved c =
    let line = c.deref.ensures ∙ c.in_ok-near_line.ensures in
    c.in_ok-push_str.ensures.bytes
    ∙ (λ i. c.loop-view.invariant i ++ line i)
    ∙ ap (near_lines c.args.scale.now c.args.items.now) (sym (add-one c.loop-view.view))
