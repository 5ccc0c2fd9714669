use Rattle.std.proofs.Common.{List, Bool, sym, subst, ◌∙◌}
use Rattle.covered_paths.specs.Drawn.{AreDrawn}
use Rattle.covered_paths.specs.inner.Marks.{marked}
use Rattle.covered_paths.proofs.DrawnPaths.{marked_are}
use Rattle.covered_paths.proofs.sheets.drawn_of.Goals as goal

pub returns : goal.returns
returns c =
    let paths = c.args.paths.now in
    let shown = c.args.shown.now in
    let lines = c.in_ok-lines.lines.items in
    let drawn = c.deref.ensures.value ∙ c.in_ok-drawn.ensures.exact in
    subst (λ (xs : List Bool). AreDrawn paths shown xs) (sym (c.mark.ensures ∙ (λ i. marked (c.in_ok-flags.ensures i) (drawn i)))) (marked_are paths shown lines c.in_ok-lines.ensures c.requires.as_many)
