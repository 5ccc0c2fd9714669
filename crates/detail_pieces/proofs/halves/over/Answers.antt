use Rattle.std.proofs.Common.{rules, ◌^◌, ◌∙◌, sym, FitsSigned}
use Rattle.std.specs.Int.{w64, w128}
use Rattle.std.proofs.lemmas.Int.{to_z-of_z}
use Rattle.integers.proofs.Worth.{known, pass, minus}
use Rattle.detail_pieces.specs.inner.Sides.{over_by}
use Rattle.detail_pieces.proofs.halves.over.Goals as goal

pub returns-in-Least : goal.returns-in-Least
returns-in-Least c =
    let at_fits : FitsSigned w64 c.args.side.now.at = search rules in
    let w_fits : FitsSigned w128 c.args.p.now.w = search rules in
    let border = simp to_z-of_z at c.border-border.ensures.value in
    (pass w128 (minus (pass w128 (known c.seen-seen.result (2 ^ 100) c.seen-seen.ensures.size) tt) (pass w128 (known c.border-border.result (2 ^ 110) c.border-border.ensures.size) tt)) tt).is
    ∙ (λ i. over_by (sym c.in-Least.is i) (c.seen-seen.ensures.value i) (border i))

pub returns-in-Most : goal.returns-in-Most
returns-in-Most c =
    let at_fits : FitsSigned w64 c.args.side.now.at = search rules in
    let w_fits : FitsSigned w128 c.args.p.now.w = search rules in
    let border = simp to_z-of_z at c.border-border.ensures.value in
    (pass w128 (minus (pass w128 (known c.border-border.result (2 ^ 110) c.border-border.ensures.size) tt) (pass w128 (known c.seen-seen.result (2 ^ 100) c.seen-seen.ensures.size) tt)) tt).is
    ∙ (λ i. over_by (sym c.in-Most.is i) (c.seen-seen.ensures.value i) (border i))
