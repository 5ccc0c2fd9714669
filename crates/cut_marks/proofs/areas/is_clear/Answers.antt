use Rattle.std.proofs.Common.{◌≡◌, rules, FitsSigned, Bool, sym, ap, ◌∙◌}
use Rattle.std.specs.Int.{w128}
use Rattle.std.specs.Prelude.{◌||◌}
use Rattle.std.proofs.lemmas.Int.{to_z-of_z}
use Rattle.cut_marks.specs.Areas.{are_separate}
use Rattle.cut_marks.proofs.areas.is_clear.Goals as goal

pub returns-else-are_separate : goal.returns-else-are_separate
returns-else-are_separate c =
    let a = c.args.a.now in
    let b = c.args.b.now in
    let a_left : FitsSigned w128 a.left = search rules in
    let a_right : FitsSigned w128 a.right = search rules in
    let a_top : FitsSigned w128 a.top = search rules in
    let a_bottom : FitsSigned w128 a.bottom = search rules in
    let b_left : FitsSigned w128 b.left = search rules in
    let b_right : FitsSigned w128 b.right = search rules in
    let b_top : FitsSigned w128 b.top = search rules in
    let b_bottom : FitsSigned w128 b.bottom = search rules in
    let across : c.are_separate.result ≡ are_separate a.left a.right b.left b.right = simp to_z-of_z at c.are_separate.ensures in
    let down : c.are_separate-else-are_separate.result ≡ are_separate a.top a.bottom b.top b.bottom = simp to_z-of_z at c.are_separate-else-are_separate.ensures in
    down ∙ ap (λ (v : Bool). v || are_separate a.top a.bottom b.top b.bottom) (sym c.if-are_separate.false ∙ across)
