use Rattle.std.proofs.Common.{rules, w8, sym, ◌∙◌, FitsSigned}
use Rattle.std.proofs.lemmas.Int.{to_z-of_z}
use Rattle.edge_pick.proofs.edges.is_outline.Goals as goal

pub returns : goal.returns
returns c e n =
    let h = c.edge-numbers.ensures.each e n in
    let left = c.sign.ensures e.left h.left in
    let right = c.sign-2.ensures e.right h.right in
    let left_fits : FitsSigned w8 c.sign.result = search rules in
    let right_fits : FitsSigned w8 c.sign-2.result = search rules in
    let differ = simp to_z-of_z at c.differ.ensures in
    (λ t same. differ.0 t (left ∙ same ∙ sym right), λ apart. differ.1 (λ same. apart (sym left ∙ same ∙ right)))
