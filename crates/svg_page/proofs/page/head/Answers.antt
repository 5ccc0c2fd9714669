use Rattle.std.proofs.Common.{◌≡◌, ◌++◌, rules, ◌∙◌, FitsSigned}
use Rattle.std.specs.Int.{w64}
use Rattle.std.proofs.lemmas.Int.{to_z-of_z}
use Rattle.svg_page.specs.Svg.{millimetres, opening}
use Rattle.svg_page.proofs.page.head.Goals as goal

pub returns : goal.returns
returns c =
    let width_fits = c.ranges.width in
    let height_fits = c.ranges.height in
    let w_fits : FitsSigned w64 c.div_euclid-w.result = search rules in
    let h_fits : FitsSigned w64 c.div_euclid-h.result = search rules in
    let w_is : c.div_euclid-w.result ≡ millimetres c.args.width = simp to_z-of_z at c.div_euclid-w.ensures in
    let h_is : c.div_euclid-h.result ≡ millimetres c.args.height = simp to_z-of_z at c.div_euclid-h.ensures in
    let first = (simp to_z-of_z at c.in_ok-text.ensures) ∙ (λ i. opening (w_is i) (h_is i) c.args.width c.args.height) in
    let second = c.as_str.ensures.value ∙ (simp to_z-of_z at c.in_ok-frame.ensures) in
    c.in_ok-push_str.ensures.bytes ∙ (λ i. first i ++ second i)
