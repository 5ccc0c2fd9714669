use Rattle.std.proofs.Common.{◌≡◌, ◌++◌, rules, ap, ◌∙◌, FitsSigned}
use Rattle.std.specs.Int.{w64}
use Rattle.std.proofs.lemmas.Int.{to_z-of_z}
use Rattle.svg_page.specs.Svg.{millimetres, opening}
use Rattle.sheet_page.specs.Svg.{classes, paper}
use Rattle.sheet_page.proofs.Written.{four_parts}
use Rattle.sheet_page.proofs.svg_text.add_head.Goals as goal

pub returns : goal.returns
returns c =
    let width_fits = c.ranges.width in
    let height_fits = c.ranges.height in
    let w_fits : FitsSigned w64 c.div_euclid-w.result = search rules in
    let h_fits : FitsSigned w64 c.div_euclid-h.result = search rules in
    let w_is : c.div_euclid-w.result ≡ millimetres c.args.width = simp to_z-of_z at c.div_euclid-w.ensures in
    let h_is : c.div_euclid-h.result ≡ millimetres c.args.height = simp to_z-of_z at c.div_euclid-h.ensures in
    let first = c.as_bytes.ensures.value ∙ (simp to_z-of_z at c.in_ok-opening.ensures) ∙ (λ i. opening (w_is i) (h_is i) c.args.width c.args.height) in
    let second = c.as_bytes-2.ensures.value ∙ (simp to_z-of_z at c.in_ok-paper.ensures) ∙ (λ i. paper (w_is i) (h_is i)) in
    let third = c.as_bytes-3.ensures.value ∙ c.in_ok-classes.ensures ∙ ap classes (simp to_z-of_z at c.pens_of.ensures) in
    let fourth = c.as_bytes-4.ensures.value ∙ (simp to_z-of_z at c.in_ok-ground.ensures) in
    four_parts c.args.text.now.items _ _ _ _ _ _ _ _
    (c.in_ok-extend_from_slice.ensures.items ∙ (λ i. c.args.text.now.items ++ first i))
    (c.in_ok-extend_from_slice-2.ensures.items ∙ (λ i. c.extend_from_slice.new.self.items ++ second i))
    (c.in_ok-extend_from_slice-3.ensures.items ∙ (λ i. c.extend_from_slice-2.new.self.items ++ third i))
    (c.in_ok-extend_from_slice-4.ensures.items ∙ (λ i. c.extend_from_slice-3.new.self.items ++ fourth i))
