use Rattle.std.proofs.Common.{◌≡◌, ◌++◌, ◌≤◌, length, rules, subst, FitsSigned}
use Rattle.std.specs.Int.{w64}
use Rattle.std.specs.List.{flat_map}
use Rattle.std.proofs.lemmas.Int.{to_z-of_z}
use Rattle.sheet_page.specs.Pens.{pens_of}
use Rattle.sheet_page.specs.PdfContent.{beginning, item_lines}
use Rattle.sheet_page.specs.declared.pens.Pens.{Pens}
use Rattle.sheet_page.proofs.Written.{all_written}
use Rattle.sheet_page.proofs.pdf_content.content.Goals as goal

pub returns : goal.returns
returns c =
    let page = c.args.page.now in
    let pens = c.pens_of-pens.result in
    let width_fits : FitsSigned w64 page.width = search rules in
    let height_fits : FitsSigned w64 page.height = search rules in
    let pens_are : pens ≡ pens_of page.width page.height = simp to_z-of_z at c.pens_of-pens.ensures in
    let last : length page.items.items ≤ c.loop-item.item-index = search rules in
    let all = all_written (item_lines pens) page.items.items c.loop-item.item-index c.loop-item.text.items (beginning page.height) c.loop-item.invariant last in
    subst (λ (p : Pens). c.loop-item.text.items ≡ beginning page.height ++ flat_map (item_lines p) page.items.items) pens_are all
