use Rattle.std.proofs.Common.{rules, ap, ◌∙◌, FitsSigned}
use Rattle.std.specs.Int.{w64}
use Rattle.std.proofs.lemmas.Int.{to_z-of_z}
use Rattle.svg_page.specs.Svg.{head, title_line}
use Rattle.svg_page.proofs.Pages.{before_views}
use Rattle.svg_page.proofs.page.begin_page.Goals as goal

pub returns : goal.returns
returns c =
    let sheet = c.args.sheet.now in
    let width_fits : FitsSigned w64 sheet.width = search rules in
    let height_fits : FitsSigned w64 sheet.height = search rules in
    before_views c.new-text.result.items c.extend_from_slice.new.self.items c.add_title.new.text.items c.as_bytes.result.now (head sheet.width sheet.height)
    (title_line sheet.height c.as_str.result.now) (title_line sheet.height c.args.title.now) c.new-text.ensures.items c.in_ok-extend_from_slice.ensures.items
    (c.as_bytes.ensures.value ∙ (simp to_z-of_z at c.in_ok-head.ensures)) (simp to_z-of_z at c.in_ok-add_title.ensures) (ap (title_line sheet.height) c.as_str.ensures.same)
