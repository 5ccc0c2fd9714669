use Rattle.std.proofs.Common.{sym, ◌∙◌}
use Rattle.std.proofs.lemmas.Int.{to_z-of_z}
use Rattle.svg_page.proofs.Pages.{title_end}
use Rattle.svg_page.proofs.page.add_title.Goals as goal

pub returns : goal.returns
returns c =
    let height_fits = c.ranges.height in
    title_end c.args.height c.args.title.now c.args.text.now.items _ _ _ _ _ (sym c.is_empty.ensures ∙ c.if-is_empty.false)
    c.in_ok-extend_from_slice.ensures.items (c.as_bytes.ensures.value ∙ (simp to_z-of_z at c.in_ok-before_title.ensures))
    c.in_ok-add_escaped.ensures c.in_ok-extend_from_slice-2.ensures.items c.as_bytes-2.ensures.value
