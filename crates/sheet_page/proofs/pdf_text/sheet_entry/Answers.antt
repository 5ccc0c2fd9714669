use Rattle.std.proofs.Common.{◌≡◌, string_bytes}
use Rattle.std.proofs.lemmas.Int.{to_z-of_z}
use Rattle.sheet_page.specs.PdfContent.{points}
use Rattle.sheet_page.proofs.pdf_text.sheet_entry.Goals as goal

pub returns : goal.returns
returns c =
    let width_fits = c.ranges.width in
    let height_fits = c.ranges.height in
    let width : string_bytes c.in_ok-across.across ≡ points c.args.width = simp to_z-of_z at c.in_ok-across.ensures in
    let height : string_bytes c.in_ok-down.down ≡ points c.args.height = simp to_z-of_z at c.in_ok-down.ensures in
    rw (width, height) at c.format.ensures.ok
