use Rattle.std.proofs.Common.{◌≡◌, string_bytes}
use Rattle.std.proofs.lemmas.Int.{to_z-of_z}
use Rattle.sheet_page.specs.PdfContent.{points}
use Rattle.sheet_page.proofs.pdf_content.beginning.Goals as goal

pub returns : goal.returns
returns c =
    let fits = c.ranges.height in
    let height : string_bytes c.in_ok-points.points ≡ points c.args.height = simp to_z-of_z at c.in_ok-points.ensures in
    rw height at c.format.ensures.ok
