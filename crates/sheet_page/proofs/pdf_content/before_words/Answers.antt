use Rattle.std.proofs.Common.{rules, FitsSigned}
use Rattle.std.specs.Int.{w64}
use Rattle.std.proofs.lemmas.Int.{to_z-of_z}
use Rattle.sheet_page.proofs.pdf_content.before_words.Goals as goal

pub returns : goal.returns
returns c =
    let x_fits : FitsSigned w64 c.args.label.now.x = search rules in
    let y_fits : FitsSigned w64 c.args.label.now.y = search rules in
    simp to_z-of_z at c.format.ensures.ok
