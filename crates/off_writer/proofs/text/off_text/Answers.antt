use Rattle.std.proofs.Common.{◌≡◌, ◌++◌, ◌∙◌, ℕ, List, length, Ok, ap, sym, subst}
use Rattle.std.specs.List.{flat_map}
use Rattle.dec_text.specs.declared.number.Length.TheVariants.{Millimetre}
use Rattle.part_input.specs.Reading.{ReadsPartText}
use Rattle.off_writer.specs.OffTexts.{corner_line, triangle_line, head_text, off_of, raw_of}
use Rattle.off_writer.proofs.PartTexts.{part_read}
use Rattle.off_writer.proofs.Sizes.{off_short}
use Rattle.off_writer.proofs.text.off_text.Goals as goal

written : (c : goal.In_ok-push_triangles) → c.push_triangles.new.text.items ≡ off_of c.args.decimals c.args.corners.now c.args.triangles.now
written c =
    let corners = c.args.corners.now in
    let triangles = c.args.triangles.now in
    c.in_ok-push_triangles.ensures ∙ ap (λ (text : List ℕ). text ++ flat_map triangle_line triangles)
    (c.in_ok-push_corners.ensures ∙ ap (λ (text : List ℕ). text ++ flat_map (corner_line c.args.decimals) corners)
    (c.in_ok-push_head.ensures ∙ ap (λ (text : List ℕ). text ++ head_text (length corners) (length triangles)) c.new-text.ensures.items))

pub returns-clause-read : goal.returns-clause-read
returns-clause-read c =
    let corners = c.args.corners.now in
    let triangles = c.args.triangles.now in
    subst (λ (text : List ℕ). ReadsPartText c.args.decimals Millimetre text (Ok (raw_of corners triangles))) (sym (written c))
    (part_read c.args.decimals corners triangles c.requires.few_corners c.requires.few_triangles c.requires.in_range)

pub returns-clause-short : goal.returns-clause-short
returns-clause-short c =
    rw (written c) (off_short c.args.decimals c.args.corners.now c.args.triangles.now c.requires.decimals c.requires.few_corners c.requires.few_triangles c.requires.in_range)
