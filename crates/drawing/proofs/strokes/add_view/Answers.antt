use Rattle.std.proofs.Common.{List, ◌++◌, refl, subst, ap, ◌∙◌}
use Rattle.std.specs.List.{AllZip}
use Rattle.std.proofs.lemmas.List.{append_assoc}
use Rattle.lattice.specs.declared.pieces.HatchLine.{HatchLine}
use Rattle.lattice.specs.declared.pieces.Piece.{Piece}
use Rattle.sheet_plan.specs.declared.sheet.Stroke.{Stroke}
use Rattle.drawing.specs.Strokes.{IsStrokeOn, IsHatchStrokeOn}
use Rattle.drawing.proofs.strokes.add_view.Goals as goal

pub returns : goal.returns
returns c =
    let sheet = c.args.sheet.now in
    let number = c.args.number in
    let old = c.args.strokes.now.items in
    let (pieces, added, zip) = c.in_ok-add_strokes.ensures in
    let (hatches, added_too, zip_too) = c.in_ok-add_strokes-2.ensures in (
      pieces ++ hatches,
      added_too ∙ ap (λ (ys : List Stroke). ys ++ hatches) added ∙ append_assoc old pieces hatches,
      record {
        of_pieces = pieces;
        of_hatches = hatches;
        together = refl;
        pieces = subst (λ (ps : List Piece). AllZip (IsStrokeOn sheet number) ps pieces) c.deref.ensures.value zip;
        hatches = subst (λ (ls : List HatchLine). AllZip (IsHatchStrokeOn sheet number) ls hatches) c.deref-2.ensures.value zip_too;
      },
    )
