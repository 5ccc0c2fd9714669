use Rattle.std.proofs.Common.{◌≡◌, ℕ, List, ◌++◌, refl, sym, subst, ap, ◌∙◌, append_assoc}
use Rattle.std.specs.List.{AllZip, flat_map}
use Rattle.std.proofs.lemmas.List.Concat.{flat_map-append}
use Rattle.lattice.specs.declared.pieces.HatchLine.{HatchLine}
use Rattle.lattice.specs.declared.pieces.Piece.{Piece}
use Rattle.svg_page.specs.Svg.{stroke_line, group_begin, group_end}
use Rattle.drawing.specs.Strokes.{IsStrokeOn, IsHatchStrokeOn}
use Rattle.draw_core.proofs.pages.add_view_group.Goals as goal

grouped : (old begin first second end : List ℕ) → (((old ++ begin) ++ first) ++ second) ++ end ≡ old ++ ((begin ++ (first ++ second)) ++ end)
grouped old begin first second end = simp append_assoc

pub returns : goal.returns
returns c =
    let sheet = c.args.sheet.now in
    let number = c.args.number in
    let old = c.args.text.now.items in
    let (pieces, added, zip) = c.in_ok-add_lines.ensures in
    let (hatches, added_too, zip_too) = c.in_ok-add_lines-2.ensures in (
      pieces ++ hatches,
      c.in_ok-end_group.ensures
          ∙ ap (λ (t : List ℕ). t ++ group_end) (added_too ∙ ap (λ (t : List ℕ). t ++ flat_map stroke_line hatches) (added ∙ ap (λ (t : List ℕ). t ++ flat_map stroke_line pieces) c.in_ok-begin_group.ensures))
          ∙ grouped old group_begin (flat_map stroke_line pieces) (flat_map stroke_line hatches) group_end
          ∙ ap (λ (t : List ℕ). old ++ ((group_begin ++ t) ++ group_end)) (sym (flat_map-append stroke_line pieces hatches)),
      record {
        of_pieces = pieces;
        of_hatches = hatches;
        together = refl;
        pieces = subst (λ (ps : List Piece). AllZip (IsStrokeOn sheet number) ps pieces) c.deref.ensures.value zip;
        hatches = subst (λ (ls : List HatchLine). AllZip (IsHatchStrokeOn sheet number) ls hatches) c.deref-2.ensures.value zip_too;
      },
    )
