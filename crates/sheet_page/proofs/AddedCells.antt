-- What cells say, added one after the other.
use Rattle.std.proofs.Common.{◌≡◌, List, ℕ, [], ◌∷◌, ◌++◌, ap, sym, subst, ◌∙◌, append_assoc}
use Rattle.std.specs.List.{All, flat_map}
use Rattle.std.proofs.lemmas.List.{append-nil}
use Rattle.std.proofs.lemmas.List.Elements.{All-nil, All-cons, All-append}
use Rattle.std.proofs.lemmas.Grind.{flat_map-append}
use Rattle.stroke_paths.specs.declared.path.Point.{Point}
use Rattle.sheet_page.specs.declared.cells.Cell.{Cell}
use Rattle.sheet_page.specs.declared.page.Item.{Item}
use Rattle.sheet_page.specs.Cells.{IsCell}
use Rattle.sheet_page.specs.Labels.{Said, says, text_in, cell_items}
use Rattle.sheet_page.specs.inner.Spaces.{IsInSpace, SaysInside, AddsCells}
use Rattle.sheet_page.proofs.InSpace.{all_in_cell}

-- one cell, its caption and then its text
pub one_cell : (corner : Point) (c : Cell) (caption text : List ℕ) (a b d : List Item) → IsCell c
    → b ≡ a ++ text_in corner c.caption caption → d ≡ b ++ text_in corner c.text text
    → All (IsInSpace corner c.caption) (text_in corner c.caption caption) → All (IsInSpace corner c.text) (text_in corner c.text text) → AddsCells corner a (says c caption text ∷ []) d
one_cell corner c caption text a b d is p q first second = record {
  items = q ∙ ap (λ (xs : List Item). xs ++ text_in corner c.text text) p ∙ append_assoc a (text_in corner c.caption caption) (text_in corner c.text text)
      ∙ ap (λ (xs : List Item). a ++ xs) (sym (append-nil (cell_items corner (says c caption text))));
  inside = All-cons (SaysInside corner) (says c caption text) [] (record { is_cell = is; inside = all_in_cell corner c caption text is first second }) (All-nil (SaysInside corner));
}

-- the same of what the cell and the text are
pub same_cell : (corner : Point) (c d : Cell) (caption text other : List ℕ) (a b : List Item) → c ≡ d → text ≡ other → AddsCells corner a (says c caption text ∷ []) b → AddsCells corner a (says d caption other ∷ []) b
same_cell corner c d caption text other a b p q h = subst (λ (e : Said). AddsCells corner a (e ∷ []) b) (λ i. says (p i) caption (q i)) h

-- some cells, and then others
pub more_cells : (corner : Point) (xs ys : List Said) (a b c : List Item) → AddsCells corner a xs b → AddsCells corner b ys c → AddsCells corner a (xs ++ ys) c
more_cells corner xs ys a b c h k = record {
  items = k.items ∙ ap (λ (zs : List Item). zs ++ flat_map (cell_items corner) ys) h.items ∙ append_assoc a (flat_map (cell_items corner) xs) (flat_map (cell_items corner) ys)
      ∙ ap (λ (zs : List Item). a ++ zs) (sym (flat_map-append (cell_items corner) xs ys));
  inside = All-append (SaysInside corner) xs ys h.inside k.inside;
}

-- the same of what the cells are
pub same_cells : (corner : Point) (xs ys : List Said) (a b : List Item) → xs ≡ ys → AddsCells corner a xs b → AddsCells corner a ys b
same_cells corner xs ys a b same h = subst (λ (zs : List Said). AddsCells corner a zs b) same h

-- the parts of a block
pub block_parts : (none a b c rules cells symbol : List Item) → none ≡ [] → a ≡ none ++ rules → b ≡ a ++ cells → c ≡ b ++ symbol → c ≡ rules ++ cells ++ symbol
block_parts none a b c rules cells symbol p q r s = s ∙ (λ i. (r ∙ (λ j. (q ∙ (λ k. p k ++ rules)) j ++ cells)) i ++ symbol)
