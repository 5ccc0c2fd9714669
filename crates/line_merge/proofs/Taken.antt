-- Strips that are taken line by line: one more, and the pieces of all of them.
use Rattle.std.proofs.Common.{◌≡◌, ℕ, ◌+◌, ◌<◌, ◌≤◌, List, [], ◌∷◌, ◌++◌, Contains, length, map, take, get_or, IsPermutation, IsSorted, sym, subst, ap, ◌∙◌, append-nil}
use Rattle.std.specs.List.{All}
use Rattle.std.proofs.lemmas.List.{append_assoc, map-append, take_more, take_all}
use Rattle.std.proofs.lemmas.List.Elements.{All-contains, All-push, Contains-get_or}
use Rattle.lattice.specs.declared.lines.Line.{Line}
use Rattle.lattice.specs.declared.pieces.Piece.{Piece}
use Rattle.lattice.specs.declared.pieces.Strip.{Strip}
use Rattle.lattice.specs.Lines.{AreStripEnds}
use Rattle.lattice.specs.Triple.{Triple}
use Rattle.line_merge.specs.declared.by_line.LineMerge.{LineMerge}
use Rattle.line_merge.specs.declared.numbering.Numbered.{Numbered}
use Rattle.line_merge.specs.Merging.{AreMerged}
use Rattle.line_merge.specs.Numbers.{IsNumbering}
use Rattle.line_merge.specs.Taken.{AreTaken, MayBeTaken}
use Rattle.line_merge.specs.inner.Numbering.{numbered_by}
use Rattle.line_merge.specs.inner.Pieces.{ArePiecesOf, AreUpToLine, piece_order}
use Rattle.line_merge.proofs.ByLine.{all_last, all_lines}
use Rattle.line_merge.proofs.Given.{ends_of}
use Rattle.line_merge.proofs.Regrouped.{merged_by_number}

module _ (d : Triple) (number : Line → ℕ) (given : List Strip) (lines : LineMerge) (taken : AreTaken d number given lines) where
  -- those of the last line have their ends
  pub taken_ends : All (λ (x : Numbered). AreStripEnds d x.strip.line x.strip.a x.strip.b) lines.here.items
  taken_ends =
      all_last d (map (numbered_by number) given) lines.pieces.items lines.here.items lines.line taken.up_to (λ (x : Numbered). AreStripEnds d x.strip.line x.strip.a x.strip.b)
      (ends_of d number given (map (numbered_by number) given) (λ i. map (numbered_by number) given) taken.ends)

  pub taken_none : AreTaken d number (given ++ []) lines
  taken_none = subst (λ (xs : List Strip). AreTaken d number xs lines) (sym (append-nil given)) taken

  -- with the pieces of the last line, in order, they are put together
  pub merged_taken : IsNumbering given number → (others sorted : List Piece) → ArePiecesOf d lines.here.items others → IsPermutation (lines.pieces.items ++ others) sorted
      → IsSorted (piece_order d) sorted → AreMerged d given sorted
  merged_taken numbering others sorted right moves ascending =
      merged_by_number d given number taken.ends numbering (lines.pieces.items ++ others) sorted
      (all_lines d (map (numbered_by number) given) lines.pieces.items lines.here.items lines.line taken.up_to others right) moves ascending

-- one more of the strips that may be taken
pub taken_more : (d : Triple) (number : Line → ℕ) (given strips : List Strip) (line : ℕ) (start old new : LineMerge) (k : ℕ) (x : Strip) → k < length strips → x ≡ get_or strips k x
    → MayBeTaken d number given start line strips → AreTaken d number (given ++ take k strips) old
    → ((so_far : List Numbered) → AreUpToLine d so_far old.pieces.items old.here.items old.line → AreUpToLine d (so_far ++ (record { strip = x; line = line }) ∷ []) new.pieces.items new.here.items new.line)
    → AreTaken d number (given ++ take (k + 1) strips) new
taken_more d number given strips line start old new k x within is may taken goes_on =
    subst (λ (xs : List Strip). AreTaken d number xs new) (sym more) (record {
      ends = All-push (λ (x : Strip). AreStripEnds d x.line x.a x.b) (given ++ take k strips) x taken.ends (All-contains (λ (x : Strip). AreStripEnds d x.line x.a x.b) strips x may.ends listed);
      up_to = subst (λ (xs : List Numbered). AreUpToLine d xs new.pieces.items new.here.items new.line) (sym numbered) (goes_on (map (numbered_by number) (given ++ take k strips)) taken.up_to);
    })
  where
    listed : Contains strips x
    listed = subst (Contains strips) (sym is) (Contains-get_or strips k x within)

    more : given ++ take (k + 1) strips ≡ (given ++ take k strips) ++ x ∷ []
    more = ap (λ (xs : List Strip). given ++ xs) (take_more strips k x within ∙ ap (λ (y : Strip). take k strips ++ y ∷ []) (sym is)) ∙ sym (append_assoc given (take k strips) (x ∷ []))

    at : number x.line ≡ line
    at = All-contains (λ (x : Strip). number x.line ≡ line) strips x may.on_line listed

    numbered : map (numbered_by number) ((given ++ take k strips) ++ x ∷ []) ≡ map (numbered_by number) (given ++ take k strips) ++ (record { strip = x; line = line }) ∷ []
    numbered = map-append (numbered_by number) (given ++ take k strips) (x ∷ []) ∙ (λ i. map (numbered_by number) (given ++ take k strips) ++ (record { strip = x; line = at i }) ∷ [])

pub taken_all : (d : Triple) (number : Line → ℕ) (given strips : List Strip) (lines : LineMerge) (k : ℕ) → length strips ≤ k → AreTaken d number (given ++ take k strips) lines
    → AreTaken d number (given ++ strips) lines
taken_all d number given strips lines k past taken = subst (λ (xs : List Strip). AreTaken d number (given ++ xs) lines) (take_all k strips past) taken
