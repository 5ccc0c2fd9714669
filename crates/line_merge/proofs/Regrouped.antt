-- Strips in another order are put together to the same pieces.
use Rattle.std.proofs.Common.{ℕ, List, Contains, map, IsPermutation, IsSorted, refl, subst}
use Rattle.std.specs.List.{All}
use Rattle.std.proofs.lemmas.List.Elements.{All-contains, Contains-get_or}
use Rattle.std.proofs.lemmas.List.Sorted.{All-permutation, Contains-permutation, IsPermutation-sym, IsPermutation-trans}
use Rattle.lattice.specs.declared.lines.Line.{Line}
use Rattle.lattice.specs.declared.pieces.Piece.{Piece}
use Rattle.lattice.specs.declared.pieces.Strip.{Strip}
use Rattle.lattice.specs.declared.pieces.StripKind.{StripKind}
use Rattle.lattice.specs.declared.pieces.StripKind.TheVariants.{Seen, Hidden}
use Rattle.lattice.specs.declared.pieces.Style.TheVariants.{Solid, Dashed, Chain}
use Rattle.lattice.specs.Triple.{Triple}
use Rattle.lattice.specs.Points.{Point, of_spot, OnOneSight}
use Rattle.lattice.specs.Lines.{AreStripEnds}
use Rattle.line_merge.specs.declared.by_line.LineMerge.{LineMerge}
use Rattle.line_merge.specs.declared.numbering.Listed.{Listed}
use Rattle.line_merge.specs.declared.numbering.Numbered.{Numbered}
use Rattle.line_merge.specs.Merging.{AreStrips, IsClear, LiesOnKind, LiesOnTracesOnly, AreMerged}
use Rattle.line_merge.specs.Taken.{AreTaken}
use Rattle.line_merge.specs.Numbers.{IsNumbering}
use Rattle.line_merge.specs.inner.Numbering.{numbered_by, listed_strip, AreListedByLine}
use Rattle.line_merge.specs.inner.Pieces.{piece_order, ArePiecesOf, AreUpToLine}
use Rattle.line_merge.proofs.Lists.{map_permuted}
use Rattle.line_merge.proofs.Given.{ends_of}
use Rattle.line_merge.proofs.Layers.{cover_of}
use Rattle.line_merge.proofs.Merged.{AreSteps, shown_in, merged_of}

module _ (d : Triple) (strips others : List Strip) (forth : (x : Strip) → Contains strips x → Contains others x) (back : (x : Strip) → Contains others x → Contains strips x) where
  clear_too : (p : Point) → IsClear d strips p → IsClear d others p
  clear_too p h = record {
    off_ends = λ k e less.
        All-contains (λ (x : Strip). (¬ OnOneSight d (of_spot x.a) p) × (¬ OnOneSight d (of_spot x.b) p)) strips _ h.off_ends (back _ (Contains-get_or others k e less));
    one_line = λ x y in_x in_y. h.one_line x y (back x in_x) (back y in_y);
  }

  kind_forth : (kind : StripKind) (p : Point) → LiesOnKind d strips kind p → LiesOnKind d others kind p
  kind_forth kind p (x, there, is, on) = (x, forth x there, is, on)

  kind_back : (kind : StripKind) (p : Point) → LiesOnKind d others kind p → LiesOnKind d strips kind p
  kind_back kind p (x, there, is, on) = (x, back x there, is, on)

  traces_forth : (p : Point) → LiesOnTracesOnly d strips p → LiesOnTracesOnly d others p
  traces_forth p h = let (x, there, on) = h.some in record { some = (x, forth x there, on); traces = λ y in_y. h.traces y (back y in_y) }

  traces_back : (p : Point) → LiesOnTracesOnly d others p → LiesOnTracesOnly d strips p
  traces_back p h = let (x, there, on) = h.some in record { some = (x, back x there, on); traces = λ y in_y. h.traces y (forth y in_y) }

  pub merged_too : (pieces : List Piece) → AreMerged d others pieces → AreMerged d strips pieces
  merged_too pieces h = record {
    proper = h.proper;
    visible = λ p positive clear. let k = h.visible p positive (clear_too p clear) in (λ on. kind_back Seen p (k.0 on), λ m. k.1 (kind_forth Seen p m));
    hidden = λ p positive clear. let k = h.hidden p positive (clear_too p clear) in (
      λ on. let (m, none) = k.0 on in (kind_back Hidden p m, λ n. none (kind_forth Seen p n)),
      λ m. k.1 (kind_forth Hidden p m.0, λ n. m.1 (kind_back Seen p n)),
    );
    traces = λ p positive clear. let k = h.traces p positive (clear_too p clear) in (λ on. traces_back p (k.0 on), λ m. k.1 (traces_forth p m));
    once = λ p positive clear. h.once p positive (clear_too p clear);
    whole = h.whole;
    order = h.order;
  }

-- ---- strips of which the pieces are put together by the numbers of their lines
pub merged_by_number : (d : Triple) (strips : List Strip) (number : Line → ℕ) → AreStrips d strips → IsNumbering strips number → (pieces sorted : List Piece) → ArePiecesOf d (map (numbered_by number) strips) pieces
    → IsPermutation pieces sorted → IsSorted (piece_order d) sorted → AreMerged d strips sorted
merged_by_number d strips number are numbering pieces sorted k moves ascending =
    let given = map (numbered_by number) strips in
    let steps : AreSteps d strips number k.visible k.drawn k.left_traces.all k.hidden k.traces = record {
      are = record { ends = are; numbering = numbering };
      of_visible = cover_of d strips number given refl (shown_in Solid) k.visible k.of_visible;
      of_drawn = cover_of d strips number given refl (shown_in Dashed) k.drawn k.of_drawn;
      of_all = cover_of d strips number given refl (shown_in Chain) k.left_traces.all k.left_traces.united;
      left_hidden = k.left_hidden;
      left_traces = k.left_traces.left;
    } in
    merged_of d strips number k.visible k.drawn k.left_traces.all k.hidden k.traces steps sorted (IsPermutation-trans _ pieces sorted k.over moves) ascending

-- ---- strips in the order of their lines' numbers
module _ (d : Triple) (strips : List Strip) (listed : List Listed) (h : AreListedByLine strips listed) (are : AreStrips d strips) where
  pub listed_ends : All (λ (x : Numbered). AreStripEnds d x.strip.line x.strip.a x.strip.b) (map listed_strip listed)
  listed_ends =
      All-permutation (λ (x : Numbered). AreStripEnds d x.strip.line x.strip.a x.strip.b) (map (numbered_by h.number) strips) (map listed_strip listed) h.moves
      (ends_of d h.number strips (map (numbered_by h.number) strips) (λ i. map (numbered_by h.number) strips) are)

  module _ (lines : LineMerge) (up_to : AreUpToLine d (map listed_strip listed) lines.pieces.items lines.here.items lines.line) where
    -- they are the same strips in another order
    pub taken_listed : (others : List Strip) × IsPermutation strips others × AreTaken d h.number others lines
    taken_listed =
        let (others, same, moved) = map_permuted (numbered_by h.number) strips (map listed_strip listed) h.moves in (
          others,
          moved,
          record {
            ends = All-permutation (λ (x : Strip). AreStripEnds d x.line x.a x.b) strips others moved are;
            up_to = subst (λ (xs : List Numbered). AreUpToLine d xs lines.pieces.items lines.here.items lines.line) same up_to;
          },
        )

    pub merged_listed : (pieces : List Piece) → ((number : Line → ℕ) → (given : List Strip) → IsNumbering given number → AreTaken d number given lines → AreMerged d given pieces) → AreMerged d strips pieces
    merged_listed pieces merged =
        let (others, moved, taken) = taken_listed in
        let there : (x : Strip) → Contains others x → Contains strips x = λ x in_x. Contains-permutation others strips x (IsPermutation-sym strips others moved) in_x in
        merged_too d strips others (λ x in_x. Contains-permutation strips others x moved in_x) there pieces
        (merged h.number others (λ x y in_x in_y. h.numbering x y (there x in_x) (there y in_y)) taken)
