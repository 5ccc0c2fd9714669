-- Stretches of lines in one style, and the pieces over them.
use Rattle.std.proofs.Common.{◌≡◌, List, [], ◌∷◌, ◌++◌, map, refl, sym, ap, ◌∙◌}
use Rattle.std.specs.Ordering.{nat_cmp, ordering_then}
use Rattle.std.specs.declared.cmp.Ordering.{Ordering}
use Rattle.std.proofs.lemmas.List.{map-append}
use Rattle.intervals.specs.declared.interval.Interval.{Interval}
use Rattle.lattice.specs.declared.pieces.Piece.{Piece}
use Rattle.lattice.specs.declared.pieces.Style.{Style}
use Rattle.lattice.specs.declared.pieces.Style.TheVariants.{Solid, Dashed, Chain}
use Rattle.geometry.specs.Pieces.{rank_of}
use Rattle.line_merge.specs.declared.ends.SeenEnd.{SeenEnd}
use Rattle.line_merge.specs.inner.Ends.{seen_order}
use Rattle.line_merge.specs.inner.Pieces.{piece_over, pieces_over}

-- what is drawn of a line in one style, from the lesser end to the greater
pub record Stretch : Type 0 where
  pub style : Style
  pub from : SeenEnd
  pub to : SeenEnd

-- by the style, then by where it begins, then by where it ends
abbrev pub stretch_order : Stretch → Stretch → Ordering
stretch_order x y = ordering_then (nat_cmp (rank_of x.style) (rank_of y.style)) (ordering_then (seen_order x.from y.from) (seen_order x.to y.to))

abbrev pub stretch_of : Style → Interval SeenEnd → Stretch
stretch_of style i = record { style = style; from = i.from; to = i.to }

abbrev pub piece_of : Stretch → Piece
piece_of x = record { a = x.from.spot; b = x.to.spot; style = x.style }

-- one over each interval, in the style of its list
abbrev pub stretches_over : List (Interval SeenEnd) → List (Interval SeenEnd) → List (Interval SeenEnd) → List Stretch
stretches_over visible hidden traces = (map (stretch_of Solid) visible ++ map (stretch_of Dashed) hidden) ++ map (stretch_of Chain) traces

pieces_in : (style : Style) (us : List (Interval SeenEnd)) → map (piece_over style) us ≡ map piece_of (map (stretch_of style) us)
pieces_in style [] = refl
pieces_in style (u ∷ us) = ap (λ (ls : List Piece). piece_over style u ∷ ls) (pieces_in style us)

pub pieces_of_stretches : (visible hidden traces : List (Interval SeenEnd)) → pieces_over visible hidden traces ≡ map piece_of (stretches_over visible hidden traces)
pieces_of_stretches visible hidden traces =
    let solid = map (stretch_of Solid) visible in
    let dashed = map (stretch_of Dashed) hidden in
    let chain = map (stretch_of Chain) traces in
    (λ i. (pieces_in Solid visible i ++ pieces_in Dashed hidden i) ++ pieces_in Chain traces i)
    ∙ ap (λ (ls : List Piece). ls ++ map piece_of chain) (sym (map-append piece_of solid dashed))
    ∙ sym (map-append piece_of (solid ++ dashed) chain)
