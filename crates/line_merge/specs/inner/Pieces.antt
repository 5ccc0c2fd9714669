-- The pieces of strips: over which intervals they are, their order, and what is put together line by line.
use Rattle.std.specs.Prelude.{◌≡◌, ℕ, ◌<◌, List, ◌++◌, map, All, IsPermutation}
use Rattle.std.specs.List.{filter}
use Rattle.std.specs.Ordering.{int_cmp, nat_cmp, ordering_then}
use Rattle.std.specs.Prelude.{◌*ℤ◌}
use Rattle.std.specs.declared.cmp.Ordering.{Ordering}
use Rattle.intervals.specs.Cuts.{AreRest}
use Rattle.intervals.specs.declared.interval.Interval.{Interval}
use Rattle.lattice.specs.declared.pieces.Piece.{Piece}
use Rattle.lattice.specs.declared.pieces.StripKind.TheVariants.{Seen, Hidden}
use Rattle.lattice.specs.declared.pieces.Style.{Style}
use Rattle.lattice.specs.declared.pieces.Style.TheVariants.{Solid, Dashed, Chain}
use Rattle.lattice.specs.Triple.{Triple}
use Rattle.lattice.specs.Points.{Point, of_spot, across_of, upward_of}
use Rattle.geometry.specs.Pieces.{rank_of}
use Rattle.line_merge.specs.declared.ends.SeenEnd.{SeenEnd}
use Rattle.line_merge.specs.declared.numbering.Numbered.{Numbered}
use Rattle.line_merge.specs.inner.Ends.{end_order, AreUnitedOf, IsLeftOfAll}
use Rattle.line_merge.specs.inner.Kinds.{is_up_to}

-- by U, and then by V
abbrev pub view_order : Triple → Point → Point → Ordering
view_order d p q = ordering_then (int_cmp (across_of d p *ℤ q.w) (across_of d q *ℤ p.w)) (int_cmp (upward_of d p *ℤ q.w) (upward_of d q *ℤ p.w))

-- by the style, then by where it begins, then by where it ends
abbrev pub piece_order : Triple → Piece → Piece → Ordering
piece_order d x y = ordering_then (nat_cmp (rank_of x.style) (rank_of y.style)) (ordering_then (view_order d (of_spot x.a) (of_spot y.a)) (view_order d (of_spot x.b) (of_spot y.b)))

abbrev pub piece_over : Style → Interval SeenEnd → Piece
piece_over style i = record { a = i.from.spot; b = i.to.spot; style = style }

-- one over each interval, in the style of its list
abbrev pub pieces_over : List (Interval SeenEnd) → List (Interval SeenEnd) → List (Interval SeenEnd) → List Piece
pieces_over visible hidden traces = (map (piece_over Solid) visible ++ map (piece_over Dashed) hidden) ++ map (piece_over Chain) traces

-- The pieces are over what is drawn of these strips in each style: the seen ones put together, what these leave of the seen and the
-- hidden ones, and what those leave of all.
pub record ArePiecesOf (d : Triple) (given : List Numbered) (pieces : List Piece) : Type 0 where
  pub visible : List (Interval SeenEnd)
  pub drawn : List (Interval SeenEnd)
  pub hidden : List (Interval SeenEnd)
  pub traces : List (Interval SeenEnd)
  pub of_visible : AreUnitedOf d (filter (λ x. is_up_to Seen x.strip.kind) given) visible
  pub of_drawn : AreUnitedOf d (filter (λ x. is_up_to Hidden x.strip.kind) given) drawn
  pub left_hidden : AreRest end_order drawn visible hidden
  pub left_traces : IsLeftOfAll d given drawn traces
  pub over : IsPermutation (pieces_over visible hidden traces) pieces

-- Of the given strips the last ones are on the line with this number, and the pieces are those of the others, which are on earlier lines.
pub record AreUpToLine (d : Triple) (given : List Numbered) (pieces : List Piece) (last : List Numbered) (line : ℕ) : Type 0 where
  pub done : List Numbered
  pub all : given ≡ done ++ last
  pub right : ArePiecesOf d done pieces
  pub earlier : All (λ x. x.line < line) done
  pub on_line : All (λ x. x.line ≡ line) last
