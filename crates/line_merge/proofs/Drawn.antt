-- Stretches along lines: which stands first, and that two of one style neither overlap nor touch.
use Rattle.std.proofs.Common.{◌≡◌, ℕ, ◌⊎◌, inl, inr, ◌<◌, List, refl, sym, ◌∙◌, arith}
use Rattle.std.specs.Ordering.{nat_cmp, ordering_then}
use Rattle.std.specs.declared.cmp.Ordering.{Ordering}
use Rattle.std.specs.declared.cmp.Ordering.TheVariants.{Less, Equal, Greater}
use Rattle.lattice.specs.declared.lines.Line.{Line}
use Rattle.lattice.specs.declared.pieces.Style.{Style}
use Rattle.lattice.specs.declared.pieces.Style.TheVariants.{Solid, Dashed, Chain}
use Rattle.lattice.specs.declared.pieces.Strip.{Strip}
use Rattle.lattice.specs.Triple.{Triple}
use Rattle.lattice.specs.Points.{of_spot, OnOneSight}
use Rattle.lattice.specs.Lines.{IsOnLine, IsSameLine}
use Rattle.lattice.proofs.OnLines.{on_line_of_sight}
use Rattle.lattice.proofs.SameLines.{same_line, same_of_parallel}
use Rattle.geometry.specs.Pieces.{IsBefore, rank_of, PieceStandsBefore, ArePiecesParallel, ShareAnEnd}
use Rattle.geometry.proofs.Sights.{sight_back}
use Rattle.line_merge.specs.declared.ends.SeenEnd.{SeenEnd}
use Rattle.line_merge.specs.inner.Ends.{seen_order, end_order, IsSeenEnd}
use Rattle.line_merge.proofs.Stretches.{Stretch, stretch_order, piece_of}
use Rattle.line_merge.proofs.Sights.{before, sight, not_seen, before_on}
use Rattle.line_merge.proofs.EndOrders.{seen_is, order_on_line}
use Rattle.line_merge.proofs.Courses.{AreNumberedStrips, IsCourse, first_on, second_on}

-- ---- the order
then_less : (r s : Ordering) → ordering_then r s ≡ Less → (r ≡ Less) ⊎ ((r ≡ Equal) × (s ≡ Less))
then_less Less s h = inl refl
then_less Equal s h = inr (refl, h)
then_less Greater s h = cc

then_equal : (r s : Ordering) → ordering_then r s ≡ Equal → (r ≡ Equal) × (s ≡ Equal)
then_equal Less s h = cc
then_equal Equal s h = (refl, h)
then_equal Greater s h = cc

rank_less : (x y : Style) (o : Ordering) → ordering_then (nat_cmp (rank_of x) (rank_of y)) o ≡ Less → (rank_of x < rank_of y) ⊎ ((x ≡ y) × (o ≡ Less))
rank_less Solid Solid o h = inr (refl, h)
rank_less Solid Dashed o h = inl (omega arith)
rank_less Solid Chain o h = inl (omega arith)
rank_less Dashed Solid o h = cc
rank_less Dashed Dashed o h = inr (refl, h)
rank_less Dashed Chain o h = inl (omega arith)
rank_less Chain Solid o h = cc
rank_less Chain Dashed o h = cc
rank_less Chain Chain o h = inr (refl, h)

rank_equal : (x y : Style) (o : Ordering) → ordering_then (nat_cmp (rank_of x) (rank_of y)) o ≡ Equal → (x ≡ y) × (o ≡ Equal)
rank_equal Solid Solid o h = (refl, h)
rank_equal Solid Dashed o h = cc
rank_equal Solid Chain o h = cc
rank_equal Dashed Solid o h = cc
rank_equal Dashed Dashed o h = (refl, h)
rank_equal Dashed Chain o h = cc
rank_equal Chain Solid o h = cc
rank_equal Chain Dashed o h = cc
rank_equal Chain Chain o h = (refl, h)

module _ (d : Triple) (x y : Stretch) (from_x : IsSeenEnd d x.from) (to_x : IsSeenEnd d x.to) (from_y : IsSeenEnd d y.from) (to_y : IsSeenEnd d y.to) where
  abbrev tails : Ordering
  tails = ordering_then (seen_order x.from y.from) (seen_order x.to y.to)

  -- what the order says of pieces
  pub stands : stretch_order x y ≡ Less → PieceStandsBefore d (piece_of x) (piece_of y)
  stands h = by (rank_less x.style y.style tails h)
    where
      ends : (seen_order x.from y.from ≡ Less) ⊎ ((seen_order x.from y.from ≡ Equal) × (seen_order x.to y.to ≡ Less))
          → IsBefore d (of_spot x.from.spot) (of_spot y.from.spot) ⊎ (OnOneSight d (of_spot x.from.spot) (of_spot y.from.spot) × IsBefore d (of_spot x.to.spot) (of_spot y.to.spot))
      ends (inl e) = inl (before d (of_spot x.from.spot) (of_spot y.from.spot) (sym (seen_is d x.from y.from from_x from_y) ∙ e))
      ends (inr (e, f)) = inr (
        sight d (of_spot x.from.spot) (of_spot y.from.spot) (sym (seen_is d x.from y.from from_x from_y) ∙ e),
        before d (of_spot x.to.spot) (of_spot y.to.spot) (sym (seen_is d x.to y.to to_x to_y) ∙ f),
      )

      by : (rank_of x.style < rank_of y.style) ⊎ ((x.style ≡ y.style) × (tails ≡ Less)) → PieceStandsBefore d (piece_of x) (piece_of y)
      by (inl less) = inl less
      by (inr (same, e)) = inr (same, ends (then_less (seen_order x.from y.from) (seen_order x.to y.to) e))

  pub stands_level : stretch_order x y ≡ Equal → (x.style ≡ y.style) × OnOneSight d (of_spot x.from.spot) (of_spot y.from.spot) × OnOneSight d (of_spot x.to.spot) (of_spot y.to.spot)
  stands_level h =
      let (same, e) = rank_equal x.style y.style tails h in
      let (f, g) = then_equal (seen_order x.from y.from) (seen_order x.to y.to) e in (
        same,
        sight d (of_spot x.from.spot) (of_spot y.from.spot) (sym (seen_is d x.from y.from from_x from_y) ∙ f),
        sight d (of_spot x.to.spot) (of_spot y.to.spot) (sym (seen_is d x.to y.to to_x to_y) ∙ g),
      )

-- ---- two stretches
-- the one ends before the other begins
abbrev pub AreClear : Stretch → Stretch → Type 0
AreClear x y = (end_order x.to y.from ≡ Less) ⊎ (end_order y.to x.from ≡ Less)

-- they do so if they are of one style
abbrev pub AreSeparate : Stretch → Stretch → Type 0
AreSeparate x y = x.style ≡ y.style → AreClear x y

pub clear_back : (x y : Stretch) → AreClear x y → AreClear y x
clear_back x y (inl h) = inr h
clear_back x y (inr h) = inl h

pub separate_back : (x y : Stretch) → AreSeparate x y → AreSeparate y x
separate_back x y h same = clear_back x y (h (sym same))

-- a stretch along a line
abbrev pub IsAlong : Triple → List Strip → (Line → ℕ) → Stretch → Type 0
IsAlong d strips number x = IsCourse d strips number (record { from = x.from; to = x.to })

module _ (d : Triple) (strips : List Strip) (number : Line → ℕ) (are : AreNumberedStrips d strips number) (x y : Stretch) (along_x : IsAlong d strips number x) (along_y : IsAlong d strips number y) where
  -- of one line, and the first ends before the second begins: so each end of the first is before each of the second
  all_before : x.from.line ≡ y.from.line → end_order x.to y.from ≡ Less → ShareAnEnd d (piece_of x) (piece_of y) → ⊥
  all_before same less = by
    where
      middle : IsBefore d (of_spot x.to.spot) (of_spot y.from.spot)
      middle =
          before d (of_spot x.to.spot) (of_spot y.from.spot)
          (sym (order_on_line d x.to y.from along_x.to.seen along_y.from.seen (sym along_x.one_line ∙ same)) ∙ less)

      start : IsBefore d (of_spot x.from.spot) (of_spot y.from.spot)
      start = before_on d (of_spot x.from.spot) (of_spot x.to.spot) (of_spot y.from.spot) x.from.spot.positive x.to.spot.positive y.from.spot.positive along_x.before middle

      onward : (s : SeenEnd) → IsBefore d (of_spot s.spot) (of_spot y.from.spot) → IsBefore d (of_spot s.spot) (of_spot y.to.spot)
      onward s h = before_on d (of_spot s.spot) (of_spot y.from.spot) (of_spot y.to.spot) s.spot.positive y.from.spot.positive y.to.spot.positive h along_y.before

      by : ShareAnEnd d (piece_of x) (piece_of y) → ⊥
      by (inl k) = not_seen d (of_spot x.from.spot) (of_spot y.from.spot) start k
      by (inr (inl k)) = not_seen d (of_spot x.from.spot) (of_spot y.to.spot) (onward x.from start) k
      by (inr (inr (inl k))) = not_seen d (of_spot x.to.spot) (of_spot y.from.spot) middle k
      by (inr (inr (inr k))) = not_seen d (of_spot x.to.spot) (of_spot y.to.spot) (onward x.to middle) k

shared_back : (d : Triple) (x y : Stretch) → ShareAnEnd d (piece_of x) (piece_of y) → ShareAnEnd d (piece_of y) (piece_of x)
shared_back d x y (inl k) = inl (sight_back d (of_spot x.from.spot) (of_spot y.from.spot) k)
shared_back d x y (inr (inl k)) = inr (inr (inl (sight_back d (of_spot x.from.spot) (of_spot y.to.spot) k)))
shared_back d x y (inr (inr (inl k))) = inr (inl (sight_back d (of_spot x.to.spot) (of_spot y.from.spot) k))
shared_back d x y (inr (inr (inr k))) = inr (inr (inr (sight_back d (of_spot x.to.spot) (of_spot y.to.spot) k)))

module _ (d : Triple) (strips : List Strip) (number : Line → ℕ) (are : AreNumberedStrips d strips number) (x y : Stretch) (along_x : IsAlong d strips number x) (along_y : IsAlong d strips number y) where
  -- clear stretches of one line share no end
  none_shared : x.from.line ≡ y.from.line → AreClear x y → ShareAnEnd d (piece_of x) (piece_of y) → ⊥
  none_shared same (inl less) shared = all_before d strips number are x y along_x along_y same less shared
  none_shared same (inr less) shared = all_before d strips number are y x along_y along_x (sym same) less (shared_back d x y shared)

  abbrev line_x : Line
  line_x = along_x.from.strip.line

  abbrev line_y : Line
  line_y = along_y.from.strip.line

  -- stretches of one line have one number
  one_number : IsSameLine line_x line_y → x.from.line ≡ y.from.line
  one_number same = along_x.from.line ∙ (are.numbering along_x.from.strip along_y.from.strip along_x.from.listed along_y.from.listed).1 same ∙ sym along_y.from.line

  on_x : IsOnLine d line_x (of_spot x.from.spot)
  on_x = first_on d strips number are (record { from = x.from; to = x.to }) along_x

  on_y : IsOnLine d line_y (of_spot y.from.spot)
  on_y = first_on d strips number are (record { from = y.from; to = y.to }) along_y

  on_x_too : IsOnLine d line_x (of_spot x.to.spot)
  on_x_too = second_on d strips number are (record { from = x.from; to = x.to }) along_x

  on_y_too : IsOnLine d line_y (of_spot y.to.spot)
  on_y_too = second_on d strips number are (record { from = y.from; to = y.to }) along_y

  apart_x : ¬ OnOneSight d (of_spot x.from.spot) (of_spot x.to.spot)
  apart_x = not_seen d (of_spot x.from.spot) (of_spot x.to.spot) along_x.before

  -- parallel stretches with a shared end are of one line
  shared_line : ArePiecesParallel d (piece_of x) (piece_of y) → (s t : SeenEnd) → IsOnLine d line_x (of_spot s.spot) → IsOnLine d line_y (of_spot t.spot)
      → OnOneSight d (of_spot s.spot) (of_spot t.spot) → x.from.line ≡ y.from.line
  shared_line parallel s t on_s on_t k =
      one_number
      (same_of_parallel d line_x line_y (of_spot x.from.spot) (of_spot x.to.spot) (of_spot y.from.spot) (of_spot y.to.spot) (of_spot s.spot)
      x.from.spot.positive x.to.spot.positive y.from.spot.positive y.to.spot.positive s.spot.positive
      apart_x (not_seen d (of_spot y.from.spot) (of_spot y.to.spot) along_y.before) on_x on_x_too on_y on_y_too parallel on_s
      (on_line_of_sight d line_y (of_spot t.spot) (of_spot s.spot) t.spot.positive (sight_back d (of_spot s.spot) (of_spot t.spot) k) on_t))

  -- clear stretches are whole
  pub not_going_on : AreClear x y → ArePiecesParallel d (piece_of x) (piece_of y) → ¬ ShareAnEnd d (piece_of x) (piece_of y)
  not_going_on clear parallel shared = none_shared (by shared) clear shared
    where
      by : ShareAnEnd d (piece_of x) (piece_of y) → x.from.line ≡ y.from.line
      by (inl k) = shared_line parallel x.from y.from on_x on_y k
      by (inr (inl k)) = shared_line parallel x.from y.to on_x on_y_too k
      by (inr (inr (inl k))) = shared_line parallel x.to y.from on_x_too on_y k
      by (inr (inr (inr k))) = shared_line parallel x.to y.to on_x_too on_y_too k

  -- and are not seen at one place
  not_level : AreClear x y → OnOneSight d (of_spot x.from.spot) (of_spot y.from.spot) → OnOneSight d (of_spot x.to.spot) (of_spot y.to.spot) → ⊥
  not_level clear k l =
      none_shared
      (one_number
      (same_line d line_x line_y (of_spot x.from.spot) (of_spot x.to.spot) x.from.spot.positive x.to.spot.positive apart_x on_x on_x_too
      (on_line_of_sight d line_y (of_spot y.from.spot) (of_spot x.from.spot) y.from.spot.positive (sight_back d (of_spot x.from.spot) (of_spot y.from.spot) k) on_y)
      (on_line_of_sight d line_y (of_spot y.to.spot) (of_spot x.to.spot) y.to.spot.positive (sight_back d (of_spot x.to.spot) (of_spot y.to.spot) l) on_y_too)))
      clear (inl k)

  -- the one that doesn't come after the other stands before it
  pub stands_first : AreSeparate x y → ¬ (stretch_order x y ≡ Greater) → PieceStandsBefore d (piece_of x) (piece_of y)
  stands_first separate h = by (stretch_order x y) refl
    where
      by : (r : Ordering) → stretch_order x y ≡ r → PieceStandsBefore d (piece_of x) (piece_of y)
      by Less e = stands d x y along_x.from.seen along_x.to.seen along_y.from.seen along_y.to.seen e
      by Equal e =
          let (same, k, l) = stands_level d x y along_x.from.seen along_x.to.seen along_y.from.seen along_y.to.seen e in
          absurd (not_level (separate same) k l)
      by Greater e = absurd (h e)
