-- Beside a point of a line there is a point, on the way that a piece goes on from there, that lies on all pieces that go on this way and on no
-- others.
use Rattle.std.proofs.Common.{◌⊎◌, inl, inr, List, [], ◌++◌, Contains, map}
use Rattle.std.proofs.lemmas.List.Elements.{Contains-append_left, Contains-append_right}
use Rattle.lattice.specs.declared.points.Spot.{Spot}
use Rattle.lattice.specs.declared.pieces.Piece.{Piece}
use Rattle.lattice.specs.Triple.{Triple}
use Rattle.lattice.specs.Points.{Point, IsPoint, of_spot, OnOneSight}
use Rattle.geometry.specs.Pieces.{LiesOn, IsBefore}
use Rattle.geometry.proofs.Sights.{sight_back}
use Rattle.line_merge.proofs.Lists.{map_contains}
use Rattle.line_merge.proofs.Sights.{before_on, seen_before}
use Rattle.drawing_laws.proofs.Shrinking.{GoesOver, IsNear, near}
use Rattle.drawing_laws.proofs.Sparse.{ViewLine, IsOnViewLine}
use Rattle.drawing_laws.proofs.ViewLines.{IsProper, on_sight}
use Rattle.drawing_laws.proofs.ViewOrder.{IsUpTo, three_ways, before_up_to, up_to_before, up_to_on, not_back, lies_of_up_to}
use Rattle.detail_pieces.proofs.Covered.{IsLastBefore, last_before}

-- from the last end to the first
abbrev turn : Piece → Piece
turn m = record { a = m.b; b = m.a; style = m.style }

-- from the last end to t
abbrev onward_to : Spot → Piece → Piece
onward_to t m = record { a = m.b; b = t; style = m.style }

-- from a point on, or up to it
pub data Way : Type 0 where
  onward : Way
  backward : Way

abbrev pub RunsOn : Triple → ViewLine → Piece → Type 0
RunsOn d line m = IsOnViewLine d line (of_spot m.a) × IsOnViewLine d line (of_spot m.b)

-- m goes on beyond p, or comes from before it
abbrev pub Goes : Way → Triple → Point → Piece → Type 0
Goes onward d p m = IsUpTo d (of_spot m.a) p × IsBefore d p (of_spot m.b)
Goes backward d p m = IsBefore d (of_spot m.a) p × IsUpTo d p (of_spot m.b)

-- q is so near s, on the way to t, that it lies on those of these pieces that go this way from p, as s does, and on no others
pub record IsBeside (d : Triple) (line : ViewLine) (p : Point) (ways : List Piece) (way : Way) (s t : Spot) (q : Point) : Type 0 where
  pub near : IsNear d line [] ways s t q
  pub over : (m : Piece) → Contains ways m → IsBefore d (of_spot m.a) (of_spot m.b) → LiesOn d m q → RunsOn d line m × LiesOn d m p
  pub held : (m : Piece) → Contains ways m → RunsOn d line m → Goes way d p m → LiesOn d m q × LiesOn d m (of_spot s)

module _ (d : Triple) (line : ViewLine) (proper : IsProper line) (p : Point) (positive : IsPoint p) (on_p : IsOnViewLine d line p) (ways : List Piece) where
  -- the pieces, and what is left from each to t
  abbrev ways_to : Spot → List Piece
  ways_to t = ways ++ map (onward_to t) ways

  module _ (s t : Spot) (on_s : IsOnViewLine d line (of_spot s)) (on_t : IsOnViewLine d line (of_spot t)) (q : Point) (h : IsNear d line [] (ways_to t) s t q) where
    near_too : IsNear d line [] ways s t q
    near_too = record {
      positive = h.positive;
      on = h.on;
      after = h.after;
      before = h.before;
      beside = h.beside;
      over = λ m there. h.over m (Contains-append_left ways (map (onward_to t) ways) m there);
    }

    -- it is short of each end behind s
    short_of : (m : Piece) → Contains ways m → IsOnViewLine d line (of_spot m.b) → IsBefore d (of_spot s) (of_spot m.b) → IsBefore d q (of_spot m.b)
    short_of m there on later = by (three_ways d q (of_spot m.b))
      where
        never : ¬ IsUpTo d (of_spot m.b) q
        never up_to =
            let g = h.over (onward_to t m) (Contains-append_right ways (map (onward_to t) ways) (onward_to t m) (map_contains (onward_to t) ways m there))
            (up_to_before d (of_spot m.b) q (of_spot t) m.b.positive h.positive t.positive up_to h.before)
            (lies_of_up_to d m.b t q line proper on on_t h.on up_to (inl h.before)) in
            not_back d (of_spot s) (of_spot m.b) s.positive m.b.positive later g.first

        by : IsBefore d q (of_spot m.b) ⊎ (OnOneSight d q (of_spot m.b) ⊎ IsBefore d (of_spot m.b) q) → IsBefore d q (of_spot m.b)
        by (inl less) = less
        by (inr (inl seen)) = absurd (never (inr (sight_back d q (of_spot m.b) seen)))
        by (inr (inr more)) = absurd (never (inl more))

    both_held : (m : Piece) → Contains ways m → RunsOn d line m → IsUpTo d (of_spot m.a) (of_spot s) → IsBefore d (of_spot s) (of_spot m.b) → LiesOn d m q × LiesOn d m (of_spot s)
    both_held m there runs first later = (
      lies_of_up_to d m.a m.b q line proper runs.0 runs.1 h.on (inl (up_to_before d (of_spot m.a) (of_spot s) q m.a.positive s.positive h.positive first h.after)) (inl (short_of m there runs.1 later)),
      lies_of_up_to d m.a m.b (of_spot s) line proper runs.0 runs.1 on_s first (inl later),
    )

    -- ---- s is seen where p is
    module _ (seen : OnOneSight d (of_spot s) p) where
      onward_over : (m : Piece) → Contains ways m → IsBefore d (of_spot m.a) (of_spot m.b) → LiesOn d m q → RunsOn d line m × LiesOn d m p
      onward_over m there ends lies =
          let g = near_too.over m there ends lies in (
            (g.on_a, g.on_b),
            lies_of_up_to d m.a m.b p line proper g.on_a g.on_b on_p
                (up_to_on d (of_spot m.a) (of_spot s) p m.a.positive s.positive positive g.first (inr seen))
                (inl (seen_before d p (of_spot s) (of_spot m.b) positive s.positive m.b.positive (sight_back d (of_spot s) p seen)
                (before_on d (of_spot s) q (of_spot m.b) s.positive h.positive m.b.positive h.after g.last))),
          )

      onward_held : (m : Piece) → Contains ways m → RunsOn d line m → Goes onward d p m → LiesOn d m q × LiesOn d m (of_spot s)
      onward_held m there runs (first, last) =
          both_held m there runs (up_to_on d (of_spot m.a) p (of_spot s) m.a.positive positive s.positive first (inr (sight_back d (of_spot s) p seen)))
          (seen_before d (of_spot s) p (of_spot m.b) s.positive positive m.b.positive seen last)

    -- ---- s is the last end before p
    module _ (a : Spot) (is : IsLastBefore d line p (ways ++ map turn ways) a s) where
      backward_over : (m : Piece) → Contains ways m → IsBefore d (of_spot m.a) (of_spot m.b) → LiesOn d m q → RunsOn d line m × LiesOn d m p
      backward_over m there ends lies = (
        (g.on_a, g.on_b),
        lies_of_up_to d m.a m.b p line proper g.on_a g.on_b on_p
            (inl (up_to_before d (of_spot m.a) (of_spot s) p m.a.positive s.positive positive g.first is.before)) (by (three_ways d p (of_spot m.b))),
      )
        where
          g : GoesOver d line s q m
          g = near_too.over m there ends lies

          by : IsBefore d p (of_spot m.b) ⊎ (OnOneSight d p (of_spot m.b) ⊎ IsBefore d (of_spot m.b) p) → IsUpTo d p (of_spot m.b)
          by (inl less) = inl less
          by (inr (inl seen)) = inr seen
          by (inr (inr more)) =
              absurd (not_back d (of_spot s) (of_spot m.b) s.positive m.b.positive (before_on d (of_spot s) q (of_spot m.b) s.positive h.positive m.b.positive h.after g.last)
              (is.last m (Contains-append_left ways (map turn ways) m there) g.on_b more))

      backward_held : (m : Piece) → Contains ways m → RunsOn d line m → Goes backward d p m → LiesOn d m q × LiesOn d m (of_spot s)
      backward_held m there runs (first, last) =
          both_held m there runs (is.last (turn m) (Contains-append_right ways (map turn ways) (turn m) (map_contains turn ways m there)) runs.0 first)
          (before_up_to d (of_spot s) p (of_spot m.b) s.positive positive m.b.positive is.before last)

  -- beyond p, where s is seen, on the way to t
  pub beside_onward : (s t : Spot) → OnOneSight d (of_spot s) p → IsOnViewLine d line (of_spot t) → IsBefore d p (of_spot t) → (q : Point) × IsBeside d line p ways onward s t q
  beside_onward s t seen on_t later =
      let on_s = on_sight d line p (of_spot s) positive (sight_back d (of_spot s) p seen) on_p in
      let (q, h) = near d line proper [] (ways_to t) s t on_s on_t (seen_before d (of_spot s) p (of_spot t) s.positive positive t.positive seen later) in
      (q, record { near = near_too s t on_s on_t q h; over = onward_over s t on_s on_t q h seen; held = onward_held s t on_s on_t q h seen })

  -- before p, behind a, on the way to t
  pub beside_backward : (a t : Spot) → IsOnViewLine d line (of_spot a) → IsBefore d (of_spot a) p → IsOnViewLine d line (of_spot t) → IsUpTo d p (of_spot t)
      → (s : Spot) × (q : Point) × IsBeside d line p ways backward s t q
  beside_backward a t on_a after on_t later =
      let (s, is) = last_before d line p positive a (ways ++ map turn ways) on_a after in
      let (q, h) = near d line proper [] (ways_to t) s t is.on on_t (before_up_to d (of_spot s) p (of_spot t) s.positive positive t.positive is.before later) in
      (s, q, record { near = near_too s t is.on on_t q h; over = backward_over s t is.on on_t q h a is; held = backward_held s t is.on on_t q h a is })

  -- the same for a piece that holds p
  pub record HasBeside (l : Piece) : Type 0 where
    pub way : Way
    pub from : Spot
    pub to : Spot
    pub point : Point
    pub is : IsBeside d line p ways way from to point
    pub goes : Goes way d p l

  pub beside : (l : Piece) → RunsOn d line l → IsBefore d (of_spot l.a) (of_spot l.b) → IsUpTo d (of_spot l.a) p × IsUpTo d p (of_spot l.b) → HasBeside l
  beside l runs ends (inr seen, last) =
      let later = seen_before d p (of_spot l.a) (of_spot l.b) positive l.a.positive l.b.positive (sight_back d (of_spot l.a) p seen) ends in
      let (q, is) = beside_onward l.a l.b seen runs.1 later in
      record { way = onward; from = l.a; to = l.b; point = q; is = is; goes = (inr seen, later) }
  beside l runs ends (inl after, last) =
      let (s, q, is) = beside_backward l.a l.b runs.0 after runs.1 last in
      record { way = backward; from = s; to = l.b; point = q; is = is; goes = (after, last) }
