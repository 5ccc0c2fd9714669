-- Each point of a piece that strips are put together to lies on one of them, also one that is at an end or where lines cross: just before
-- it are points that are clear.
use Rattle.std.proofs.Common.{◌≡◌, ◌⊎◌, inl, inr, zero, suc, List, [], ◌∷◌, ◌++◌, Contains, map, get_or, refl, subst, arith}
use Rattle.std.proofs.lemmas.List.Elements.{All-contains, Contains-get_or, Contains-append_left, Contains-append_right}
use Rattle.hiding_laws.proofs.Decisions.{same_or}
use Rattle.lattice.specs.declared.points.Spot.{Spot}
use Rattle.lattice.specs.declared.pieces.Piece.{Piece}
use Rattle.lattice.specs.declared.pieces.Strip.{Strip}
use Rattle.lattice.specs.declared.pieces.Style.{Style}
use Rattle.lattice.specs.declared.pieces.Style.TheVariants.{Solid, Dashed, Chain}
use Rattle.lattice.specs.Lines.{IsSameLine, AreStripEnds}
use Rattle.lattice.specs.Triple.{Triple}
use Rattle.lattice.specs.Points.{Point, IsPoint, of_spot, OnOneSight}
use Rattle.lattice.proofs.SameLines.{same_line}
use Rattle.geometry.specs.Pieces.{LiesOn, IsBefore}
use Rattle.geometry.proofs.Sights.{sight_back}
use Rattle.line_merge.specs.Merging.{AreStrips, LiesOnStrip, IsClear, AreMerged}
use Rattle.line_merge.proofs.Lists.{map_contains}
use Rattle.line_merge.proofs.Sights.{not_seen}
use Rattle.drawing_laws.proofs.Shrinking.{GoesOver, IsNear, near}
use Rattle.drawing_laws.proofs.Sparse.{ViewLine, IsOnViewLine}
use Rattle.drawing_laws.proofs.ViewLines.{IsProper, line_through, through_first, through_second, through_proper, on_between, on_too}
use Rattle.drawing_laws.proofs.ViewOrder.{IsUpTo, seen_itself, three_ways, before_up_to, up_to_before, up_to_on, not_back, up_to_of_lies, lies_first, lies_second, lies_of_up_to}
use Rattle.line_merge.proofs.Given.{between_turned}

-- ---- a strip from its one end to the other, and back
abbrev pub ahead : Strip → Piece
ahead x = record { a = x.a; b = x.b; style = Solid }

abbrev pub back : Strip → Piece
back x = record { a = x.b; b = x.a; style = Solid }

abbrev pub both_ways : List Strip → List Piece
both_ways strips = map ahead strips ++ map back strips

pub ahead_in : (strips : List Strip) (x : Strip) → Contains strips x → Contains (both_ways strips) (ahead x)
ahead_in strips x there = Contains-append_left (map ahead strips) (map back strips) (ahead x) (map_contains ahead strips x there)

pub back_in : (strips : List Strip) (x : Strip) → Contains strips x → Contains (both_ways strips) (back x)
back_in strips x there = Contains-append_right (map ahead strips) (map back strips) (back x) (map_contains back strips x there)

-- what holds of the first and of the others
of_each : (Q : Piece → Type 0) (n : Piece) (ways : List Piece) → Q n → ((m : Piece) → Contains ways m → Q m) → (m : Piece) → Contains (n ∷ ways) m → Q m
of_each Q n ways first rest m (zero, within, e) = subst Q e first
of_each Q n ways first rest m (suc i, within, e) = rest m (i, omega (arith, within), e)

-- ---- the last of the spots before a point
-- s is on the line and before p, from the spot a on, and no end b of these pieces that is so is behind it
pub record IsLastBefore (d : Triple) (line : ViewLine) (p : Point) (ways : List Piece) (a s : Spot) : Type 0 where
  pub on : IsOnViewLine d line (of_spot s)
  pub before : IsBefore d (of_spot s) p
  pub from : IsUpTo d (of_spot a) (of_spot s)
  pub last : (m : Piece) → Contains ways m → IsOnViewLine d line (of_spot m.b) → IsBefore d (of_spot m.b) p → IsUpTo d (of_spot m.b) (of_spot s)

module _ (d : Triple) (line : ViewLine) (p : Point) (positive : IsPoint p) where
  abbrev IsEarlier : Spot → Type 0
  IsEarlier s = IsOnViewLine d line (of_spot s) × IsBefore d (of_spot s) p

  earlier_or : (s : Spot) → IsEarlier s ⊎ ¬ IsEarlier s
  earlier_or s = by (same_or _ _) (three_ways d (of_spot s) p)
    where
      by : IsOnViewLine d line (of_spot s) ⊎ ¬ IsOnViewLine d line (of_spot s)
          → IsBefore d (of_spot s) p ⊎ (OnOneSight d (of_spot s) p ⊎ IsBefore d p (of_spot s)) → IsEarlier s ⊎ ¬ IsEarlier s
      by (inr off) h = inr (λ k. off k.0)
      by (inl on) (inl h) = inl (on, h)
      by (inl on) (inr (inl h)) = inr (λ k. not_seen d (of_spot s) p k.1 h)
      by (inl on) (inr (inr h)) = inr (λ k. not_back d (of_spot s) p s.positive positive k.1 (inl h))

  module _ (a : Spot) where
    -- one more piece, whose end comes up to s, behind it, or isn't on the line and before p
    module _ (n : Piece) (ways : List Piece) (s : Spot) (is : IsLastBefore d line p ways a s) where
      abbrev IsLast : Spot → Piece → Type 0
      IsLast t m = IsOnViewLine d line (of_spot m.b) → IsBefore d (of_spot m.b) p → IsUpTo d (of_spot m.b) (of_spot t)

      as_before : (IsEarlier n.b → IsUpTo d (of_spot n.b) (of_spot s)) → (t : Spot) × IsLastBefore d line p (n ∷ ways) a t
      as_before h = (s, record { on = is.on; before = is.before; from = is.from; last = of_each (IsLast s) n ways (λ on less. h (on, less)) is.last })

      behind : IsEarlier n.b → IsBefore d (of_spot s) (of_spot n.b) → (t : Spot) × IsLastBefore d line p (n ∷ ways) a t
      behind h more = (
        n.b,
        record {
          on = h.0;
          before = h.1;
          from = up_to_on d (of_spot a) (of_spot s) (of_spot n.b) a.positive s.positive n.b.positive is.from (inl more);
          last = of_each (IsLast n.b) n ways (λ on less. inr (seen_itself d (of_spot n.b)))
              (λ m there on less. up_to_on d (of_spot m.b) (of_spot s) (of_spot n.b) m.b.positive s.positive n.b.positive (is.last m there on less) (inl more));
        },
      )

      one_more : IsEarlier n.b ⊎ ¬ IsEarlier n.b → IsBefore d (of_spot n.b) (of_spot s) ⊎ (OnOneSight d (of_spot n.b) (of_spot s) ⊎ IsBefore d (of_spot s) (of_spot n.b))
          → (t : Spot) × IsLastBefore d line p (n ∷ ways) a t
      one_more (inr never) k = as_before (λ h. absurd (never h))
      one_more (inl h) (inl less) = as_before (λ g. inl less)
      one_more (inl h) (inr (inl seen)) = as_before (λ g. inr seen)
      one_more (inl h) (inr (inr more)) = behind h more

    pub last_before : (ways : List Piece) → IsOnViewLine d line (of_spot a) → IsBefore d (of_spot a) p → (s : Spot) × IsLastBefore d line p ways a s
    last_before [] on less = (a, record { on = on; before = less; from = inr (seen_itself d (of_spot a)); last = λ m there. absurd (none m there) })
      where
        none : (m : Piece) → ¬ Contains [] m
        none m (k, within, e) = omega (arith, within)
    last_before (n ∷ ways) on less = let (s, is) = last_before ways on less in one_more n ways s is (earlier_or n.b) (three_ways d (of_spot n.b) (of_spot s))

-- ---- near a spot of a line
module _ (d : Triple) (strips : List Strip) (are : AreStrips d strips) where
  ends_of : (x : Strip) → Contains strips x → AreStripEnds d x.line x.a x.b
  ends_of x there = All-contains (λ (x : Strip). AreStripEnds d x.line x.a x.b) strips x are there

  module _ (line : ViewLine) (proper : IsProper line) (s t : Spot) (q : Point) (h : IsNear d line [] (both_ways strips) s t q) where
    -- x goes along the line, from s or before it to beyond q: from a to b, or from b to a
    abbrev Over : Strip → Type 0
    Over x = GoesOver d line s q (ahead x) ⊎ GoesOver d line s q (back x)

    over_of : (x : Strip) → Contains strips x → LiesOnStrip d x q → Over x
    over_of x there lies = by (three_ways d (of_spot x.a) (of_spot x.b))
      where
        by : IsBefore d (of_spot x.a) (of_spot x.b) ⊎ (OnOneSight d (of_spot x.a) (of_spot x.b) ⊎ IsBefore d (of_spot x.b) (of_spot x.a)) → Over x
        by (inl less) = inl (h.over (ahead x) (ahead_in strips x there) less lies)
        by (inr (inl seen)) = absurd ((ends_of x there).apart seen)
        by (inr (inr more)) = inr (h.over (back x) (back_in strips x there) more (between_turned d x.a x.b q lies))

    off_first : (m : Piece) → GoesOver d line s q m → ¬ OnOneSight d (of_spot m.a) q
    off_first m g = not_seen d (of_spot m.a) q (up_to_before d (of_spot m.a) (of_spot s) q m.a.positive s.positive h.positive g.first h.after)

    off_last : (m : Piece) → GoesOver d line s q m → ¬ OnOneSight d (of_spot m.b) q
    off_last m g seen = not_seen d q (of_spot m.b) g.last (sight_back d (of_spot m.b) q seen)

    off_ends : (x : Strip) → Over x → (¬ OnOneSight d (of_spot x.a) q) × (¬ OnOneSight d (of_spot x.b) q)
    off_ends x (inl g) = (off_first (ahead x) g, off_last (ahead x) g)
    off_ends x (inr g) = (off_last (back x) g, off_first (back x) g)

    both_on : (x : Strip) → Over x → IsOnViewLine d line (of_spot x.a) × IsOnViewLine d line (of_spot x.b)
    both_on x (inl g) = (g.on_a, g.on_b)
    both_on x (inr g) = (g.on_b, g.on_a)

    one_line : (x y : Strip) → Contains strips x → Contains strips y → LiesOnStrip d x q → LiesOnStrip d y q → IsSameLine x.line y.line
    one_line x y in_x in_y on_x on_y =
        let of_x = ends_of x in_x in
        let of_y = ends_of y in_y in
        let line_x = both_on x (over_of x in_x on_x) in
        let line_y = both_on y (over_of y in_y on_y) in
        let along : ViewLine = record { x = y.line.a; y = y.line.b; z = y.line.c } in
        same_line d x.line y.line (of_spot x.a) (of_spot x.b) x.a.positive x.b.positive of_x.apart of_x.first of_x.second
        (on_too d line along (of_spot y.a) (of_spot y.b) (of_spot x.a) proper of_y.apart line_y.0 line_y.1 line_x.0 of_y.first of_y.second)
        (on_too d line along (of_spot y.a) (of_spot y.b) (of_spot x.b) proper of_y.apart line_y.0 line_y.1 line_x.1 of_y.first of_y.second)

    pub clear_near : IsClear d strips q
    clear_near = record {
      off_ends = λ k x within.
          let y = get_or strips k x in
          let there = Contains-get_or strips k x within in (
            λ seen. (off_ends y (over_of y there (lies_first d y.a y.b q seen))).0 seen,
            λ seen. (off_ends y (over_of y there (lies_second d y.a y.b q seen))).1 seen,
          );
      one_line = one_line;
    }

    -- such a strip reaches up to a point behind q, if no end of a strip is between
    module _ (p : Point) (positive : IsPoint p) (on_p : IsOnViewLine d line p) (from : IsUpTo d (of_spot s) p)
        (last : (m : Piece) → Contains (both_ways strips) m → GoesOver d line s q m → IsUpTo d p (of_spot m.b)) where
      reaches : (m : Piece) → Contains (both_ways strips) m → GoesOver d line s q m → LiesOn d m p
      reaches m there g =
          lies_of_up_to d m.a m.b p line proper g.on_a g.on_b on_p (up_to_on d (of_spot m.a) (of_spot s) p m.a.positive s.positive positive g.first from) (last m there g)

      lies_by : (x : Strip) → Contains strips x → Over x → LiesOnStrip d x p
      lies_by x there (inl g) = reaches (ahead x) (ahead_in strips x there) g
      lies_by x there (inr g) = between_turned d x.b x.a p (reaches (back x) (back_in strips x there) g)

      reached : (x : Strip) × Contains strips x × LiesOnStrip d x q → (x : Strip) × Contains strips x × LiesOnStrip d x p
      reached (x, there, lies) = (x, there, lies_by x there (over_of x there lies))

-- ---- the strips that are put together
module _ (d : Triple) (strips : List Strip) (are : AreStrips d strips) (pieces : List Piece) (merged : AreMerged d strips pieces) where
  pub strip_at_clear : (q : Point) → IsPoint q → IsClear d strips q → (l : Piece) → Contains pieces l → LiesOn d l q → (x : Strip) × Contains strips x × LiesOnStrip d x q
  strip_at_clear q positive clear l there lies = by l.style refl
    where
      by : (style : Style) → l.style ≡ style → (x : Strip) × Contains strips x × LiesOnStrip d x q
      by Solid is = let (x, listed, kind, on) = (merged.visible q positive clear).0 (l, there, is, lies) in (x, listed, on)
      by Dashed is = let (x, listed, kind, on) = ((merged.hidden q positive clear).0 (l, there, is, lies)).0 in (x, listed, on)
      by Chain is = ((merged.traces q positive clear).0 (l, there, is, lies)).some

  module _ (l : Piece) (there : Contains pieces l) (p : Point) (positive : IsPoint p) (lies : LiesOn d l p) where
    less : IsBefore d (of_spot l.a) (of_spot l.b)
    less = All-contains (λ (l : Piece). IsBefore d (of_spot l.a) (of_spot l.b)) pieces l merged.order.ends there

    abbrev line : ViewLine
    line = line_through d (of_spot l.a) (of_spot l.b)

    proper : IsProper line
    proper = through_proper d (of_spot l.a) (of_spot l.b) (not_seen d (of_spot l.a) (of_spot l.b) less)

    on_a : IsOnViewLine d line (of_spot l.a)
    on_a = through_first d (of_spot l.a) (of_spot l.b)

    on_b : IsOnViewLine d line (of_spot l.b)
    on_b = through_second d (of_spot l.a) (of_spot l.b)

    on_p : IsOnViewLine d line p
    on_p = on_between d line l.a l.b p on_a on_b lies

    -- from a spot of the piece up to p, with no end of a strip between
    from_spot : (s : Spot) → IsOnViewLine d line (of_spot s) → IsUpTo d (of_spot l.a) (of_spot s) → IsBefore d (of_spot s) (of_spot l.b) → IsUpTo d (of_spot s) p
        → ((q : Point) → IsNear d line [] (both_ways strips) s l.b q → (m : Piece) → Contains (both_ways strips) m → GoesOver d line s q m → IsUpTo d p (of_spot m.b))
        → (x : Strip) × Contains strips x × LiesOnStrip d x p
    from_spot s on_s first ahead_of from last =
        let (q, h) = near d line proper [] (both_ways strips) s l.b on_s on_b ahead_of in
        let lies_q = lies_of_up_to d l.a l.b q line proper on_a on_b h.on
        (inl (up_to_before d (of_spot l.a) (of_spot s) q l.a.positive s.positive h.positive first h.after)) (inl h.before) in
        reached d strips are line proper s l.b q h p positive on_p from (last q h) (strip_at_clear q h.positive (clear_near d strips are line proper s l.b q h) l there lies_q)

    -- p is where the piece begins: what is near it goes beyond it
    at_start : OnOneSight d (of_spot l.a) p → (x : Strip) × Contains strips x × LiesOnStrip d x p
    at_start seen =
        from_spot l.a on_a (inr (seen_itself d (of_spot l.a))) less (inr seen)
        (λ q h m listed g. inl (up_to_before d p (of_spot l.a) (of_spot m.b) positive l.a.positive m.b.positive (inr (sight_back d (of_spot l.a) p seen))
        (before_up_to d (of_spot l.a) q (of_spot m.b) l.a.positive h.positive m.b.positive h.after (inl g.last))))

    -- else it goes beyond the last end before p
    behind_start : IsBefore d (of_spot l.a) p → IsUpTo d p (of_spot l.b) → (x : Strip) × Contains strips x × LiesOnStrip d x p
    behind_start after up_to =
        let (s, is) = last_before d line p positive l.a (both_ways strips) on_a after in
        from_spot s is.on is.from (before_up_to d (of_spot s) p (of_spot l.b) s.positive positive l.b.positive is.before up_to) (inl is.before)
        (λ q h m listed g. by s is q h m listed g (three_ways d p (of_spot m.b)))
      where
        by : (s : Spot) → IsLastBefore d line p (both_ways strips) l.a s → (q : Point) → IsNear d line [] (both_ways strips) s l.b q
            → (m : Piece) → Contains (both_ways strips) m → GoesOver d line s q m → IsBefore d p (of_spot m.b) ⊎ (OnOneSight d p (of_spot m.b) ⊎ IsBefore d (of_spot m.b) p) → IsUpTo d p (of_spot m.b)
        by s is q h m listed g (inl k) = inl k
        by s is q h m listed g (inr (inl k)) = inr k
        by s is q h m listed g (inr (inr k)) =
            absurd (not_back d (of_spot s) (of_spot m.b) s.positive m.b.positive (before_up_to d (of_spot s) q (of_spot m.b) s.positive h.positive m.b.positive h.after (inl g.last))
            (is.last m listed g.on_b k))

    pub strip_of_piece : (x : Strip) × Contains strips x × LiesOnStrip d x p
    strip_of_piece = by (up_to_of_lies d l.a l.b p positive less lies)
      where
        by : IsUpTo d (of_spot l.a) p × IsUpTo d p (of_spot l.b) → (x : Strip) × Contains strips x × LiesOnStrip d x p
        by (inr seen, up_to) = at_start seen
        by (inl after, up_to) = behind_start after up_to
