-- What pieces show at a point of the window is what the strips of the view say there, also where the window cuts them.
use Rattle.std.proofs.Common.{◌≡◌, inl, inr, ◌↔◌, List, ◌++◌, Contains, get_or, refl, subst, ◌∙◌, arith}
use Rattle.std.proofs.lemmas.List.Elements.{All-contains, Contains-append_left, Contains-append_right, Contains-get_or}
use Rattle.lattice.specs.declared.points.Spot.{Spot}
use Rattle.lattice.specs.declared.pieces.Piece.{Piece}
use Rattle.lattice.specs.declared.pieces.Strip.{Strip}
use Rattle.lattice.specs.declared.pieces.StripKind.{StripKind}
use Rattle.lattice.specs.declared.pieces.Style.{Style}
use Rattle.lattice.specs.declared.pieces.Style.TheVariants.{Solid, Dashed, Chain}
use Rattle.lattice.specs.Lines.{IsOnLine, IsSameLine, AreStripEnds}
use Rattle.lattice.specs.Triple.{Triple}
use Rattle.lattice.specs.Points.{Point, IsPoint, of_spot, OnOneSight}
use Rattle.geometry.specs.Pieces.{LiesOn, LiesOnStyle, LieOnOnce, IsBefore, ShareAnEnd}
use Rattle.geometry.proofs.Sights.{sight_back, sight_on}
use Rattle.line_merge.specs.Merging.{AreStrips, LiesOnStrip, LiesOnKind, IsClear, AreMerged}
use Rattle.line_merge.proofs.Sights.{not_seen, seen_before}
use Rattle.drawing_laws.proofs.Sparse.{ViewLine, IsOnViewLine}
use Rattle.drawing_laws.proofs.ViewLines.{IsProper, line_through, through_first, through_second, through_proper, on_between, on_too, parallel_on}
use Rattle.drawing_laws.proofs.ViewOrder.{IsUpTo, up_to_of_lies}
use Rattle.detail_pieces.specs.declared.windows.Window.{Window}
use Rattle.detail_pieces.specs.Windows.{IsWithinWindow, IsAtWindowCorner, AreClipped}
use Rattle.detail_pieces.proofs.Another.{another}
use Rattle.detail_pieces.proofs.Beside.{Way, onward, backward, RunsOn, Goes, IsBeside, HasBeside, beside_onward, beside_backward, beside}
use Rattle.detail_pieces.proofs.Covered.{both_ways, clear_near, strip_at_clear, strip_of_piece}
use Rattle.detail_pieces.proofs.Told.{Turned, way_of, in_order, lies_way, lies_strip, runs_way, runs_strip, in_both_ways, passes, view_line, line_proper, on_same, same_on, same_back, Tells, tells_too, one_style, told_clear}

itself : (x : Strip) → IsSameLine x.line x.line
itself x = record { a = refl; b = refl; c = refl }

module _ (d : Triple) (o : Window) (strips clipped : List Strip) (proper : AreStrips d strips) (are : AreClipped d o strips clipped) (pieces : List Piece) (merged : AreMerged d clipped pieces) where
  -- no piece has a point outside of the window
  pub within_window : (l : Piece) → Contains pieces l → (p : Point) → IsPoint p → LiesOn d l p → IsWithinWindow d o p
  within_window l there p positive lies = let (x, listed, on) = strip_of_piece d clipped are.proper pieces merged l there p positive lies in (are.within x listed p positive on).0

  abbrev ways : List Piece
  ways = both_ways clipped ++ (both_ways strips ++ pieces)

  clipped_way : (x : Strip) (u : Turned) → Contains clipped x → Contains ways (way_of u x)
  clipped_way x u there = Contains-append_left (both_ways clipped) (both_ways strips ++ pieces) (way_of u x) (in_both_ways d x u clipped there)

  given_way : (x : Strip) (u : Turned) → Contains strips x → Contains ways (way_of u x)
  given_way x u there =
      Contains-append_right (both_ways clipped) (both_ways strips ++ pieces) (way_of u x) (Contains-append_left (both_ways strips) pieces (way_of u x) (in_both_ways d x u strips there))

  piece_way : (l : Piece) → Contains pieces l → Contains ways l
  piece_way l there = Contains-append_right (both_ways clipped) (both_ways strips ++ pieces) l (Contains-append_right (both_ways strips) pieces l there)

  ends_of : (xs : List Strip) → AreStrips d xs → (x : Strip) → Contains xs x → AreStripEnds d x.line x.a x.b
  ends_of xs h x there = All-contains (λ (x : Strip). AreStripEnds d x.line x.a x.b) xs x h there

  ordered : (l : Piece) → Contains pieces l → IsBefore d (of_spot l.a) (of_spot l.b)
  ordered l there = All-contains (λ (l : Piece). IsBefore d (of_spot l.a) (of_spot l.b)) pieces l merged.order.ends there

  module _ (p : Point) (positive : IsPoint p) (clear : IsClear d strips p) where
    -- ---- lines through the point
    -- a clipped strip with the point runs on the line
    record Anchor (line : ViewLine) : Type 0 where
      strip : Strip
      listed : Contains clipped strip
      lies : LiesOnStrip d strip p
      runs : IsOnViewLine d line (of_spot strip.a) × IsOnViewLine d line (of_spot strip.b)

    module _ (line : ViewLine) (anchor : Anchor line) where
      -- a strip that is on one line with a given one through the point runs on it too
      runs_along : (y : Strip) → AreStripEnds d y.line y.a y.b → (v : Strip) → Contains strips v → LiesOnStrip d v p → IsSameLine v.line y.line
          → IsOnViewLine d line (of_spot y.a) × IsOnViewLine d line (of_spot y.b)
      runs_along y ends v in_v on_v same = (at y.a ends.first, at y.b ends.second)
        where
          x : Strip
          x = anchor.strip

          x_ends : AreStripEnds d x.line x.a x.b
          x_ends = ends_of clipped are.proper x anchor.listed

          one : IsSameLine y.line x.line
          one =
              let (w, in_w, same_w, kind, on_w) = (are.within x anchor.listed p positive anchor.lies).1 in
              same_on y.line v.line x.line (same_back v.line y.line same) (same_on v.line w.line x.line (clear.one_line v w in_v in_w on_v on_w) same_w)

          at : (r : Spot) → IsOnLine d y.line (of_spot r) → IsOnViewLine d line (of_spot r)
          at r on =
              on_too d (view_line x.line) line (of_spot x.a) (of_spot x.b) (of_spot r) (line_proper x.line) x_ends.apart x_ends.first x_ends.second
              (on_same d y.line x.line (of_spot r) one on) anchor.runs.0 anchor.runs.1

      given_runs : (y : Strip) → Contains strips y → LiesOnStrip d y p → IsOnViewLine d line (of_spot y.a) × IsOnViewLine d line (of_spot y.b)
      given_runs y there on = runs_along y (ends_of strips proper y there) y there on (itself y)

      -- what is on another such line is on it
      other_line : (n : ViewLine) → Anchor n → IsProper n → (r : Point) → IsOnViewLine d n r → IsOnViewLine d line r
      other_line n b n_proper r on =
          let x = b.strip in
          let ends = ends_of clipped are.proper x b.listed in
          let (v, in_v, same, kind, on_v) = (are.within x b.listed p positive b.lies).1 in
          let runs = runs_along x ends v in_v on_v same in
          on_too d n line (of_spot x.a) (of_spot x.b) r n_proper ends.apart b.runs.0 b.runs.1 on runs.0 runs.1

    -- ---- beside the point
    module _ (line : ViewLine) (line_is : IsProper line) (way : Way) (s t : Spot) (q : Point) (is : IsBeside d line p ways way s t q) where
      clear_there : IsClear d clipped q
      clear_there = clear_near d clipped are.proper line line_is s t q (record {
        positive = is.near.positive;
        on = is.near.on;
        after = is.near.after;
        before = is.near.before;
        beside = is.near.beside;
        over = λ m there. is.near.over m (Contains-append_left (both_ways clipped) (both_ways strips ++ pieces) m there);
      })

      strip_over : (x : Strip) → Contains clipped x → LiesOnStrip d x q → (IsOnViewLine d line (of_spot x.a) × IsOnViewLine d line (of_spot x.b)) × LiesOnStrip d x p
      strip_over x there on =
          let (u, ends) = in_order d x (ends_of clipped are.proper x there).apart in
          let (runs, lies) = is.over (way_of u x) (clipped_way x u there) ends (lies_way d x u q on) in
          (runs_strip d x line u runs, lies_strip d x u p lies)

      anchor_of : (x : Strip) → Contains clipped x → LiesOnStrip d x q → Anchor line
      anchor_of x there on = let (runs, lies) = strip_over x there on in record { strip = x; listed = there; lies = lies; runs = runs }

      -- the strips of each kind are those at the point
      module _ (anchor : Anchor line) (in_q : IsWithinWindow d o q) (in_s : IsWithinWindow d o (of_spot s)) where
        kinds : (k : StripKind) → LiesOnKind d clipped k q ↔ LiesOnKind d strips k p
        kinds k = (
          λ (x, there, of, on).
              let (y, in_y, same, e, on_y) = (are.within x there p positive (strip_over x there on).1).1 in
              (y, in_y, e ∙ of, on_y),
          λ (y, there, of, on).
              let (u, ends) = in_order d y (ends_of strips proper y there).apart in
              let off = All-contains (λ (y : Strip). (¬ OnOneSight d (of_spot y.a) p) × (¬ OnOneSight d (of_spot y.b) p)) strips y clear.off_ends there in
              let (on_q, on_s) = is.held (way_of u y) (given_way y u there) (runs_way d y line u (given_runs line anchor y there on)) (passes d y way u p positive ends on off) in
              let (x, in_x, same, e, on_x) = are.along y there q (of_spot s) is.near.positive s.positive (λ seen. not_seen d (of_spot s) q is.near.after (sight_back d q (of_spot s) seen))
              (lies_strip d y u q on_q) (lies_strip d y u (of_spot s) on_s) in_q in_s in
              (x, in_x, e ∙ of, on_x),
        )

    -- q is clear, on the piece, and there the strips are those at the point
    pub record IsShown (l : Piece) (q : Point) : Type 0 where
      pub there : IsPoint q
      pub is_clear : IsClear d clipped q
      pub lies : LiesOn d l q
      pub kinds_there : (k : StripKind) → LiesOnKind d clipped k q ↔ LiesOnKind d strips k p
      pub back : (m : Piece) → Contains pieces m → LiesOn d m q → LiesOn d m p

    -- of a piece, or of a clipped strip, that holds the point
    module _ (l : Piece) (listed : Contains ways l) (ends : IsBefore d (of_spot l.a) (of_spot l.b)) (lies : LiesOn d l p)
        (held : (r : Point) → IsPoint r → LiesOn d l r → IsWithinWindow d o r)
        (covered : (r : Point) → IsPoint r → IsClear d clipped r → LiesOn d l r → (x : Strip) × Contains clipped x × LiesOnStrip d x r) where
      abbrev line_of : ViewLine
      line_of = line_through d (of_spot l.a) (of_spot l.b)

      line_of_is : IsProper line_of
      line_of_is = through_proper d (of_spot l.a) (of_spot l.b) (not_seen d (of_spot l.a) (of_spot l.b) ends)

      runs_of : RunsOn d line_of l
      runs_of = (through_first d (of_spot l.a) (of_spot l.b), through_second d (of_spot l.a) (of_spot l.b))

      on_p : IsOnViewLine d line_of p
      on_p = on_between d line_of l.a l.b p runs_of.0 runs_of.1 lies

      found : HasBeside d line_of line_of_is p positive on_p ways l
      found = beside d line_of line_of_is p positive on_p ways l runs_of ends (up_to_of_lies d l.a l.b p positive ends lies)

      on_both : LiesOn d l found.point × LiesOn d l (of_spot found.from)
      on_both = found.is.held l listed runs_of found.goes

      anchored : Anchor line_of
      anchored =
          let clear_q = clear_there line_of line_of_is found.way found.from found.to found.point found.is in
          let (x, there, on) = covered found.point found.is.near.positive clear_q on_both.0 in
          anchor_of line_of line_of_is found.way found.from found.to found.point found.is x there on

      shown_at : IsShown l found.point
      shown_at = record {
        there = found.is.near.positive;
        is_clear = clear_there line_of line_of_is found.way found.from found.to found.point found.is;
        lies = on_both.0;
        kinds_there = kinds line_of line_of_is found.way found.from found.to found.point found.is anchored
            (held found.point found.is.near.positive on_both.0) (held (of_spot found.from) found.from.positive on_both.1);
        back = λ m there on. (found.is.over m (piece_way m there) (ordered m there) on).1;
      }

    -- ---- what pieces show
    module _ (l : Piece) (listed : Contains pieces l) (lies : LiesOn d l p) where
      shown_of : (q : Point) × IsShown l q
      shown_of = (_, shown_at l (piece_way l listed) (ordered l listed) lies (within_window l listed) (λ q there at_clear on. strip_at_clear d clipped are.proper pieces merged q there at_clear l listed on))

      anchor_piece : Anchor (line_through d (of_spot l.a) (of_spot l.b))
      anchor_piece = anchored l (piece_way l listed) (ordered l listed) lies (within_window l listed) (λ q there at_clear on. strip_at_clear d clipped are.proper pieces merged q there at_clear l listed on)

      told : Tells d strips l.style p
      told = let (q, is) = shown_of in tells_too d clipped strips q p is.kinds_there l.style ((told_clear d clipped pieces merged q is.there is.is_clear l.style).0 (l, listed, refl, is.lies))

    -- where a clipped strip holds the point, some piece is of the style that the strips say
    style_at : (x : Strip) → Contains clipped x → LiesOnStrip d x p → (s : Style) → Tells d strips s p → LiesOnStyle d pieces s p
    style_at x there on s says =
        let (u, ends) = in_order d x (ends_of clipped are.proper x there).apart in
        let is = shown_at (way_of u x) (clipped_way x u there) ends (lies_way d x u p on) (λ r hr h. (are.within x there r hr (lies_strip d x u r h)).0) (λ r hr at_clear h. (x, there, lies_strip d x u r h)) in
        let (m, in_m, style, on_m) = (told_clear d clipped pieces merged _ is.there is.is_clear s).1 (tells_too d strips clipped p _ (λ k. ((is.kinds_there k).1, (is.kinds_there k).0)) s says) in
        (m, in_m, style, is.back m in_m on_m)

    a_strip : (s : Style) → Tells d strips s p → (y : Strip) × Contains strips y × LiesOnStrip d y p
    a_strip Solid (y, there, is, on) = (y, there, on)
    a_strip Dashed ((y, there, is, on), none) = (y, there, on)
    a_strip Chain ((y, there, is, on), none, no_hidden) = (y, there, on)

    pub shows : IsWithinWindow d o p → ¬ IsAtWindowCorner d o p → (s : Style) → LiesOnStyle d pieces s p ↔ Tells d strips s p
    shows within off s = (λ (l, listed, is, lies). of_style l listed lies s is, λ says. from (a_strip s says) says)
      where
        of_style : (l : Piece) → Contains pieces l → LiesOn d l p → (s : Style) → l.style ≡ s → Tells d strips s p
        of_style l listed lies s is = subst (λ (s : Style). Tells d strips s p) is (told l listed lies)

        from : (y : Strip) × Contains strips y × LiesOnStrip d y p → Tells d strips s p → LiesOnStyle d pieces s p
        from (y, there, on) says =
            let off_ends = All-contains (λ (y : Strip). (¬ OnOneSight d (of_spot y.a) p) × (¬ OnOneSight d (of_spot y.b) p)) strips y clear.off_ends there in
            let (r, is) = another d o y.a y.b p positive off_ends.0 off_ends.1 within off on in
            let (x, in_x, same, kind, on_x) = are.along y there p r positive is.positive (λ seen. is.apart (sight_back d p r seen)) on is.lies within is.within in
            style_at x in_x on_x s says

    -- ---- no two pieces share the point
    pub shown_once : LieOnOnce d pieces p
    shown_once i j e less within first second = by (up_to_of_lies d l.a l.b p positive (ordered l in_l) first) (up_to_of_lies d m.a m.b p positive (ordered m in_m) second)
      where
        l : Piece
        l = get_or pieces i e

        m : Piece
        m = get_or pieces j e

        in_l : Contains pieces l
        in_l = Contains-get_or pieces i e (omega (arith, less, within))

        in_m : Contains pieces m
        in_m = Contains-get_or pieces j e within

        line : ViewLine
        line = line_through d (of_spot l.a) (of_spot l.b)

        line_is : IsProper line
        line_is = through_proper d (of_spot l.a) (of_spot l.b) (not_seen d (of_spot l.a) (of_spot l.b) (ordered l in_l))

        runs_l : RunsOn d line l
        runs_l = (through_first d (of_spot l.a) (of_spot l.b), through_second d (of_spot l.a) (of_spot l.b))

        on_line : IsOnViewLine d line p
        on_line = on_between d line l.a l.b p runs_l.0 runs_l.1 first

        runs_m : RunsOn d line m
        runs_m =
            let n = line_through d (of_spot m.a) (of_spot m.b) in
            let n_is = through_proper d (of_spot m.a) (of_spot m.b) (not_seen d (of_spot m.a) (of_spot m.b) (ordered m in_m)) in
            let here = other_line line (anchor_piece l in_l first) n (anchor_piece m in_m second) n_is in
            (here (of_spot m.a) (through_first d (of_spot m.a) (of_spot m.b)), here (of_spot m.b) (through_second d (of_spot m.a) (of_spot m.b)))

        -- both go on the same way: they share a clear point
        same_way : (way : Way) (s t : Spot) (q : Point) → IsBeside d line p ways way s t q → Goes way d p l → Goes way d p m → ⊥
        same_way way s t q is goes goes_too =
            merged.once q is.near.positive (clear_there line line_is way s t q is) i j e less within (is.held l (piece_way l in_l) runs_l goes).0 (is.held m (piece_way m in_m) runs_m goes_too).0

        -- from a spot that is seen there
        both_onward : (s t : Spot) → OnOneSight d (of_spot s) p → IsOnViewLine d line (of_spot t) → IsBefore d p (of_spot t) → Goes onward d p l → Goes onward d p m → ⊥
        both_onward s t seen on_t later goes goes_too = let (q, is) = beside_onward d line line_is p positive on_line ways s t seen on_t later in same_way onward s t q is goes goes_too

        -- one ends where the other begins: they are of one style, and so whole
        joined : ¬ ShareAnEnd d l m
        joined = merged.whole i j e less within (one_style d strips p l.style m.style (told l in_l first) (told m in_m second)) (parallel_on d line l m line_is runs_l.0 runs_l.1 runs_m.0 runs_m.1)

        beyond : (x : Piece) → Contains pieces x → OnOneSight d (of_spot x.a) p → IsBefore d p (of_spot x.b)
        beyond x there seen = seen_before d p (of_spot x.a) (of_spot x.b) positive x.a.positive x.b.positive (sight_back d (of_spot x.a) p seen) (ordered x there)

        by : IsUpTo d (of_spot l.a) p × IsUpTo d p (of_spot l.b) → IsUpTo d (of_spot m.a) p × IsUpTo d p (of_spot m.b) → ⊥
        by (inl after, last) (inl after_too, last_too) =
            let (s, q, is) = beside_backward d line line_is p positive on_line ways l.a l.b runs_l.0 after runs_l.1 last in
            same_way backward s l.b q is (after, last) (after_too, last_too)
        by (inr seen, last) (inr seen_too, last_too) =
            let later = beyond l in_l seen in
            both_onward l.a l.b seen runs_l.1 later (inr seen, later) (inr seen_too, beyond m in_m seen_too)
        by (inl after, inl last) (inr seen, last_too) = let later = beyond m in_m seen in both_onward m.a m.b seen runs_m.1 later (inl after, last) (inr seen, later)
        by (inl after, inr seen_last) (inr seen, last_too) = joined (inr (inr (inl (sight_on d (of_spot l.b) p (of_spot m.a) positive (sight_back d p (of_spot l.b) seen_last) (sight_back d (of_spot m.a) p seen)))))
        by (inr seen, last) (inl after, inl last_too) = let later = beyond l in_l seen in both_onward l.a l.b seen runs_l.1 later (inr seen, later) (inl after, last_too)
        by (inr seen, last) (inl after, inr seen_last) = joined (inr (inl (sight_on d (of_spot l.a) p (of_spot m.b) positive seen seen_last)))
