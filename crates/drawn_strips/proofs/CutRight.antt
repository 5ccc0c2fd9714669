-- Strips of the drawn edges beyond the plane and of the section's borders show what the cut view draws and hides, and put together they are right for it.
use Rattle.std.proofs.Common.{◌≡◌, ℕ, ◌+◌, ◌<◌, ◌⊎◌, inl, inr, List, All, length, Contains, get_or, sym, subst, arith}
use Rattle.std.specs.Prelude.{ℤ, pos, ◌<ℤ◌, ◌≤ℤ◌}
use Rattle.std.proofs.lemmas.Int.{ints, by_lt_z}
use Rattle.std.proofs.lemmas.List.Elements.{All-contains, Contains-get_or, Contains-append_cases, Contains-append_left, Contains-append_right}
use Rattle.lattice.specs.declared.pieces.Piece.{Piece}
use Rattle.lattice.specs.declared.pieces.Strip.{Strip}
use Rattle.lattice.specs.declared.pieces.StripKind.{StripKind}
use Rattle.lattice.specs.declared.pieces.StripKind.TheVariants.{Seen}
use Rattle.lattice.specs.Triangles.{IsBelow}
use Rattle.lattice.specs.Triple.{Triple}
use Rattle.lattice.specs.Points.{Point, IsPoint, OnOneSight, of_spot}
use Rattle.lattice.specs.Lines.{IsSameLine, AreStripEnds}
use Rattle.lattice.specs.Cuts.{Plane, toward_of, IsBeyond}
use Rattle.geometry.specs.Faces.{share_point, IsPointOfFace}
use Rattle.geometry.specs.Parts.{Part, Face, Edge, IsNumbered, IsClosed}
use Rattle.geometry.specs.Cuts.{EdgeOrBorder, edge, border, step_of, IsSeenOverInCut, IsOnBorder, IsDrawnInCut, IsHiddenInCut, IsOrdinaryInCut}
use Rattle.geometry.specs.Scenes.{IsSeenAt, AreRightInCut}
use Rattle.geometry.specs.Views.{IsDrawn, IsOrdinary, AreDrawnEdges}
use Rattle.geometry.proofs.Borders.{on_plane_is_visible}
use Rattle.geometry.proofs.BorderSteps.{ordinary_along_cut}
use Rattle.geometry.proofs.StepLines.{RunsAlong, one_line}
use Rattle.geometry.proofs.OnLines.{on_line_between}
use Rattle.geometry.proofs.Sights.{sight_on}
use Rattle.geometry.specs.Places.{IsBetween, HasNoEndAt}
use Rattle.hiding_laws.proofs.CutPlanes.{ordinary-in-plain}
use Rattle.hiding_laws.proofs.FrontEnds.{not-at-start, not-at-finish}
use Rattle.line_merge.proofs.Zips.{zip_left, zip_right}
use Rattle.line_merge.specs.Merging.{AreStrips, LiesOnStrip, IsClear, AreMerged}
use Rattle.cut_plane.specs.declared.segments.Segment.{Segment}
use Rattle.cut_plane.specs.Loops.{IsSegmentOf, AreBorders}
use Rattle.solid_mesh.proofs.SpotLemmas.{share_on_edge}
use Rattle.cut_plane.specs.Diagonals.{IsUnderBorder}
use Rattle.lattice.specs.declared.spans.Span.{Span}
use Rattle.drawn_strips.specs.Scenes.{AreStripsBeyond}
use Rattle.drawn_strips.specs.Strips.{IsOffBorders, IsFreeAnswer, TellHiddenInCut, IsBorderStrip, AreCutStrips}
use Rattle.drawn_strips.proofs.BorderWays.{segment_of_point}
use Rattle.drawn_strips.proofs.BorderStrips.{border_strip_ends, strip_runs, off_border_ends, point_of_border, strip_of_border}
use Rattle.drawn_strips.proofs.EdgeScenes.{IsKeptPlace, edge_origin, strip_of_edge_point}
use Rattle.drawn_strips.proofs.EdgeStrips.{IsSpanOf, Origin, origin_ends, origin_runs, off_strip_ends, point_of_strip, edge_under}
use Rattle.drawn_strips.proofs.SpanPlaces.{StaysAlong, weak, inner_of_between}
use Rattle.drawn_strips.proofs.StripScenes.{TellsOf, Shows, ShowAt, ShowVisible, strips_in, right_of_merged}
use Rattle.drawn_strips.proofs.StripsDecided.{strip_or, some_strip_or}
use Rattle.drawn_strips.proofs.CutPlaces.{in_part, span_beyond}

-- whether a border is on the line of sight is the same all along it
pub off_borders_along : (c : Plane) (s : Part) → StaysAlong (toward_of c) (IsOffBorders c s)
off_borders_along c s p q positive sight off under = let (f, (r, on, seen)) = under in off (f, (r, on, sight_on (toward_of c) r q p positive seen sight))

-- ---- all strips, where spans tell what is so at free points
module _ (c : Plane) (Free : Point → Type 0) (free_along : StaysAlong (toward_of c) Free) (fraction : ℕ) (s : Part) (halves numbers : List ℕ) (segments : List Segment) (places : List ℕ) (strips : List Strip)
    (closed : IsClosed s) (in_range : All (IsBelow (length s.corners)) s.triangles)
    (there : (i : ℕ) → i < length halves → (e : Edge s) × IsNumbered halves i e)
    (drawn : AreDrawnEdges (toward_of c) fraction s halves numbers) (borders : AreBorders c s segments places) (given : AreCutStrips c Free s halves numbers segments strips) where
  abbrev d : Triple
  d = toward_of c

  abbrev Drawn : Point → Type 0
  Drawn = IsDrawnInCut c fraction s

  abbrev Hidden : Point → Type 0
  Hidden = IsHiddenInCut c s

  abbrev Ordinary : Point → Type 0
  Ordinary = IsOrdinaryInCut c s

  -- there a span's answer is right
  abbrev Told : Point → Type 0
  Told p = Ordinary p × Free p

  told_along : StaysAlong d Told
  told_along p q positive sight told = (ordinary_along_cut c s p q positive sight told.0, free_along p q positive sight told.1)

  -- a strip of an edge's span, or of a segment
  data Source (y : Strip) : Type 0 where
    of_edge : Origin d Drawn Hidden Ordinary Told s y → Source y
    of_border : (x : Segment) → IsSegmentOf c s x → IsBorderStrip x y → Source y

  right : (e : Edge s) → IsDrawn d fraction e → (spans : List Span) → TellHiddenInCut c Free e spans → (x : Span) → Contains spans x → IsSpanOf d Drawn Hidden Ordinary Told e x
  right e is_drawn spans cut x listed =
      let within = in_part c e spans cut.covers x listed in
      record {
        seen = is_drawn.1;
        earlier = within.earlier;
        ends = All-contains (λ x. HasNoEndAt Ordinary e x.from x.to) spans x cut.ends listed;
        drawn = λ n m positive between.
            let strict = inner_of_between x.from x.to n m positive x.from_place x.to_place between in
            inl (e, is_drawn, share_on_edge e.a e.b n m (weak (pos 0) n strict.0) (weak n m strict.1) positive, within.within n m positive between);
        answer = λ n m positive between told. All-contains (IsFreeAnswer c Free e) spans x cut.answers listed n m positive between told.0 told.1;
      }

  -- an ordinary point of an edge is not at its corners
  strict_place : (e : Edge s) (n m : ℤ) → pos 0 <ℤ m → pos 0 ≤ℤ n → n ≤ℤ m → Ordinary (share_point e.a e.b n m) → (pos 0 <ℤ n) × (n <ℤ m)
  strict_place e n m whole least most here = (
    by_lt_z (pos 0) n (λ h. h) (λ h. absurd (not-at-start d s e n m whole least most (equal n (pos 0) h least) plain)),
    by_lt_z n m (λ h. h) (λ h. absurd (not-at-finish d s e n m whole least most (equal n m most h) plain)),
  )
    where
      plain : IsOrdinary d s (share_point e.a e.b n m)
      plain = ordinary-in-plain c s (share_point e.a e.b n m) here

      equal : (x y : ℤ) → x ≤ℤ y → y ≤ℤ x → x ≡ y
      equal x y h g = omega (arith, ints)

  find : (e : Edge s) (spans : List Span) → TellHiddenInCut c Free e spans → (n m : ℤ) → IsKeptPlace Ordinary (IsBeyond c) e n m → (x : Span) × Contains spans x × IsBetween x.from x.to n m
  find e spans cut n m at =
      span_beyond c e n m at.positive at.ordinary (strict_place e n m at.positive at.least at.most at.ordinary) at.kept spans cut.covers
      (λ x listed. All-contains (λ x. HasNoEndAt Ordinary e x.from x.to) spans x cut.ends listed)

  origin : (y : Strip) → Contains given.of_edges y → Origin d Drawn Hidden Ordinary Told s y
  origin = edge_origin d Drawn Hidden Ordinary Told (IsBeyond c) fraction s halves numbers there drawn (TellHiddenInCut c Free) right find given.of_edges given.edges

  source : (y : Strip) → Contains strips y → Source y
  source y listed = by (Contains-append_cases given.of_edges given.of_borders y (subst (λ ys. Contains ys y) given.together listed))
    where
      by : Contains given.of_edges y ⊎ Contains given.of_borders y → Source y
      by (inl here) = of_edge (origin y here)
      by (inr here) =
          let (x, in_segments, is) = zip_right IsBorderStrip segments given.of_borders given.borders y here in
          of_border x (All-contains (IsSegmentOf c s) segments x borders.each in_segments) is

  source_ends : (y : Strip) → Source y → AreStripEnds d y.line y.a y.b
  source_ends y (of_edge o) = origin_ends d Drawn Hidden Ordinary Told s y o
  source_ends y (of_border x h is) = border_strip_ends c s closed in_range x h y is

  pub are_cut_strips : AreStrips d strips
  are_cut_strips k y within = let z = get_or strips k y in source_ends z (source z (Contains-get_or strips k y within))

  -- ---- at an ordinary point
  module _ (p : Point) (positive : IsPoint p) (ordinary : Ordinary p) where
    abbrev Shown : Strip → Point → Type 0
    Shown y q = Shows d Drawn Hidden y p q

    off_source_ends : (y : Strip) → Source y → (¬ OnOneSight d (of_spot y.a) p) × (¬ OnOneSight d (of_spot y.b) p)
    off_source_ends y (of_edge o) = off_strip_ends d Drawn Hidden Ordinary Told s y o (ordinary_along_cut c s) p ordinary
    off_source_ends y (of_border x h is) = off_border_ends c s closed in_range x h y is p ordinary

    -- the edge or the border that a strip is of: its line runs along it
    record Way (y : Strip) : Type 0 where
      way : EdgeOrBorder s
      under : IsSeenOverInCut c way p
      runs : RunsAlong d y.line (step_of c way)

    way_of : (y : Strip) → Source y → LiesOnStrip d y p → Way y
    way_of y (of_edge o) on = record {
      way = edge o.edge;
      under = edge_under d Drawn Hidden Ordinary Told s y o (ordinary_along_cut c s) p ordinary on;
      runs = origin_runs d Drawn Hidden Ordinary Told s y o;
    }
    way_of y (of_border x h is) on =
        let (q, on_border, sight) = point_of_border c s closed in_range x h y is p on in
        record { way = border h.face; under = (q, on_border, sight); runs = strip_runs c s closed in_range x h y is q on_border }

    same_line : (y z : Strip) → Source y → Source z → LiesOnStrip d y p → LiesOnStrip d z p → IsSameLine y.line z.line
    same_line y z o u on_y on_z =
        let first = way_of y o on_y in
        let second = way_of z u on_z in
        let ends = source_ends y o in
        let ends_too = source_ends z u in
        one_line d y.line z.line (step_of c first.way) (step_of c second.way) p first.runs second.runs
        (ordinary.off_crossings first.way second.way first.under second.under) positive
        (on_line_between d y.line y.a y.b p ends.first ends.second on_y) (on_line_between d z.line z.a z.b p ends_too.first ends_too.second on_z)

    clear : IsClear d strips p
    clear = record {
      off_ends = λ k y within. let z = get_or strips k y in off_source_ends z (source z (Contains-get_or strips k y within));
      one_line = λ y z here too on_y on_z. same_line y z (source y here) (source z too) on_y on_z;
    }

    -- a border point is drawn and not hidden
    border_shows : (f : Face s) (y : Strip) (q : Point) → y.kind ≡ Seen → IsOnBorder c f q → OnOneSight d q p → Shown y q
    border_shows f y q visible on_border sight = record {
      drawn = inr (f, on_border);
      sight = sight;
      tells = subst (λ (k : StripKind). TellsOf k (Hidden q)) (sym visible) (on_plane_is_visible c s q on_border.1);
    }

    -- ---- the strip of a drawn point on the line of sight
    abbrev HasStrip : Point → Type 0
    HasStrip q = (y : Strip) × Contains strips y × LiesOnStrip d y p × Shown y q

    of_edges : (y : Strip) → Contains given.of_edges y → Contains strips y
    of_edges y listed = subst (λ ys. Contains ys y) (sym given.together) (Contains-append_left given.of_edges given.of_borders y listed)

    of_borders : (y : Strip) → Contains given.of_borders y → Contains strips y
    of_borders y listed = subst (λ ys. Contains ys y) (sym given.together) (Contains-append_right given.of_edges given.of_borders y listed)

    there_of : (i j k : ℕ) → 0 < i + j + k → pos 0 <ℤ pos (i + j + k)
    there_of i j k some = omega (arith, ints)

    face_there : (f : Face s) (q : Point) → IsPointOfFace f.a f.b f.c q → IsPoint q
    face_there f q (i, j, k, some, is) = subst IsPoint (sym is) (there_of i j k some)

    -- a border point on the line of sight is on a strip of a segment
    border_strip_at : (f : Face s) (q : Point) → IsOnBorder c f q → OnOneSight d q p → (y : Strip) × Contains given.of_borders y × (y.kind ≡ Seen) × LiesOnStrip d y p
    border_strip_at f q on_border sight =
        let (x, in_segments, h, on_its) = segment_of_point c s segments places borders f q on_border in
        let (k, y, below, at, is) = zip_left IsBorderStrip segments given.of_borders given.borders x in_segments in
        (y, (k, below, at), is.kind, strip_of_border c s closed in_range x h y is p q (face_there f q on_border.0) on_its sight)

    strip_of_border_point : (f : Face s) (q : Point) → IsOnBorder c f q → OnOneSight d q p → HasStrip q
    strip_of_border_point f q on_border sight = let (y, listed, visible, on) = border_strip_at f q on_border sight in (y, of_borders y listed, on, border_shows f y q visible on_border sight)

    -- whether the strip of some border lies there is decided
    some_border_or : ((y : Strip) × Contains given.of_borders y × LiesOnStrip d y p) ⊎ ((y : Strip) → Contains given.of_borders y → ¬ LiesOnStrip d y p)
    some_border_or =
        some_strip_or d p positive given.of_borders
        (λ y listed. let of_y = source y (of_borders y listed) in strip_or d p positive y (source_ends y of_y) (off_source_ends y of_y))

    -- where it does a border point is drawn and visible, whatever the edges' strips tell
    on_border : (y : Strip) → Contains given.of_borders y → LiesOnStrip d y p → ShowVisible d Drawn Hidden strips p
    on_border y listed on =
        let (x, in_segments, is) = zip_right IsBorderStrip segments given.of_borders given.borders y listed in
        let h = All-contains (IsSegmentOf c s) segments x borders.each in_segments in
        let (q, at, sight) = point_of_border c s closed in_range x h y is p on in
        record { clear = clear; strip = (y, of_borders y listed, is.kind, on); point = (q, inr (h.face, at), sight, on_plane_is_visible c s q at.1) }

    -- at a free point the edges' strips tell what is so
    module _ (free : Free p) where
      point_of : (y : Strip) → Source y → LiesOnStrip d y p → (q : Point) × Shown y q
      point_of y (of_edge o) on = point_of_strip d Drawn Hidden Ordinary Told s y o (ordinary_along_cut c s) p ordinary told_along (ordinary, free) on
      point_of y (of_border x h is) on =
          let (q, on_border, sight) = point_of_border c s closed in_range x h y is p on in
          (q, border_shows h.face y q is.kind on_border sight)

      strip_of : (q : Point) → IsSeenAt d Drawn p q → HasStrip q
      strip_of q (inl (e, is_drawn, on_edge, beyond), sight) =
          let (y, listed, on, shows) = strip_of_edge_point d Drawn Hidden Ordinary Told (IsBeyond c) fraction s halves numbers there drawn (TellHiddenInCut c Free) right find given.of_edges given.edges
          closed (ordinary_along_cut c s) told_along p q ordinary (ordinary, free) (e, is_drawn, on_edge) beyond (inl (e, is_drawn, on_edge, beyond)) sight in
          (y, of_edges y listed, on, shows)
      strip_of q (inr (f, on_border), sight) = strip_of_border_point f q on_border sight

      shown_where_free : ShowAt d Drawn Hidden (λ q. ⊥) strips p
      shown_where_free = record { clear = clear; point_of = λ y listed on. inl (point_of y (source y listed) on); strip_of = strip_of; trace_of = λ q at. absurd at.0 }

    -- where no border is on the line of sight the point is free
    shown : (¬ IsUnderBorder c s p → Free p) → ShowAt d Drawn Hidden (λ q. ⊥) strips p ⊎ ShowVisible d Drawn Hidden strips p
    shown free = by some_border_or
      where
        by : ((y : Strip) × Contains given.of_borders y × LiesOnStrip d y p) ⊎ ((y : Strip) → Contains given.of_borders y → ¬ LiesOnStrip d y p)
            → ShowAt d Drawn Hidden (λ q. ⊥) strips p ⊎ ShowVisible d Drawn Hidden strips p
        by (inl (y, listed, on)) = inr (on_border y listed on)
        by (inr none) = inl (shown_where_free (free (λ under. let (f, (q, at, sight)) = under in let (y, listed, visible, on) = border_strip_at f q at sight in none y listed on)))

  -- the strips are those of the view, if every point is free
  pub cut_strips_in : ((p : Point) → Free p) → AreStripsBeyond c fraction s strips
  cut_strips_in free = strips_in d Drawn Hidden (λ q. ⊥) strips Ordinary are_cut_strips (λ p positive ordinary. shown_where_free p positive ordinary (free p))

  -- put together they are a right list, if each point is free that has no border on its line of sight
  pub right_in_cut : ((p : Point) → ¬ IsUnderBorder c s p → Free p) → (pieces : List Piece) → AreMerged d strips pieces → AreRightInCut c fraction s pieces
  right_in_cut free pieces merged = right_of_merged d Drawn Hidden (λ q. ⊥) strips Ordinary (λ p positive ordinary. shown p positive ordinary (free p)) pieces merged
