-- Strips of the drawn edges and of the traces of cuts, put together, are right for the view.
use Rattle.std.proofs.Common.{◌≡◌, ◌⊎◌, inl, inr, ℕ, ◌<◌, List, length, Contains, get_or, sym, subst}
use Rattle.std.specs.Prelude.{ℤ, pos}
use Rattle.std.proofs.lemmas.List.Elements.{All-contains, Contains-get_or, Contains-append_cases, Contains-append_left, Contains-append_right}
use Rattle.lattice.specs.declared.pieces.Piece.{Piece}
use Rattle.lattice.specs.declared.pieces.Strip.{Strip}
use Rattle.lattice.specs.declared.points.Axis.{Axis}
use Rattle.lattice.specs.declared.pieces.StripKind.TheVariants.{Trace}
use Rattle.lattice.specs.Cuts.{Plane, unit_of}
use Rattle.lattice.specs.Triple.{Triple, det}
use Rattle.lattice.specs.Points.{Point, IsPoint, of_spot, difference, OnOneSight}
use Rattle.lattice.specs.Lines.{IsSameLine, AreStripEnds}
use Rattle.geometry.specs.Parts.{Part, Edge, IsNumbered, IsClosed}
use Rattle.geometry.specs.Scenes.{IsSeenAt, AreRight}
use Rattle.lattice.specs.Axes.{third_of}
use Rattle.geometry.specs.Traces.{IsTracePoint, TraceRuns, EdgeRuns, IsOrdinaryBeside}
use Rattle.geometry.specs.Views.{IsDrawn, IsHidden, IsOrdinary, IsDrawnPoint, AreDrawnEdges}
use Rattle.geometry.proofs.StepLines.{RunsAlong, one_line}
use Rattle.geometry.proofs.OnLines.{on_line_between}
use Rattle.geometry.proofs.Sights.{ordinary_along}
use Rattle.geometry.proofs.TracePoints.{det_turned}
use Rattle.geometry.specs.Places.{IsBetween, HasNoOrdinaryEnd}
use Rattle.line_merge.specs.Merging.{AreStrips, LiesOnStrip, IsClear, AreMerged}
use Rattle.solid_mesh.proofs.SpotLemmas.{share_on_edge}
use Rattle.geometry.specs.Spans.{IsAnswer}
use Rattle.lattice.specs.declared.spans.Span.{Span}
use Rattle.drawn_strips.specs.Scenes.{AreStripsAlong}
use Rattle.drawn_strips.specs.Strips.{TellHidden}
use Rattle.drawn_strips.specs.Traces.{IsTraceStrip, ArePlainStrips}
use Rattle.drawn_strips.proofs.EdgeScenes.{IsKeptPlace, edge_origin, strip_of_edge_point}
use Rattle.drawn_strips.proofs.EdgeStrips.{IsSpanOf, Origin, origin_ends, origin_runs, off_strip_ends, point_of_strip, edge_under}
use Rattle.drawn_strips.proofs.SpanPlaces.{earlier_in, span_of_place, weak, inner_of_between}
use Rattle.drawn_strips.proofs.StripScenes.{Shows, ShowsTrace, ShowAt, strips_in, right_of_merged}
use Rattle.drawn_strips.proofs.TraceStrips.{trace_ends, trace_runs, off_trace_ends, point_of_trace, strip_of_trace}

module _ (d : Triple) (fraction : ℕ) (s : Part) (halves numbers : List ℕ) (cuts : List Plane) (strips : List Strip) (closed : IsClosed s)
    (there : (i : ℕ) → i < length halves → (e : Edge s) × IsNumbered halves i e)
    (drawn : AreDrawnEdges d fraction s halves numbers) (given : ArePlainStrips d s halves numbers cuts strips) where
  abbrev Drawn : Point → Type 0
  Drawn = IsDrawnPoint d fraction s

  abbrev Hidden : Point → Type 0
  Hidden = IsHidden d s

  abbrev Ordinary : Point → Type 0
  Ordinary = IsOrdinary d s

  abbrev Kept : Point → Type 0
  Kept q = Unit {0}

  right : (e : Edge s) → IsDrawn d fraction e → (spans : List Span) → TellHidden d e spans → (x : Span) → Contains spans x → IsSpanOf d Drawn Hidden Ordinary Ordinary e x
  right e is_drawn spans told x listed =
      let (from, to, zero_is, one_is, follow) = told.covers in
      record {
        seen = is_drawn.1;
        earlier = earlier_in from to spans follow x listed;
        ends = All-contains (λ x. HasNoOrdinaryEnd d e x.from x.to) spans x told.ends listed;
        drawn = λ n m positive within.
            let inner = inner_of_between x.from x.to n m positive x.from_place x.to_place within in
            (e, is_drawn, share_on_edge e.a e.b n m (weak (pos 0) n inner.0) (weak n m inner.1) positive);
        answer = All-contains (IsAnswer d e) spans x told.answers listed;
      }

  find : (e : Edge s) (spans : List Span) → TellHidden d e spans → (n m : ℤ) → IsKeptPlace Ordinary Kept e n m → (x : Span) × Contains spans x × IsBetween x.from x.to n m
  find e spans told n m at =
      span_of_place d Ordinary (ordinary_along d s) e n m at.positive at.ordinary at.least at.most spans told.covers
      (λ x listed. All-contains (λ x. HasNoOrdinaryEnd d e x.from x.to) spans x told.ends listed)

  -- a strip of an edge's span, or of a trace
  data Source (y : Strip) : Type 0 where
    of_edge : Origin d Drawn Hidden Ordinary Ordinary s y → Source y
    of_trace : (c : Plane) → Contains cuts c → (sight : Axis) → IsTraceStrip d s c sight y → Source y

  origin : (y : Strip) → Contains given.of_edges y → Origin d Drawn Hidden Ordinary Ordinary s y
  origin = edge_origin d Drawn Hidden Ordinary Ordinary Kept fraction s halves numbers there drawn (TellHidden d) right find given.of_edges given.edges

  source : (y : Strip) → Contains strips y → Source y
  source y listed = by (Contains-append_cases given.of_edges given.of_traces y (subst (λ ys. Contains ys y) given.together listed))
    where
      by : Contains given.of_edges y ⊎ Contains given.of_traces y → Source y
      by (inl here) = of_edge (origin y here)
      by (inr here) = let (c, in_cuts, (sight, is)) = given.traces.each y here in of_trace c in_cuts sight is

  source_ends : (y : Strip) → Source y → AreStripEnds d y.line y.a y.b
  source_ends y (of_edge o) = origin_ends d Drawn Hidden Ordinary Ordinary s y o
  source_ends y (of_trace c listed sight is) = trace_ends d s c sight y is

  pub are_strips : AreStrips d strips
  are_strips k y within = let z = get_or strips k y in source_ends z (source z (Contains-get_or strips k y within))

  -- ---- at an ordinary point
  module _ (p : Point) (positive : IsPoint p) (beside : IsOrdinaryBeside d s cuts p) where
    abbrev ordinary : Ordinary p
    ordinary = beside.ordinary

    abbrev Shown : Strip → Point → Type 0
    Shown y q = Shows d Drawn Hidden y p q

    off_source_ends : (y : Strip) → Source y → (¬ OnOneSight d (of_spot y.a) p) × (¬ OnOneSight d (of_spot y.b) p)
    off_source_ends y (of_edge o) = off_strip_ends d Drawn Hidden Ordinary Ordinary s y o (ordinary_along d s) p ordinary
    off_source_ends y (of_trace c listed sight is) = off_trace_ends d s c sight y is cuts listed p beside

    -- the edge or the trace that a strip is of: its line runs along it
    data Way (y : Strip) : Type 0 where
      along_edge : (e : Edge s) → EdgeRuns d s p (difference e.a e.b) → RunsAlong d y.line (difference e.a e.b) → Way y
      along_trace : (way : Triple) → TraceRuns d s cuts p way → RunsAlong d y.line way → Way y

    way_of : (y : Strip) → Source y → LiesOnStrip d y p → Way y
    way_of y (of_edge o) on =
        along_edge o.edge (o.edge, edge_under d Drawn Hidden Ordinary Ordinary s y o (ordinary_along d s) p ordinary on, λ i. difference o.edge.a o.edge.b)
        (origin_runs d Drawn Hidden Ordinary Ordinary s y o)
    way_of y (of_trace c listed sight is) on =
        along_trace (unit_of (third_of c.axis sight)) (c, listed, (sight, point_of_trace d s c sight y is p on, λ i. unit_of (third_of c.axis sight))) (trace_runs d s c sight y is)

    abbrev step_of : {y : Strip} → Way y → Triple
    step_of (along_edge e under runs) = difference e.a e.b
    step_of (along_trace way under runs) = way

    runs_of : {y : Strip} (w : Way y) → RunsAlong d y.line (step_of w)
    runs_of (along_edge e under runs) = runs
    runs_of (along_trace way under runs) = runs

    -- two of them have parallel projections
    parallel : {y z : Strip} (w : Way y) (v : Way z) → det d (step_of w) (step_of v) ≡ pos 0
    parallel (along_edge e (f, under, is) runs) (along_edge g (h, under_too, is_too) runs_too) =
        subst (λ (t : Triple). det d t (difference g.a g.b) ≡ pos 0) (sym is) (subst (λ (t : Triple). det d (difference f.a f.b) t ≡ pos 0) (sym is_too) (ordinary.off_crossings f h under under_too))
    parallel (along_edge e under runs) (along_trace way under_too runs_too) = det_turned d way (difference e.a e.b) (beside.off_traces way (difference e.a e.b) under_too (inl under))
    parallel (along_trace way under runs) (along_edge e under_too runs_too) = beside.off_traces way (difference e.a e.b) under (inl under_too)
    parallel (along_trace way under runs) (along_trace other under_too runs_too) = beside.off_traces way other under (inr under_too)

    -- so their lines are one
    same_line : (y z : Strip) → Source y → Source z → LiesOnStrip d y p → LiesOnStrip d z p → IsSameLine y.line z.line
    same_line y z o u on_y on_z =
        let first = way_of y o on_y in
        let second = way_of z u on_z in
        let ends = source_ends y o in
        let ends_too = source_ends z u in
        one_line d y.line z.line (step_of first) (step_of second) p (runs_of first) (runs_of second) (parallel first second) positive
        (on_line_between d y.line y.a y.b p ends.first ends.second on_y) (on_line_between d z.line z.a z.b p ends_too.first ends_too.second on_z)

    clear : IsClear d strips p
    clear = record {
      off_ends = λ k y within. let z = get_or strips k y in off_source_ends z (source z (Contains-get_or strips k y within));
      one_line = λ y z c e on_y on_z. same_line y z (source y c) (source z e) on_y on_z;
    }

    point_of : (y : Strip) → Source y → LiesOnStrip d y p → ((q : Point) × Shown y q) ⊎ ShowsTrace d (IsTracePoint d s cuts) y p
    point_of y (of_edge o) on = inl (point_of_strip d Drawn Hidden Ordinary Ordinary s y o (ordinary_along d s) p ordinary (ordinary_along d s) ordinary on)
    point_of y (of_trace c listed sight is) on =
        let (q, on_trace, same) = point_of_trace d s c sight y is p on in
        inr (record { kind = is.kind; seen = (q, ((c, listed, (sight, on_trace)), same)) })

    of_edges : (y : Strip) → Contains given.of_edges y → Contains strips y
    of_edges y listed = subst (λ ys. Contains ys y) (sym given.together) (Contains-append_left given.of_edges given.of_traces y listed)

    of_traces : (y : Strip) → Contains given.of_traces y → Contains strips y
    of_traces y listed = subst (λ ys. Contains ys y) (sym given.together) (Contains-append_right given.of_edges given.of_traces y listed)

    -- each drawn point on the line of sight is on a strip
    strip_of : (q : Point) → IsSeenAt d Drawn p q → (y : Strip) × Contains strips y × LiesOnStrip d y p × Shown y q
    strip_of q (on_drawn, sight) =
        let (y, listed, on, shows) = strip_of_edge_point d Drawn Hidden Ordinary Ordinary Kept fraction s halves numbers there drawn (TellHidden d) right find given.of_edges given.edges
        closed (ordinary_along d s) (ordinary_along d s) p q ordinary ordinary on_drawn tt on_drawn sight in
        (y, of_edges y listed, on, shows)

    -- and so is each point of a trace
    trace_of : (q : Point) → IsSeenAt d (IsTracePoint d s cuts) p q → (y : Strip) × Contains strips y × LiesOnStrip d y p × (y.kind ≡ Trace)
    trace_of q ((c, listed, (sight, on_trace)), same) =
        let (y, there, is) = given.traces.every c listed sight on_trace.has in
        (y, of_traces y there, strip_of_trace d s c sight y is p q on_trace same, is.kind)

    shown : ShowAt d Drawn Hidden (IsTracePoint d s cuts) strips p
    shown = record { clear = clear; point_of = λ y c on. point_of y (source y c) on; strip_of = strip_of; trace_of = trace_of }

  -- the strips are those of the view
  pub plain_strips_in : AreStripsAlong d fraction s cuts strips
  plain_strips_in = strips_in d Drawn Hidden (IsTracePoint d s cuts) strips (IsOrdinaryBeside d s cuts) are_strips shown

  -- put together they are a right list
  pub right_view : (pieces : List Piece) → AreMerged d strips pieces → AreRight d fraction s cuts pieces
  right_view pieces merged = right_of_merged d Drawn Hidden (IsTracePoint d s cuts) strips (IsOrdinaryBeside d s cuts) (λ p positive beside. inl (shown p positive beside)) pieces merged
