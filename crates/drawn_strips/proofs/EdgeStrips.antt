-- The strip of a span of an edge: its ends, its line, and what it shows at an ordinary point.
use Rattle.std.proofs.Common.{◌≡◌, List, Contains, sym, subst, IsTrue, ◌↔◌}
use Rattle.std.specs.Prelude.{ℤ, pos, ◌<ℤ◌, ◌≤ℤ◌}
use Rattle.lattice.specs.declared.pieces.Strip.{Strip}
use Rattle.lattice.specs.Triple.{Triple}
use Rattle.lattice.specs.Points.{Point, of_spot, difference, OnOneSight}
use Rattle.lattice.specs.Lines.{AreStripEnds}
use Rattle.geometry.specs.Faces.{share_point, IsPointOfEdge}
use Rattle.geometry.specs.Parts.{Part, Edge}
use Rattle.geometry.specs.Views.{IsEndOn}
use Rattle.geometry.proofs.StepLines.{RunsAlong, edge_runs}
use Rattle.line_merge.specs.Merging.{LiesOnStrip}
use Rattle.line_merge.proofs.Zips.{zip_left}
use Rattle.solid_mesh.proofs.SpotLemmas.{share_on_edge}
use Rattle.lattice.specs.declared.spans.Span.{Span}
use Rattle.geometry.specs.Places.{IsEarlier, IsBetween, HasNoEndAt}
use Rattle.drawn_strips.specs.Strips.{IsStripOf, AreStripsOf}
use Rattle.drawn_strips.proofs.SpanPlaces.{StaysAlong}
use Rattle.drawn_strips.proofs.SpanSums.{HasPlace, place_of_sum, sum_of_place}
use Rattle.drawn_strips.proofs.StripPlaces.{span_ends, off_ends, within_of_strip, strip_of_within}
use Rattle.drawn_strips.proofs.StripScenes.{TellsOf, kind_tells, Shows}

-- a span of an edge: within it are drawn points, none of its ends is ordinary, and it tells which points are hidden, of those of which it tells
pub record IsSpanOf (d : Triple) (Drawn Hidden Ordinary Told : Point → Type 0) {s : Part} (e : Edge s) (x : Span) : Type 0 where
  pub seen : ¬ IsEndOn d e
  pub earlier : IsEarlier x.from x.to
  pub ends : HasNoEndAt Ordinary e x.from x.to
  pub drawn : (n m : ℤ) → pos 0 <ℤ m → IsBetween x.from x.to n m → Drawn (share_point e.a e.b n m)
  pub answer : (n m : ℤ) → pos 0 <ℤ m → IsBetween x.from x.to n m → Told (share_point e.a e.b n m) → IsTrue x.hidden ↔ Hidden (share_point e.a e.b n m)

-- the edge and the span of it that the strip is
pub record Origin (d : Triple) (Drawn Hidden Ordinary Told : Point → Type 0) (s : Part) (y : Strip) : Type 0 where
  pub edge : Edge s
  pub span : Span
  pub is : IsStripOf d edge span y
  pub of : IsSpanOf d Drawn Hidden Ordinary Told edge span

module _ (d : Triple) (Drawn Hidden Ordinary Told : Point → Type 0) (s : Part) (y : Strip) (o : Origin d Drawn Hidden Ordinary Told s y) where
  pub origin_ends : AreStripEnds d y.line y.a y.b
  origin_ends = span_ends d o.edge o.span y.line y.a y.b o.is.line o.is.from o.is.to o.of.earlier o.of.seen

  pub origin_runs : RunsAlong d y.line (difference o.edge.a o.edge.b)
  origin_runs = edge_runs d o.edge y.line o.of.seen o.is.line.first o.is.line.second

  module _ (stays : StaysAlong d Ordinary) (p : Point) (ordinary : Ordinary p) where
    pub off_strip_ends : (¬ OnOneSight d (of_spot y.a) p) × (¬ OnOneSight d (of_spot y.b) p)
    off_strip_ends = off_ends d o.edge o.span y o.is p Ordinary stays o.of.ends ordinary

    place : LiesOnStrip d y p → HasPlace d o.edge o.span p
    place on = place_of_sum d o.edge o.span p Ordinary stays o.of.earlier o.of.ends ordinary (within_of_strip d o.edge o.span y o.is p on)

    -- the edge has a point on the line of sight
    pub edge_under : LiesOnStrip d y p → (q : Point) × IsPointOfEdge o.edge.a o.edge.b q × OnOneSight d q p
    edge_under on =
        let h = place on in
        (share_point o.edge.a o.edge.b h.n h.m, share_on_edge o.edge.a o.edge.b h.n h.m h.least h.most h.positive, h.sight)

    -- at each of its places the strip shows what is so
    module _ (stays_told : StaysAlong d Told) (told : Told p) where
      shows_at : (h : HasPlace d o.edge o.span p) → Shows d Drawn Hidden y p (share_point o.edge.a o.edge.b h.n h.m)
      shows_at h = record {
        drawn = o.of.drawn h.n h.m h.positive h.within;
        sight = h.sight;
        tells = kind_tells y.kind o.span.hidden o.is.kind (o.of.answer h.n h.m h.positive h.within (stays_told p (share_point o.edge.a o.edge.b h.n h.m) h.positive h.sight told));
      }

      pub point_of_strip : LiesOnStrip d y p → (q : Point) × Shows d Drawn Hidden y p q
      point_of_strip on = let h = place on in (share_point o.edge.a o.edge.b h.n h.m, shows_at h)

-- the strip of the span that a place of the edge is in
module _ (d : Triple) (Drawn Hidden : Point → Type 0) {s : Part} (e : Edge s) (Right : Edge s → List Span → Type 0) (strips : List Strip) (group : AreStripsOf d Right e strips) (x : Span) (listed : Contains group.spans x) where
  pub strip_of_span : (p q : Point) (n m : ℤ) → pos 0 <ℤ m → pos 0 ≤ℤ n → n ≤ℤ m → IsBetween x.from x.to n m → q ≡ share_point e.a e.b n m → OnOneSight d q p → Drawn q
      → IsTrue x.hidden ↔ Hidden (share_point e.a e.b n m) → (y : Strip) × Contains strips y × LiesOnStrip d y p × Shows d Drawn Hidden y p q
  strip_of_span p q n m positive least most within at sight drawn answer =
      let (k, y, below, at_k, is) = zip_left (IsStripOf d e) group.spans strips group.each x listed in (
        y,
        (k, below, at_k),
        strip_of_within d e x y is p (sum_of_place d e x p (record { n = n; m = m; positive = positive; least = least; most = most; within = within; sight = subst (λ (q : Point). OnOneSight d q p) at sight })),
        record {
          drawn = drawn;
          sight = sight;
          tells = subst (λ (q : Point). TellsOf y.kind (Hidden q)) (sym at) (kind_tells y.kind x.hidden is.kind answer);
        },
      )
