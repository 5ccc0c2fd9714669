-- The strips of a view's drawn edges: each is of a span of one, and each drawn point of an edge that is seen is on one.
use Rattle.std.proofs.Common.{ℕ, ◌+◌, ◌<◌, List, length, Contains, subst, ◌∙◌, arith}
use Rattle.std.specs.Prelude.{ℤ, pos, ◌<ℤ◌, ◌≤ℤ◌}
use Rattle.std.proofs.lemmas.Int.{ints}
use Rattle.std.proofs.lemmas.List.Elements.{All-contains}
use Rattle.lattice.specs.declared.pieces.Strip.{Strip}
use Rattle.lattice.specs.Triple.{Triple}
use Rattle.lattice.specs.Points.{Point, OnOneSight}
use Rattle.geometry.specs.Faces.{share_point}
use Rattle.geometry.specs.Parts.{Part, Edge, IsNumbered, IsClosed}
use Rattle.geometry.specs.Views.{IsDrawn, IsDrawnPoint, AreDrawnEdges}
use Rattle.geometry.proofs.EachEdge.{numbered_edge}
use Rattle.geometry.proofs.Shares.{edge_share}
use Rattle.geometry.specs.Places.{IsBetween}
use Rattle.line_merge.proofs.Zips.{zip_right}
use Rattle.line_merge.specs.Merging.{LiesOnStrip}
use Rattle.lattice.specs.declared.spans.Span.{Span}
use Rattle.drawn_strips.specs.Strips.{IsStripOf, AreEdgeStrips}
use Rattle.drawn_strips.proofs.EdgeStrips.{IsSpanOf, Origin, strip_of_span}
use Rattle.drawn_strips.proofs.SpanPlaces.{StaysAlong}
use Rattle.drawn_strips.proofs.StripLists.{edge_of_strip, strips_of_edge}
use Rattle.drawn_strips.proofs.StripScenes.{Shows}

within_one : (i j : ℕ) → 0 < i + j → (pos 0 <ℤ pos (i + j)) × (pos 0 ≤ℤ pos j) × (pos j ≤ℤ pos (i + j))
within_one i j some = (omega (arith, ints), omega (arith, ints), omega (arith, ints))

-- a place of an edge, within it, at an ordinary point that the view keeps
pub record IsKeptPlace (Ordinary Kept : Point → Type 0) {s : Part} (e : Edge s) (n m : ℤ) : Type 0 where
  pub positive : pos 0 <ℤ m
  pub least : pos 0 ≤ℤ n
  pub most : n ≤ℤ m
  pub ordinary : Ordinary (share_point e.a e.b n m)
  pub kept : Kept (share_point e.a e.b n m)

-- `right` tells what is so of each span, and `find` that each place that is kept is within one
module _ (d : Triple) (Drawn Hidden Ordinary Told Kept : Point → Type 0) (fraction : ℕ) (s : Part) (halves numbers : List ℕ)
    (there : (i : ℕ) → i < length halves → (e : Edge s) × IsNumbered halves i e) (drawn : AreDrawnEdges d fraction s halves numbers) (Right : Edge s → List Span → Type 0)
    (right : (e : Edge s) → IsDrawn d fraction e → (spans : List Span) → Right e spans → (x : Span) → Contains spans x → IsSpanOf d Drawn Hidden Ordinary Told e x)
    (find : (e : Edge s) (spans : List Span) → Right e spans → (n m : ℤ) → IsKeptPlace Ordinary Kept e n m → (x : Span) × Contains spans x × IsBetween x.from x.to n m)
    (strips : List Strip) (given : AreEdgeStrips d {s = s} Right halves numbers strips) where
  pub edge_origin : (y : Strip) → Contains strips y → Origin d Drawn Hidden Ordinary Told s y
  edge_origin y listed =
      let (i, here, n, in_here, of_i) = edge_of_strip d Right halves numbers strips given y listed in
      let (e, numbered) = there i (All-contains (λ k. k < length halves) numbers i drawn.within n) in
      let group = of_i e numbered in
      let (x, in_spans, is) = zip_right (IsStripOf d e) group.spans here group.each y in_here in
      record { edge = e; span = x; is = is; of = right e ((drawn.exactly i e numbered).0 n) group.spans group.right x in_spans }

  pub strip_of_edge_point : IsClosed s → StaysAlong d Ordinary → StaysAlong d Told → (p q : Point) → Ordinary p → Told p → IsDrawnPoint d fraction s q → Kept q → Drawn q → OnOneSight d q p
      → (y : Strip) × Contains strips y × LiesOnStrip d y p × Shows d Drawn Hidden y p q
  strip_of_edge_point closed stays stays_told p q ordinary told on_edge kept on_drawn sight =
      let (i, e, numbered, is_drawn, (k, j, some, q_is)) = numbered_edge s closed d fraction halves drawn.edges q on_edge in
      let (here, in_strips, of_i) = strips_of_edge d Right halves numbers strips given i ((drawn.exactly i e numbered).1 is_drawn) in
      let group = of_i e numbered in
      let at = q_is ∙ edge_share e.a e.b k j in
      let (whole, least, most) = within_one k j some in
      let here_seen = subst (λ (q : Point). OnOneSight d q p) at sight in
      let ordinary_here = stays p (share_point e.a e.b (pos j) (pos (k + j))) whole here_seen ordinary in
      let told_here = stays_told p (share_point e.a e.b (pos j) (pos (k + j))) whole here_seen told in
      let (x, in_spans, within) = find e group.spans group.right (pos j) (pos (k + j))
      (record { positive = whole; least = least; most = most; ordinary = ordinary_here; kept = subst Kept at kept }) in
      let answer = (right e is_drawn group.spans group.right x in_spans).answer (pos j) (pos (k + j)) whole within told_here in
      let (y, listed, on, shows) = strip_of_span d Drawn Hidden e Right here group x in_spans p q (pos j) (pos (k + j)) whole least most within at sight on_drawn answer in
      (y, in_strips y listed, on, shows)
