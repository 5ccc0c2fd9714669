-- The strip of a span: where its ends are, and which points lie on it.
use Rattle.std.proofs.Common.{◌≡◌, sym, subst}
use Rattle.lattice.specs.declared.lines.Line.{Line}
use Rattle.lattice.specs.declared.pieces.Strip.{Strip}
use Rattle.lattice.specs.declared.points.Spot.{Spot}
use Rattle.exact_frac.specs.declared.Frac.{Frac}
use Rattle.lattice.specs.Triple.{Triple}
use Rattle.lattice.specs.Points.{Point, of_spot, OnOneSight}
use Rattle.lattice.specs.Lines.{IsOnLine, AreStripEnds}
use Rattle.geometry.specs.Parts.{Part, Edge}
use Rattle.geometry.specs.Views.{IsEndOn}
use Rattle.geometry.proofs.EdgeLines.{share_on_line}
use Rattle.geometry.proofs.Shares.{end_on, sum_is}
use Rattle.line_merge.specs.Merging.{LiesOnStrip}
use Rattle.lattice.specs.declared.spans.Span.{Span}
use Rattle.geometry.specs.Places.{point_at, IsEarlier, HasNoEndAt}
use Rattle.drawn_strips.specs.Strips.{IsEdgeLine, IsStripOf}
use Rattle.drawn_strips.proofs.SpanPlaces.{StaysAlong}
use Rattle.drawn_strips.proofs.SpanSums.{LiesWithin}

-- the spots at a span's ends are on the line of the edge, and not at one place
pub span_ends : (d : Triple) {s : Part} (e : Edge s) (x : Span) (l : Line) (a b : Spot) → IsEdgeLine d e l → of_spot a ≡ point_at e x.from → of_spot b ≡ point_at e x.to
    → IsEarlier x.from x.to → ¬ IsEndOn d e → AreStripEnds d l a b
span_ends d e x l a b on from to earlier seen = record {
  first = at x.from a from;
  second = at x.to b to;
  apart = λ h. seen (end_on d e.a e.b x.from.num x.from.den x.to.num x.to.den earlier
      (subst (λ (p : Point). OnOneSight d p (point_at e x.to)) from (subst (λ (q : Point). OnOneSight d (of_spot a) q) to h)));
}
  where
    at : (r : Frac) (p : Spot) → of_spot p ≡ point_at e r → IsOnLine d l (of_spot p)
    at r p is = subst (IsOnLine d l) (sym is) (share_on_line d l e.a e.b r.num r.den on.first on.second)

module _ (d : Triple) {s : Part} (e : Edge s) (x : Span) (y : Strip) (is : IsStripOf d e x y) (p : Point) where
  -- an ordinary point is at neither end
  pub off_ends : (O : Point → Type 0) → StaysAlong d O → HasNoEndAt O e x.from x.to → O p → (¬ OnOneSight d (of_spot y.a) p) × (¬ OnOneSight d (of_spot y.b) p)
  off_ends O stays apart ordinary = (λ h. apart.0 (at x.from y.a is.from h), λ h. apart.1 (at x.to y.b is.to h))
    where
      at : (r : Frac) (q : Spot) → of_spot q ≡ point_at e r → OnOneSight d (of_spot q) p → O (point_at e r)
      at r q q_is h = stays p (point_at e r) r.positive (subst (λ (z : Point). OnOneSight d z p) q_is h) ordinary

  -- what lies on the strip lies within the span, and the other way round
  pub within_of_strip : LiesOnStrip d y p → LiesWithin d e x p
  within_of_strip (i, j, some, sight) =
      (i, j, some, subst (λ (q : Point). OnOneSight d q p) (sum_is e.a e.b x.from.num x.from.den x.to.num x.to.den i j y.a y.b is.from is.to) sight)

  pub strip_of_within : LiesWithin d e x p → LiesOnStrip d y p
  strip_of_within (i, j, some, sight) =
      (i, j, some, subst (λ (q : Point). OnOneSight d q p) (sym (sum_is e.a e.b x.from.num x.from.den x.to.num x.to.den i j y.a y.b is.from is.to)) sight)
