-- What strips say of a point: which style a piece has there.
use Rattle.std.proofs.Common.{◌≡◌, ◌⊎◌, inl, inr, ◌↔◌, List, Contains, refl, sym, ◌∙◌}
use Rattle.std.specs.Prelude.{◌+ℤ◌, ◌*ℤ◌}
use Rattle.lattice.specs.declared.lines.Line.{Line}
use Rattle.lattice.specs.declared.pieces.Piece.{Piece}
use Rattle.lattice.specs.declared.pieces.Strip.{Strip}
use Rattle.lattice.specs.declared.pieces.StripKind.{StripKind}
use Rattle.lattice.specs.declared.pieces.StripKind.TheVariants.{Seen, Hidden, Trace}
use Rattle.lattice.specs.declared.pieces.Style.{Style}
use Rattle.lattice.specs.declared.pieces.Style.TheVariants.{Solid, Dashed, Chain}
use Rattle.lattice.specs.Lines.{IsOnLine, IsSameLine}
use Rattle.lattice.specs.Triple.{Triple}
use Rattle.lattice.specs.Points.{Point, IsPoint, of_spot, across_of, upward_of, OnOneSight}
use Rattle.geometry.specs.Pieces.{LiesOn, LiesOnStyle, IsBefore}
use Rattle.geometry.proofs.Sights.{sight_back}
use Rattle.line_merge.specs.Merging.{LiesOnStrip, LiesOnKind, LiesOnTracesOnly, IsClear, AreMerged}
use Rattle.line_merge.proofs.Given.{between_turned}
use Rattle.drawing_laws.proofs.Sparse.{ViewLine, IsOnViewLine}
use Rattle.drawing_laws.proofs.ViewLines.{IsProper}
use Rattle.drawing_laws.proofs.ViewOrder.{IsUpTo, three_ways, up_to_of_lies}
use Rattle.detail_pieces.proofs.Beside.{Way, onward, backward, RunsOn, Goes}
use Rattle.detail_pieces.proofs.Meetings.{leads}
use Rattle.detail_pieces.proofs.Covered.{ahead, back, both_ways, ahead_in, back_in}

-- ---- strips as pieces whose ends are in order
pub data Turned : Type 0 where
  straight : Turned
  turned : Turned

abbrev pub way_of : Turned → Strip → Piece
way_of straight x = ahead x
way_of turned x = back x

module _ (d : Triple) (x : Strip) where
  pub in_order : ¬ OnOneSight d (of_spot x.a) (of_spot x.b) → (u : Turned) × IsBefore d (of_spot (way_of u x).a) (of_spot (way_of u x).b)
  in_order apart = by (three_ways d (of_spot x.a) (of_spot x.b))
    where
      by : IsBefore d (of_spot x.a) (of_spot x.b) ⊎ (OnOneSight d (of_spot x.a) (of_spot x.b) ⊎ IsBefore d (of_spot x.b) (of_spot x.a))
          → (u : Turned) × IsBefore d (of_spot (way_of u x).a) (of_spot (way_of u x).b)
      by (inl less) = (straight, less)
      by (inr (inl seen)) = absurd (apart seen)
      by (inr (inr more)) = (turned, more)

  pub lies_way : (u : Turned) (p : Point) → LiesOnStrip d x p → LiesOn d (way_of u x) p
  lies_way straight p lies = lies
  lies_way turned p lies = between_turned d x.a x.b p lies

  pub lies_strip : (u : Turned) (p : Point) → LiesOn d (way_of u x) p → LiesOnStrip d x p
  lies_strip straight p lies = lies
  lies_strip turned p lies = between_turned d x.b x.a p lies

  pub runs_way : (line : ViewLine) (u : Turned) → IsOnViewLine d line (of_spot x.a) × IsOnViewLine d line (of_spot x.b) → RunsOn d line (way_of u x)
  runs_way line straight h = h
  runs_way line turned h = (h.1, h.0)

  pub runs_strip : (line : ViewLine) (u : Turned) → RunsOn d line (way_of u x) → IsOnViewLine d line (of_spot x.a) × IsOnViewLine d line (of_spot x.b)
  runs_strip line straight h = h
  runs_strip line turned h = (h.1, h.0)

  off_way : (u : Turned) (p : Point) → (¬ OnOneSight d (of_spot x.a) p) × (¬ OnOneSight d (of_spot x.b) p)
      → (¬ OnOneSight d (of_spot (way_of u x).a) p) × (¬ OnOneSight d (of_spot (way_of u x).b) p)
  off_way straight p h = h
  off_way turned p h = (h.1, h.0)

  pub in_both_ways : (u : Turned) (strips : List Strip) → Contains strips x → Contains (both_ways strips) (way_of u x)
  in_both_ways straight strips there = ahead_in strips x there
  in_both_ways turned strips there = back_in strips x there

  -- what holds p inside goes on from there, both ways
  pub passes : (way : Way) (u : Turned) (p : Point) → IsPoint p → IsBefore d (of_spot (way_of u x).a) (of_spot (way_of u x).b) → LiesOnStrip d x p
      → (¬ OnOneSight d (of_spot x.a) p) × (¬ OnOneSight d (of_spot x.b) p) → Goes way d p (way_of u x)
  passes way u p positive ends lies off =
      by way (up_to_of_lies d (way_of u x).a (way_of u x).b p positive ends (lies_way u p lies)) (off_way u p off)
    where
      by : (way : Way) → IsUpTo d (of_spot (way_of u x).a) p × IsUpTo d p (of_spot (way_of u x).b)
          → (¬ OnOneSight d (of_spot (way_of u x).a) p) × (¬ OnOneSight d (of_spot (way_of u x).b) p) → Goes way d p (way_of u x)
      by onward (first, inl last) h = (first, last)
      by onward (first, inr seen) h = absurd (h.1 (sight_back d p (of_spot (way_of u x).b) seen))
      by backward (inl first, last) h = (first, last)
      by backward (inr seen, last) h = absurd (h.0 seen)

-- ---- lines
abbrev pub view_line : Line → ViewLine
view_line l = record { x = l.a; y = l.b; z = l.c }

pub on_same : (d : Triple) (k l : Line) (p : Point) → IsSameLine k l → IsOnLine d k p → IsOnLine d l p
on_same d k l p e on = (λ i. (sym e.a i *ℤ across_of d p) +ℤ (sym e.b i *ℤ upward_of d p)) ∙ on ∙ (λ i. e.c i *ℤ p.w)

pub same_back : (k l : Line) → IsSameLine k l → IsSameLine l k
same_back k l e = record { a = sym e.a; b = sym e.b; c = sym e.c }

pub same_on : (k l m : Line) → IsSameLine k l → IsSameLine l m → IsSameLine k m
same_on k l m e f = record { a = e.a ∙ f.a; b = e.b ∙ f.b; c = e.c ∙ f.c }

pub line_proper : (l : Line) → IsProper (view_line l)
line_proper l = leads l.a l.b l.leads

-- ---- what strips say of a point
-- a strip that is seen, or a hidden one and none that is seen, or one of a trace and no other
abbrev pub Tells : Triple → List Strip → Style → Point → Type 0
Tells d strips Solid p = LiesOnKind d strips Seen p
Tells d strips Dashed p = LiesOnKind d strips Hidden p × ¬ LiesOnKind d strips Seen p
Tells d strips Chain p = LiesOnKind d strips Trace p × (¬ LiesOnKind d strips Seen p) × (¬ LiesOnKind d strips Hidden p)

-- where the same kinds of strips lie they say the same
pub tells_too : (d : Triple) (xs ys : List Strip) (p q : Point) → ((k : StripKind) → LiesOnKind d xs k p ↔ LiesOnKind d ys k q) → (s : Style) → Tells d xs s p → Tells d ys s q
tells_too d xs ys p q same Solid h = (same Seen).0 h
tells_too d xs ys p q same Dashed h = ((same Hidden).0 h.0, λ k. h.1 ((same Seen).1 k))
tells_too d xs ys p q same Chain h = ((same Trace).0 h.0, λ k. h.1 ((same Seen).1 k), λ k. h.2 ((same Hidden).1 k))

pub one_style : (d : Triple) (strips : List Strip) (p : Point) (s t : Style) → Tells d strips s p → Tells d strips t p → s ≡ t
one_style d strips p Solid Solid h k = refl
one_style d strips p Solid Dashed h k = absurd (k.1 h)
one_style d strips p Solid Chain h k = absurd (k.1 h)
one_style d strips p Dashed Solid h k = absurd (h.1 k)
one_style d strips p Dashed Dashed h k = refl
one_style d strips p Dashed Chain h k = absurd (k.2 h.0)
one_style d strips p Chain Solid h k = absurd (h.1 k)
one_style d strips p Chain Dashed h k = absurd (h.2 k.0)
one_style d strips p Chain Chain h k = refl

-- at a clear point a piece is of the style that the strips say
module _ (d : Triple) (strips : List Strip) (pieces : List Piece) (merged : AreMerged d strips pieces) (q : Point) (positive : IsPoint q) (clear : IsClear d strips q) where
  of_traces : LiesOnTracesOnly d strips q → Tells d strips Chain q
  of_traces h = (
    let (x, there, on) = h.some in (x, there, h.traces x there on, on),
    λ (x, there, is, on). other Seen (λ e. cc) (sym is ∙ h.traces x there on),
    λ (x, there, is, on). other Hidden (λ e. cc) (sym is ∙ h.traces x there on),
  )
    where
      other : (k : StripKind) → ¬ (k ≡ Trace) → ¬ (k ≡ Trace)
      other k h = h

  only_traces : Tells d strips Chain q → LiesOnTracesOnly d strips q
  only_traces h = record { some = let (x, there, is, on) = h.0 in (x, there, on); traces = λ x there on. by x there on x.kind refl }
    where
      by : (x : Strip) → Contains strips x → LiesOnStrip d x q → (k : StripKind) → x.kind ≡ k → x.kind ≡ Trace
      by x there on Seen is = absurd (h.1 (x, there, is, on))
      by x there on Hidden is = absurd (h.2 (x, there, is, on))
      by x there on Trace is = is

  pub told_clear : (s : Style) → LiesOnStyle d pieces s q ↔ Tells d strips s q
  told_clear Solid = merged.visible q positive clear
  told_clear Dashed = merged.hidden q positive clear
  told_clear Chain = (λ h. of_traces ((merged.traces q positive clear).0 h), λ h. (merged.traces q positive clear).1 (only_traces h))
