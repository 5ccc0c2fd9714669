-- What is seen of a part, and when spans of an edge are right in a view of it.
use Rattle.std.specs.Prelude.{List}
use Rattle.lattice.specs.Triple.{Triple}
use Rattle.lattice.specs.Points.{of_dir}
use Rattle.lattice.specs.Cuts.{plane_of, toward_of}
use Rattle.geometry.specs.Parts.{Part, Edge}
use Rattle.cut_plane.specs.Loops.{AreBorders}
use Rattle.lattice.specs.declared.spans.Span.{Span}
use Rattle.span_slow.specs.declared.view.View.{View}
use Rattle.span_slow.specs.declared.view.View.TheVariants.{Plain, Section}
use Rattle.span_slow.specs.Spans.{AreSpans}
use Rattle.span_slow.specs.CutSpans.{AreCutSpans}

-- from the part to the viewer
abbrev pub direction_in : View → Triple
direction_in (Plain d) = of_dir d
direction_in (Section x) = toward_of (plane_of x.now.cut)

-- a section is that of the part
abbrev pub IsViewOf : View → Part → Type 0
IsViewOf (Plain d) s = Unit {0}
IsViewOf (Section x) s = AreBorders (plane_of x.now.cut) s x.now.segments.items x.now.loops.items

-- the spans are right over all of the edge, or over what the cut leaves of it
abbrev pub AreSpansIn : View → {s : Part} → Edge s → List Span → Type 0
AreSpansIn (Plain d) e spans = AreSpans (of_dir d) e spans
AreSpansIn (Section x) e spans = AreCutSpans (plane_of x.now.cut) e spans
