-- Chords: where hatch lines go through loops of segments, by the places at which segments cross them.
use Rattle.std.specs.Prelude.{ℕ, List}
use Rattle.std.specs.List.{AllZip}
use Rattle.std.specs.List.Sorted.{IsPermutation, IsSorted}
use Rattle.lattice.specs.declared.pieces.HatchLine.{HatchLine}
use Rattle.lattice.specs.Cuts.{Plane, toward_of}
use Rattle.cut_plane.specs.declared.segments.Segment.{Segment}
use Rattle.hatch_fill.specs.declared.places.HatchPlace.{HatchPlace}
use Rattle.hatch_fill.specs.inner.Crossings.{AreCrossings}
use Rattle.hatch_fill.specs.inner.Lines.{IsLineOver}
use Rattle.hatch_fill.specs.inner.Parts.{AreJoined}
use Rattle.hatch_fill.specs.inner.Places.{place_order}
use Rattle.hatch_fill.specs.inner.Stretches.{pairs_of}

-- the places at which the segments cross hatch lines are put in order, line by line and from left to right; a chord goes from the first to
-- the second, from the third to the fourth, and so on, if they are apart
pub record AreChords (c : Plane) (spacing : ℕ) (segments : List Segment) (lines : List HatchLine) : Type 0 where
  pub places : List HatchPlace
  pub sorted : List HatchPlace
  pub crossings : AreJoined (AreCrossings (toward_of c) spacing) segments places
  pub same : IsPermutation places sorted
  pub ascending : IsSorted place_order sorted
  pub drawn : AllZip (IsLineOver c) (pairs_of sorted) lines
