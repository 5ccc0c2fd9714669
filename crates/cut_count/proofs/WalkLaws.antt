-- What is to be proved of a walk along an edge of a cut view, from its first end or from its second: the counts at a place, by the sums of what changes.
use Rattle.std.proofs.Common.{◌≡◌, ℕ, ◌++◌, Bool, true, false, List, [], ◌∷◌, cond}
use Rattle.std.specs.Prelude.{ℤ, pos, ◌+ℤ◌, ◌-ℤ◌, IsPermutation}
use Rattle.std.specs.List.Sorted.{IsSortedByKey}
use Rattle.exact_frac.specs.declared.Frac.{Frac}
use Rattle.exact_frac.specs.Frac.{order_of}
use Rattle.intervals.specs.declared.interval.Interval.{Interval}
use Rattle.lattice.specs.Cuts.{Plane, toward_of, IsBeyond}
use Rattle.lattice.specs.Points.{point_of}
use Rattle.geometry.specs.Faces.{share_point}
use Rattle.geometry.specs.Parts.{Part, Edge, IsNumbered, AreEdges}
use Rattle.geometry.specs.Sound.{IsSound}
use Rattle.geometry.specs.Views.{IsEndOn}
use Rattle.geometry.specs.Counts.{Side, to_left, to_right}
use Rattle.hiding_laws.specs.Sums.{total}
use Rattle.cross_find.specs.declared.meter.Crossing.{Crossing}
use Rattle.cut_plane.specs.declared.segments.Segment.{Segment}
use Rattle.cut_plane.specs.Loops.{AreBorders}
use Rattle.cut_plane.proofs.Xors.{xor}
use Rattle.span_count.specs.Carries.{change_before}
use Rattle.cut_plane.specs.Beyond.{IsPartBeyond}
use Rattle.cut_count_laws.specs.CutCounts.{AreCutCounted}
use Rattle.cut_count_laws.proofs.Laws.{HasCornersInRange, IsValid}
use Rattle.cut_count.specs.declared.found.Share.{Share}
use Rattle.cut_count.specs.declared.found.CrossingBorder.{CrossingBorder}
use Rattle.cut_count.specs.inner.Walks.{AreListedInCut, AreOutlineCrossings, AreFound, IsOddAhead, AreCoverCounts, odd_turns, turn_left, turn_right, AreSectionCrossings}

-- ---- for either count
abbrev pub share_to : Side → CrossingBorder → Share
share_to to_left x = x.left
share_to to_right x = x.right

abbrev pub turns_to : Side → CrossingBorder → Bool
turns_to to_left = turn_left
turns_to to_right = turn_right

abbrev pub change_to : Side → Crossing → ℤ
change_to to_left x = x.left
change_to to_right x = x.right

abbrev pub odd_to : Side → Bool → Bool → Bool
odd_to to_left left right = left
odd_to to_right left right = right

-- ---- what the walk has
-- the borders in their order, the crossings that they and the outlines give, and what is counted next to the end that is come from
pub record HasWalked (at_b : Bool) (c : Plane) (s : Part) (halves : List ℕ) (edge : ℕ) (e : Edge s) (part : Interval Frac) (segments : List Segment)
    (before_left before_right : Bool) (found : List CrossingBorder) (section outlines : List Crossing) : Type 0 where
  pub edges : AreEdges s halves
  pub numbered : IsNumbered halves edge e
  pub across : ¬ IsEndOn (toward_of c) e
  pub beyond : IsPartBeyond c e (part ∷ [])
  pub starts : List ℕ
  pub borders : AreBorders c s segments starts
  pub listed : List CrossingBorder
  pub are_found : AreFound c e part segments listed
  pub same : IsPermutation listed found
  pub sorted : IsSortedByKey (λ (x : CrossingBorder). x.at) order_of found
  pub by_section : AreSectionCrossings before_left before_right found section
  pub numbers : List ℕ
  pub are_listed : AreListedInCut c s halves edge numbers
  pub by_outlines : AreOutlineCrossings c e halves numbers outlines

-- from the first end: what is counted there, the section with it, and what changes before the place
abbrev pub WalkedLaw : Type 0
WalkedLaw = (c : Plane) (s : Part) → IsSound s → HasCornersInRange s → (halves : List ℕ) (edge : ℕ) (e : Edge s) (part : Interval Frac) (segments : List Segment) (left right : Bool) (found : List CrossingBorder) (section outlines : List Crossing)
    → HasWalked false c s halves edge e part segments left right found section outlines → IsBeyond c (point_of e.a)
    → (k : Side) → IsOddAhead k false (toward_of c) e.a e.b segments (odd_to k left right)
    → (near : ℤ) → AreCoverCounts k c e false near
    → (n m : ℤ) → IsValid c e n m → (all : ℕ) → AreCutCounted k c e (share_point e.a e.b n m) all
    → pos all ≡ (near +ℤ cond (odd_to k left right) (pos 1) (pos 0)) +ℤ total (change_before (change_to k) n m) (section ++ outlines)

-- from the second end: the section is there before the first border by what it is next to that end and all borders
abbrev pub WalkedBackLaw : Type 0
WalkedBackLaw = (c : Plane) (s : Part) → IsSound s → HasCornersInRange s → (halves : List ℕ) (edge : ℕ) (e : Edge s) (part : Interval Frac) (segments : List Segment) (left right : Bool) (found : List CrossingBorder) (section outlines : List Crossing)
    → HasWalked true c s halves edge e part segments (xor left (odd_turns turn_left found)) (xor right (odd_turns turn_right found)) found section outlines → IsBeyond c (point_of e.b)
    → (k : Side) → IsOddAhead k true (toward_of c) e.a e.b segments (odd_to k left right)
    → (near : ℤ) → AreCoverCounts k c e true near
    → (n m : ℤ) → IsValid c e n m → (all : ℕ) → AreCutCounted k c e (share_point e.a e.b n m) all
    → pos all ≡ ((near +ℤ cond (odd_to k left right) (pos 1) (pos 0)) -ℤ total (change_to k) (section ++ outlines)) +ℤ total (change_before (change_to k) n m) (section ++ outlines)
