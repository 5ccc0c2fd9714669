-- What each step does on the way along an edge of a cut view.
use Rattle.std.specs.Prelude.{◌≡◌, ◌≢◌, ℕ, ◌<◌, ◌%◌, ◌^◌, ◌↔◌, ℤ, pos, negsuc, ◌+ℤ◌, Bool, true, false, List, [], ◌∷◌, All, AllPairs, Contains, Option, IsTrue, length, sum}
use Rattle.std.specs.List.{AllZip, filter_map}
use Rattle.exact_frac.specs.declared.Frac.{Frac}
use Rattle.intervals.specs.declared.interval.Interval.{Interval}
use Rattle.lattice.specs.declared.points.Corner.{Corner}
use Rattle.lattice.specs.Triple.{Triple}
use Rattle.lattice.specs.Points.{of_spot}
use Rattle.lattice.specs.Cuts.{Plane}
use Rattle.geometry.specs.Cuts.{IsCount}
use Rattle.geometry.specs.Parts.{Part, Face, Edge, IsNumbered}
use Rattle.geometry.specs.Counts.{Side}
use Rattle.cross_find.specs.declared.meter.Crossing.{Crossing}
use Rattle.cut_plane.specs.declared.segments.Segment.{Segment}
use Rattle.cut_plane.proofs.Xors.{xor}
use Rattle.cut_count_laws.specs.CutShares.{CutChanges}
use Rattle.cut_count_laws.proofs.CutLaws.{AreCutCovers}
use Rattle.cut_count.specs.declared.found.CrossingBorder.{CrossingBorder}
use Rattle.cut_count.specs.Crossings.{IsCutAcross}
use Rattle.cut_count.specs.inner.Borders.{IsAhead, IsFoundOr}

-- ---- outlines
-- edges, none twice, and among them every one that changes one of the counts along this edge
pub record AreListedInCut (c : Plane) (s : Part) (halves : List ℕ) (edge : ℕ) (outlines : List ℕ) : Type 0 where
  pub few : length outlines < 2 ^ 32
  pub within : All (λ i. i < length halves) outlines
  pub once : AllPairs ◌≢◌ outlines
  pub changing : (e o : Edge s) (i : ℕ) → IsNumbered halves edge e → IsNumbered halves i o → CutChanges c e o → Contains outlines i

abbrev pub IsOutlineAnswer : Plane → {s : Part} → Edge s → List ℕ → ℕ → Option Crossing → Type 0
IsOutlineAnswer c {s = s} e halves i answer = (o : Edge s) → IsNumbered halves i o → IsCutAcross c e o answer

-- the crossings with these outlines, in their order
pub record AreOutlineCrossings (c : Plane) {s : Part} (e : Edge s) (halves outlines : List ℕ) (crossings : List Crossing) : Type 0 where
  pub answers : List (Option Crossing)
  pub each : AllZip (IsOutlineAnswer c e halves) outlines answers
  pub all : crossings ≡ filter_map (λ answer. answer) answers

-- ---- borders
abbrev pub IsBorderAnswer : Plane → {s : Part} → Edge s → Interval Frac → Segment → Option CrossingBorder → Type 0
IsBorderAnswer c {s = s} e part x answer = (f : Face s) → f.number ≡ x.tri → IsFoundOr c e f part (of_spot x.a) (of_spot x.b) answer

-- the borders that cross the edge within the part, in the order of their segments
pub record AreFound (c : Plane) {s : Part} (e : Edge s) (part : Interval Frac) (segments : List Segment) (found : List CrossingBorder) : Type 0 where
  pub answers : List (Option CrossingBorder)
  pub each : AllZip (IsBorderAnswer c e part) segments answers
  pub all : found ≡ filter_map (λ answer. answer) answers

-- whether an odd number of segments is ahead of that end of the edge from a to b
abbrev pub IsOddAhead : Side → Bool → Triple → Corner → Corner → List Segment → Bool → Type 0
IsOddAhead k at_b d a b segments odd =
    (n : ℕ) × IsCount Segment (λ x. IsAhead k at_b d a b (of_spot x.a) (of_spot x.b)) segments n × (IsTrue odd ↔ (n % 2 ≡ 1))

-- ---- next to the end that is come from
-- so many faces are counted there
abbrev pub AreCoverCounts : Side → Plane → {s : Part} → Edge s → Bool → ℤ → Type 0
AreCoverCounts k c e at_b z = (covers : List ℕ) × AreCutCovers k c e at_b covers × (z ≡ pos (sum covers))

-- ---- the section along the edge
abbrev pub turn_left : CrossingBorder → Bool
turn_left x = x.left.turns

abbrev pub turn_right : CrossingBorder → Bool
turn_right x = x.right.turns

-- whether it begins or ends an odd number of times
abbrev pub odd_turns : (CrossingBorder → Bool) → List CrossingBorder → Bool
odd_turns turns [] = false
odd_turns turns (x ∷ xs) = xor (turns x) (odd_turns turns xs)

-- 1 where it begins, -1 where it ends, else 0
abbrev pub section_change : Bool → Bool → ℤ
section_change there false = pos 0
section_change false true = pos 1
section_change true true = negsuc 0

-- the borders as crossings, where the section is there before the first, or not, for the one count and the other
abbrev pub AreSectionCrossings : Bool → Bool → List CrossingBorder → List Crossing → Type 0
AreSectionCrossings left right [] [] = Unit {0}
AreSectionCrossings left right [] (y ∷ ys) = ⊥
AreSectionCrossings left right (x ∷ xs) [] = ⊥
AreSectionCrossings left right (x ∷ xs) (y ∷ ys) =
    (y.at ≡ x.at) × (y.left ≡ x.left.own +ℤ section_change left x.left.turns) × (y.right ≡ x.right.own +ℤ section_change right x.right.turns)
    × AreSectionCrossings (xor left x.left.turns) (xor right x.right.turns) xs ys
