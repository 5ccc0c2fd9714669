-- The loops of a section, which of them are in others, and regions: outer loops with the loops in them.
use Rattle.std.specs.Prelude.{◌≡◌, ℕ, suc, ◌%◌, List, [], ◌∷◌, ◌++◌, All, map, take, drop, length, Some, slice_get}
use Rattle.std.proofs.Common.{Vec, Global}
use Rattle.lattice.specs.Triple.{Triple}
use Rattle.lattice.specs.Points.{Point, of_spot}
use Rattle.geometry.specs.Cuts.{IsCount}
use Rattle.cut_plane.specs.declared.segments.Segment.{Segment}
use Rattle.cut_plane.specs.Loops.{joined, places_from}
use Rattle.cut_plane.specs.Sides.{IsRightOf}
use Rattle.section_look.specs.declared.regions.Region.{Region}

-- what the vectors hold
abbrev pub lists_of : List (Vec Segment Global) → List (List Segment)
lists_of lists = map (λ list. list.items) lists

-- the segments are these loops one after the other, and these are the places of their first segments
pub record AreLoopsOf (segments : List Segment) (places : List ℕ) (loops : List (List Segment)) : Type 0 where
  pub together : segments ≡ joined loops
  pub begin : places ≡ places_from 0 loops

-- ---- which loops are in others
-- the loop encloses the point: an odd number of its segments are to the right of it
abbrev pub Encloses : Triple → List Segment → Point → Type 0
Encloses d loop p = (n : ℕ) × IsCount Segment (λ x. IsRightOf d x p) loop n × (n % 2 ≡ 1)

-- the first loop is in the second, which encloses its first point
abbrev pub IsIn : Triple → List Segment → List Segment → Type 0
IsIn d [] outer = ⊥
IsIn d (x ∷ inner) outer = Encloses d outer (of_spot x.a)

-- all loops but the one with this number
abbrev pub others_of : List (List Segment) → ℕ → List (List Segment)
others_of loops k = take k loops ++ drop (suc k) loops

-- this loop has the number k, and is in no other
pub record IsOuter (d : Triple) (loops : List (List Segment)) (k : ℕ) (loop : List Segment) : Type 0 where
  pub at : slice_get loops k ≡ Some loop
  pub in_none : All (λ other. ¬ IsIn d loop other) (others_of loops k)

-- it is in another
pub record IsInner (d : Triple) (loops : List (List Segment)) (k : ℕ) (loop : List Segment) : Type 0 where
  pub at : slice_get loops k ≡ Some loop
  pub in_one : ¬ All (λ other. ¬ IsIn d loop other) (others_of loops k)

-- ---- regions
-- the elements for which P holds, in order
pub data ArePicked {A : Type 0} (P : A → Type 0) : List A → List A → Type 0 where
  none : ArePicked P [] []
  picked : (xs ys : List A) (x : A) → ArePicked P xs ys → P x → ArePicked P (xs ++ x ∷ []) (ys ++ x ∷ [])
  passed : (xs ys : List A) (x : A) → ArePicked P xs ys → ¬ P x → ArePicked P (xs ++ x ∷ []) ys

-- the region of an outer loop: that loop, and then each other one that is in it
pub record IsRegion (d : Triple) (loops : List (List Segment)) (k : ℕ) (region : Region) : Type 0 where
  pub outer : List Segment
  pub is : IsOuter d loops k outer
  pub inside : List (List Segment)
  pub picked : ArePicked (λ other. IsIn d other outer) (others_of loops k) inside
  pub has : lists_of region.loops.items ≡ outer ∷ inside

-- the regions of the first of the loops, one for each outer loop, in order
pub data AreRegionsUntil (d : Triple) (loops : List (List Segment)) : ℕ → List Region → Type 0 where
  none : AreRegionsUntil d loops 0 []
  outer : (k : ℕ) (regions : List Region) (region : Region) → AreRegionsUntil d loops k regions → IsRegion d loops k region → AreRegionsUntil d loops (suc k) (regions ++ region ∷ [])
  inner : (k : ℕ) (regions : List Region) (loop : List Segment) → AreRegionsUntil d loops k regions → IsInner d loops k loop → AreRegionsUntil d loops (suc k) regions

abbrev pub AreRegions : Triple → List (List Segment) → List Region → Type 0
AreRegions d loops regions = AreRegionsUntil d loops (length loops) regions

-- all segments of a region
abbrev pub segments_in : Region → List Segment
segments_in region = joined (lists_of region.loops.items)
