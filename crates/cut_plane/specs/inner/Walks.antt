-- How loops are followed: which triangle comes next, which triangles are marked, and what a step and a round add.
use Rattle.std.specs.Prelude.{◌≡◌, ◌≢◌, ◌⊎◌, ◌↔◌, ℕ, ◌+◌, ◌*◌, ◌<◌, Bool, true, false, List, [], ◌∷◌, ◌++◌, Contains, All, AllPairs, length, slice_index_or, slice_set}
use Rattle.lattice.specs.Points.{of_spot}
use Rattle.lattice.specs.Cuts.{Plane}
use Rattle.geometry.specs.Parts.{Part, Face, IsTwin}
use Rattle.geometry.specs.Cuts.{start_corner, end_corner, GoesBeyond, IsCrossed}
use Rattle.cut_plane.specs.declared.segments.Segment.{Segment}
use Rattle.cut_plane.specs.Loops.{IsSegmentOf, triangles_of, LeadFrom}

-- the triangle with this number has corners on both sides
abbrev pub IsCrossedAt : Plane → Part → ℕ → Type 0
IsCrossedAt c s i = (f : Face s) × (f.number ≡ i) × IsCrossed c f

-- the border leaves triangle i by a side that comes back before the plane, and goes on in triangle j, by its twin
pub record Follows (c : Plane) (s : Part) (i j : ℕ) : Type 0 where
  pub from : Face s
  pub to : Face s
  pub from_number : from.number ≡ i
  pub to_number : to.number ≡ j
  pub out : ℕ
  pub into : ℕ
  pub out_side : out < 3
  pub into_side : into < 3
  pub returns : GoesBeyond c (end_corner from out) (start_corner from out)
  pub goes : GoesBeyond c (start_corner to into) (end_corner to into)
  pub same_start : start_corner to into ≡ end_corner from out
  pub same_end : end_corner to into ≡ start_corner from out
  pub twin : IsTwin s (3 * i + out) (3 * j + into)

-- ---- marks
abbrev pub IsMarked : List Bool → ℕ → Type 0
IsMarked marks i = slice_index_or marks i false ≡ true

abbrev pub unmarked : List Bool → ℕ
unmarked [] = 0
unmarked (false ∷ marks) = unmarked marks + 1
unmarked (true ∷ marks) = unmarked marks

-- a marked triangle follows a marked one
abbrev pub AreFollowing : Plane → Part → List Bool → Type 0
AreFollowing c s marks = (j : ℕ) → IsMarked marks j → (i : ℕ) × IsMarked marks i × Follows c s i j

-- ---- one step
pub record IsStep (c : Plane) (s : Part) (tri : ℕ) (old_marks : List Bool) (old : List Segment) (marks : List Bool) (new : List Segment) (next : ℕ) : Type 0 where
  pub segment : Segment
  pub right : IsSegmentOf c s segment
  pub at : segment.tri ≡ tri
  pub grown : new ≡ old ++ segment ∷ []
  pub marked : marks ≡ slice_set old_marks tri true
  pub follows : Follows c s tri next

-- ---- one round: a closed loop of triangles that were not marked
pub record IsRound (c : Plane) (s : Part) (start : ℕ) (old_marks : List Bool) (old : List Segment) (marks : List Bool) (new : List Segment) : Type 0 where
  pub first : Segment
  pub rest : List Segment
  pub grown : new ≡ old ++ first ∷ rest
  pub begin : first.tri ≡ start
  pub closed : LeadFrom (of_spot first.b) rest (of_spot first.a)
  pub each : All (IsSegmentOf c s) (first ∷ rest)
  pub once : AllPairs (λ i j. i ≢ j) (triangles_of (first ∷ rest))
  pub free : (i : ℕ) → Contains (triangles_of (first ∷ rest)) i → ¬ IsMarked old_marks i
  pub marked : (i : ℕ) → IsMarked marks i ↔ (IsMarked old_marks i ⊎ Contains (triangles_of (first ∷ rest)) i)
  pub following : AreFollowing c s marks
  pub long : length marks ≡ length old_marks
  pub count : unmarked marks + length new ≡ unmarked old_marks + length old
