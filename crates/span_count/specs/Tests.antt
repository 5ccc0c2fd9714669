-- How many tests a call made.
use Rattle.std.specs.Prelude.{◌≡◌, ◌≢◌, ℕ, ◌+◌, ◌<◌, ◌≤◌, false, List, All, AllPairs, Contains, Option, Some, None, length, slice_get, sum}
use Rattle.std.specs.List.{AllZip}
use Rattle.geometry.specs.Parts.{Part, Edge, IsNumbered}
use Rattle.geometry.specs.Turns.{number_at}
use Rattle.edge_pick.specs.declared.Picked.{Picked}
use Rattle.edge_pick.specs.declared.order.DrawnEnd.{DrawnEnd}
use Rattle.edge_pick.specs.declared.order.Step.{Step}
use Rattle.cross_find.specs.Sights.{SightState}
use Rattle.span_count.specs.Bounds.{IsEndCount}
use Rattle.span_count.specs.Orders.{AreSteps}

-- so many tests more were made
abbrev pub with_tests : ℕ → SightState → SightState
with_tests n x = record x { tests = x.tests + n }

-- at most so many tests were made, and the part, its halves and the direction stand
abbrev pub IsTested : ℕ → SightState → SightState → Type 0
IsTested most old new = (n : ℕ) × (n ≤ most) × (new ≡ with_tests n old)

-- so many different triangles, with each that is near among them
pub record AreNearAmong (near : ℕ → Type 0) (triangles n : ℕ) : Type 0 where
  pub tested : List ℕ
  pub within : All (λ tri. tri < triangles) tested
  pub once : AllPairs ◌≢◌ tested
  pub all_near : (tri : ℕ) → tri < triangles → near tri → Contains tested tri
  pub number : n ≡ length tested

-- How many tests come before an edge is walked along. Where a run begins, they are those of different triangles, with each that is near the edge's first
-- corner among them. Else there is one of each outline that is listed over the corner that is come to.
abbrev pub AreCornerTests : (ℕ → List ℕ) → (ℕ → ℕ → Type 0) → {s : Part} → Edge s → DrawnEnd → Option DrawnEnd → ℕ → Type 0
AreCornerTests over near {s} e to None n = AreNearAmong (near (number_at e false)) (length s.triangles) n
AreCornerTests over near {s} e to (Some from) n = n ≡ length (over (number_at e to.at_b))

-- How many tests a walk step takes: those before its edge is walked along, one of each outline that is listed along it, and one of each triangle at
-- either end, those at both twice.
pub record AreStepTests (x : SightState) (p : Picked) (along over : ℕ → List ℕ) (near : ℕ → ℕ → Type 0) (step : Step) (n : ℕ) : Type 0 where
  pub edge : ℕ
  pub drawn : slice_get p.drawn.items step.to.place ≡ Some edge
  pub e : Edge x.part
  pub numbered : IsNumbered x.halves edge e
  pub before : ℕ
  pub at_corner : AreCornerTests over near e step.to step.from before
  pub ends : ℕ
  pub at_ends : IsEndCount x.part x.halves edge ends
  pub number : n ≡ before + (length (along edge) + ends)

-- The drawn edges were walked in some order, each once, and as many tests were counted as these steps take.
pub record AreAllTested (p : Picked) (along over : ℕ → List ℕ) (near : ℕ → ℕ → Type 0) (old new : SightState) : Type 0 where
  pub steps : List Step
  pub are_steps : AreSteps old p steps
  pub counts : List ℕ
  pub each : AllZip (AreStepTests old p along over near) steps counts
  pub all : new ≡ with_tests (sum counts) old
