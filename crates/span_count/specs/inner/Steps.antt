-- What each step does on the way from tests to spans.
use Rattle.std.specs.Prelude.{◌≡◌, ◌≢◌, ◌⊎◌, ℕ, ◌<◌, ◌^◌, ℤ, List, [], ◌∷◌, ◌++◌, All, AllPairs, Contains, Option, Some, length, slice_get}
use Rattle.std.specs.List.{AllZip, filter_map}
use Rattle.exact_frac.specs.declared.Frac.{Frac}
use Rattle.lattice.specs.declared.points.Corner.{Corner}
use Rattle.geometry.specs.Parts.{Edge, IsNumbered}
use Rattle.geometry.specs.Places.{IsEarlier, IsSame}
use Rattle.geometry.specs.Views.{IsEndOn, IsOutline}
use Rattle.geometry.specs.Shares.{Changes}
use Rattle.geometry.specs.Turns.{IsNearerOver}
use Rattle.cross_find.specs.declared.meter.Crossing.{Crossing}
use Rattle.cross_find.specs.Sights.{SightState}
use Rattle.cross_find.specs.Crossings.{IsAcross}
use Rattle.span_count.specs.declared.span.CountSpan.{CountSpan}
use Rattle.span_count.specs.Carries.{IsCountOf}

-- ---- the edge, and the outlines that are tested along it
-- there is such an edge, and it is not seen end-on
pub record IsSeenEdge (x : SightState) (edge : ℕ) : Type 0 where
  pub in_range : edge < length x.halves
  pub seen : (e : Edge x.part) → IsNumbered x.halves edge e → ¬ IsEndOn x.direction e

abbrev pub IsOutlineAt : SightState → ℕ → Type 0
IsOutlineAt x i = (i < length x.halves) × ((o : Edge x.part) → IsNumbered x.halves i o → IsOutline x.direction o)

-- outlines, none twice, and among them every one that changes one of the counts along the edge
pub record AreListed (x : SightState) (edge : ℕ) (outlines : List ℕ) : Type 0 where
  pub few : length outlines < 2 ^ 32
  pub outline : All (IsOutlineAt x) outlines
  pub once : AllPairs ◌≢◌ outlines
  pub changing : (e o : Edge x.part) (i : ℕ) → IsNumbered x.halves edge e → IsNumbered x.halves i o → Changes x.direction e o → Contains outlines i

-- outlines, none twice, and among them every one that is strictly nearer over the corner with this number and does not have it
pub record AreListedOver (x : SightState) (number : ℕ) (outlines : List ℕ) : Type 0 where
  pub few : length outlines < 2 ^ 32
  pub outline : All (IsOutlineAt x) outlines
  pub once : AllPairs ◌≢◌ outlines
  pub passing : (c : Corner) (o : Edge x.part) (i : ℕ) → slice_get x.part.corners number ≡ Some c → IsNumbered x.halves i o → IsOutline x.direction o →
      IsNearerOver x.direction number c o → Contains outlines i

-- ---- tests
-- what a test of an outline answers
abbrev pub IsAnswer : (x : SightState) → Edge x.part → ℕ → Option Crossing → Type 0
IsAnswer x e i answer = (o : Edge x.part) → IsNumbered x.halves i o → IsAcross x.direction e o answer

-- the crossings with these outlines, in their order
pub record AreCrossings (x : SightState) (e : Edge x.part) (outlines : List ℕ) (crossings : List Crossing) : Type 0 where
  pub answers : List (Option Crossing)
  pub each : AllZip (IsAnswer x e) outlines answers
  pub all : crossings ≡ filter_map (λ answer. answer) answers

-- ---- spans
-- where a span ends at that place in a part that ends at `to`
abbrev pub IsEndUntil : Frac → Frac → Frac → Type 0
IsEndUntil place to end = (IsEarlier place to × IsSame end place) ⊎ ((¬ IsEarlier place to) × IsSame end to)

-- the span from one to the other, if it has an inside, with the sums as counts; `end` is where the spans then end
abbrev pub IsSpanAdded : Frac → Frac → ℤ → ℤ → List CountSpan → List CountSpan → Frac → Type 0
IsSpanAdded from to left right old new end =
    (IsEarlier from to × IsSame end to × ((x : CountSpan) × IsSame x.from from × IsSame x.to to × IsCountOf left x.left × IsCountOf right x.right × (new ≡ old ++ x ∷ [])))
    ⊎ ((¬ IsEarlier from to) × IsSame end from × (new ≡ old))
