-- What is found step by step: at each step's edge, and what is kept for the steps after it.
use Rattle.std.specs.Prelude.{◌≡◌, ℕ, ◌+◌, Bool, true, false, List, Option, Some, None, slice_get}
use Rattle.geometry.specs.Parts.{Edge, IsNumbered}
use Rattle.cross_find.specs.Sights.{SightState}
use Rattle.edge_pick.specs.declared.Picked.{Picked}
use Rattle.span_count.specs.CountSpans.{AreCountSpans}
use Rattle.span_count.specs.Orders.{AreAtOneCorner}
use Rattle.span_count.specs.inner.Rests.{AreRests}
use Rattle.edge_pick.specs.declared.order.DrawnEnd.{DrawnEnd}
use Rattle.span_count.specs.declared.step.Sides.{Sides}
use Rattle.span_count.specs.declared.step.Walked.{Walked}
use Rattle.span_count.specs.declared.tour.Ends.{Ends}

-- what is kept for the first end, or for the second
abbrev pub kept_at : Ends → Bool → Sides
kept_at kept false = kept.first
kept_at kept true = kept.second

-- what is kept for the end is right
pub record IsKept (x : SightState) (p : Picked) (ends : List Ends) (end : DrawnEnd) : Type 0 where
  pub edge : ℕ
  pub kept : Ends
  pub drawn : slice_get p.drawn.items end.place ≡ Some edge
  pub listed : slice_get ends end.place ≡ Some kept
  pub rests : AreRests x edge end.at_b (kept_at kept end.at_b)

-- what the step needs of the end that it comes from
abbrev pub IsReady : SightState → Picked → List Ends → DrawnEnd → Option DrawnEnd → Type 0
IsReady x p ends to None = Unit {0}
IsReady x p ends to (Some from) = AreAtOneCorner x p from to × IsKept x p ends from

-- what is found at the edge with this number is right
pub record IsWalked (x : SightState) (edge : ℕ) (walked : Walked) : Type 0 where
  pub spans : (e : Edge x.part) → IsNumbered x.halves edge e → AreCountSpans x.direction e walked.spans.items
  pub first : AreRests x edge false walked.first
  pub second : AreRests x edge true walked.second

-- how many tests a step may take, with so many triangles, outlines, and triangles at its edge's ends
abbrev pub cost_of : ℕ → ℕ → ℕ → Option DrawnEnd → ℕ
cost_of triangles outlines ends None = triangles + (outlines + ends)
cost_of triangles outlines ends (Some from) = outlines + (outlines + ends)
