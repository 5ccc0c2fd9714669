-- One step: what its two forms need and give, from what is asked of any step.
use Rattle.std.proofs.Common.{◌≡◌, ℕ, ◌+◌, ◌<◌, ◌≤◌, ◌^◌, Bool, false, true, List, Contains, length, get_or, sym, subst, ap, ◌∙◌, arith}
use Rattle.std.specs.Prelude.{Option, None, Some, Result, Ok, Err, IfOk, slice_get}
use Rattle.std.proofs.lemmas.Option.{same_Some, get_or_from_slice_get}
use Rattle.exact_frac.specs.declared.OutOfMemory.{OutOfMemory}
use Rattle.geometry.specs.Parts.{Edge, IsNumbered}
use Rattle.geometry.specs.Turns.{number_at}
use Rattle.edge_pick.specs.declared.Picked.{Picked}
use Rattle.cross_find.specs.Sights.{SightState, IsSeen}
use Rattle.span_count.specs.Bounds.{IsEndCount}
use Rattle.span_count.specs.CountSpans.{AreCountSpans}
use Rattle.span_count.specs.Finders.{IsPickedIn, IsFinder}
use Rattle.span_count.specs.inner.Rests.{AreRests}
use Rattle.span_count.specs.Tests.{IsTested}
use Rattle.span_count.specs.inner.Tours.{kept_at, cost_of, IsKept, IsWalked}
use Rattle.edge_pick.specs.declared.order.DrawnEnd.{DrawnEnd}
use Rattle.span_count.specs.declared.step.Sides.{Sides}
use Rattle.span_count.specs.declared.step.Walked.{Walked}
use Rattle.span_count.specs.declared.tour.Ends.{Ends}
use Rattle.span_count.proofs.Listings.{there_at, few_along, few_over}

-- ---- numbers of tests
pub first_fits : (t c l a o e : ℕ) → t + (c + (o + e)) < 2 ^ 64 → l ≡ c → a ≤ o → t + (l + (a + e)) < 2 ^ 64
first_fits t c l a o e room same few = omega arith

pub next_fits : (t v a o e : ℕ) → t + (o + (o + e)) < 2 ^ 64 → v ≤ o → a ≤ o → t + (v + (a + e)) < 2 ^ 64
next_fits t v a o e room over along = omega arith

first_most : (c l a o e : ℕ) → l ≡ c → a ≤ o → l + (a + e) ≤ c + (o + e)
first_most c l a o e same few = omega arith

next_most : (v a o e : ℕ) → v ≤ o → a ≤ o → v + (a + e) ≤ o + (o + e)
next_most v a o e over along = omega arith

tested_within : (x new : SightState) (some most : ℕ) → some ≤ most → IsTested some x new → IsTested most x new
tested_within x new some most less (n, few, is) = (n, omega arith, is)

-- the tests of a step are within its cost
module _ (x : SightState) (seen : IsSeen x) (p : Picked) (picked : IsPickedIn x p) (along over : ℕ → List ℕ) (near : ℕ → ℕ → Type 0) (finder : IsFinder x p along over near) (place number edge : ℕ)
    (at : slice_get p.drawn.items place ≡ Some edge) (here : slice_get p.drawn.items place ≡ Some number) (ends : ℕ) (count : IsEndCount x.part x.halves number ends) (new : SightState) (from : Option DrawnEnd) where
  there : Contains p.drawn.items edge
  there = there_at p.drawn.items place edge at

  few : length (along edge) ≤ length p.outlines.items
  few = few_along x seen p picked along over near finder edge there

  counted : IsEndCount x.part x.halves edge ends
  counted = subst (λ (n : ℕ). IsEndCount x.part x.halves n ends) (same_Some number edge (sym here ∙ at)) count

  pub first_tested : from ≡ None → (triangles : ℕ) → triangles ≡ length x.part.triangles → ((ends : ℕ) → IsEndCount x.part x.halves edge ends → IsTested (triangles + (length (along edge) + ends)) x new)
      → IsTested (cost_of (length x.part.triangles) (length p.outlines.items) ends from) x new
  first_tested none triangles same tested =
      subst (λ (from : Option DrawnEnd). IsTested (cost_of (length x.part.triangles) (length p.outlines.items) ends from) x new) (sym none)
      (tested_within x new (triangles + (length (along edge) + ends)) (length x.part.triangles + (length p.outlines.items + ends))
      (first_most (length x.part.triangles) triangles (length (along edge)) (length p.outlines.items) ends same few) (tested ends counted))

  pub next_tested : (before : DrawnEnd) → from ≡ Some before → (at_b : Bool)
      → ((e : Edge x.part) (ends : ℕ) → IsNumbered x.halves edge e → IsEndCount x.part x.halves edge ends → IsTested (length (over (number_at e at_b)) + (length (along edge) + ends)) x new)
      → IsTested (cost_of (length x.part.triangles) (length p.outlines.items) ends from) x new
  next_tested before some at_b tested =
      let v = over (number_at counted.edge at_b) in
      subst (λ (from : Option DrawnEnd). IsTested (cost_of (length x.part.triangles) (length p.outlines.items) ends from) x new) (sym some)
      (tested_within x new (length v + (length (along edge) + ends)) (length p.outlines.items + (length p.outlines.items + ends))
      (next_most (length v) (length (along edge)) (length p.outlines.items) ends (few_over x seen p picked along over near finder edge there counted.edge at_b) few)
      (tested counted.edge ends counted.numbered counted))

-- ---- what is kept
pub kept_rests : (x : SightState) (p : Picked) (ends : List Ends) (from : DrawnEnd) (edge : ℕ) (other : Ends) (r : Sides) → IsKept x p ends from → slice_get p.drawn.items from.place ≡ Some edge
    → r ≡ kept_at (get_or ends from.place other) from.at_b → AreRests x edge from.at_b r
kept_rests x p ends from edge other r known at is =
    subst (AreRests x edge from.at_b) (sym (is ∙ ap (λ (e : Ends). kept_at e from.at_b) (get_or_from_slice_get ends from.place known.kept other known.listed)))
    (subst (λ (n : ℕ). AreRests x n from.at_b (kept_at known.kept from.at_b)) (same_Some known.edge edge (sym known.drawn ∙ at)) known.rests)

-- ---- what was walked
pub all_walked : (x : SightState) (edge number : ℕ) (drawn : List ℕ) (place : ℕ) → slice_get drawn place ≡ Some edge → slice_get drawn place ≡ Some number → (r : Result Walked OutOfMemory)
    → ((e : Edge x.part) → IsNumbered x.halves edge e → IfOk r (λ walked. AreCountSpans x.direction e walked.spans.items)) → IfOk r (λ walked. AreRests x edge false walked.first)
    → IfOk r (λ walked. AreRests x edge true walked.second) → IfOk r (λ walked. IsWalked x number walked)
all_walked x edge number drawn place at here r spans first second =
    subst (λ (n : ℕ). IfOk r (λ walked. IsWalked x n walked)) (same_Some edge number (sym at ∙ here)) (by r spans first second)
  where
    by : (r : Result Walked OutOfMemory) → ((e : Edge x.part) → IsNumbered x.halves edge e → IfOk r (λ walked. AreCountSpans x.direction e walked.spans.items)) → IfOk r (λ walked. AreRests x edge false walked.first)
        → IfOk r (λ walked. AreRests x edge true walked.second) → IfOk r (λ walked. IsWalked x edge walked)
    by (Ok walked) spans first second = record { spans = spans; first = first; second = second }
    by (Err e) spans first second = tt
