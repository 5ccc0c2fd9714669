-- The steps over all drawn edges so far: what was found, and how many tests were made.
use Rattle.std.proofs.Common.{◌≡◌, ◌⊎◌, inl, inr, ℕ, ◌+◌, ◌<◌, ◌≤◌, ◌^◌, Bool, true, false, List, length, get_or, set, refl, sym, subst, ap, ◌∙◌, arith}
use Rattle.std.specs.Prelude.{Option, Some, None, slice_get}
use Rattle.std.specs.List.{AllZip}
use Rattle.std.proofs.lemmas.List.{length-set}
use Rattle.std.proofs.lemmas.Option.{same_Some, slice_get_within, slice_get-get_or}
use Rattle.geometry.specs.Parts.{Part, Edge, IsNumbered}
use Rattle.edge_pick.specs.declared.Picked.{Picked}
use Rattle.cross_find.specs.Sights.{SightState, IsSeen}
use Rattle.span_count.specs.Bounds.{IsEndCount, IsBound}
use Rattle.span_count.specs.CountSpans.{AreCountSpans}
use Rattle.span_count.specs.Entries.{IsEntry}
use Rattle.span_count.specs.Finders.{IsPickedIn, IsFinder}
use Rattle.span_count.specs.Orders.{AreAtOneCorner, ComesFrom, AreSteps}
use Rattle.span_count.specs.inner.Rests.{AreRests}
use Rattle.span_count.specs.Tests.{with_tests, IsTested}
use Rattle.span_count.specs.inner.Tours.{kept_at, IsKept, IsReady, IsWalked, cost_of}
use Rattle.edge_pick.specs.declared.order.DrawnEnd.{DrawnEnd}
use Rattle.edge_pick.specs.declared.order.Step.{Step}
use Rattle.span_count.specs.declared.span.EdgeSpans.{EdgeSpans}
use Rattle.span_count.specs.declared.step.Sides.{Sides}
use Rattle.span_count.specs.declared.step.Walked.{Walked}
use Rattle.span_count.specs.declared.tour.Ends.{Ends}
use Rattle.span_count.proofs.Lists.{zip_at, zip_each, slice_get-set_same, slice_get-set_other}
use Rattle.span_count.proofs.OneBound.{end_one, bound_one}
use Rattle.span_count.proofs.Costs.{step_cost, cost_so_far, cost_more, costs_to, within_bound, place_within, each_gone_to}
use Rattle.span_count.proofs.Walks.{no_tests, tests_after_tests}

-- ---- what stands after so many tests
module _ (x now : SightState) (n : ℕ) (e : now ≡ with_tests n x) where
  pub seen_after : IsSeen x → IsSeen now
  seen_after h = subst IsSeen (sym e) (record { sound = h.sound; within = h.within; few_corners = h.few_corners; few_triangles = h.few_triangles; edges = h.edges; directed = h.directed })

  pub picked_after : (p : Picked) → IsPickedIn x p → IsPickedIn now p
  picked_after p h = subst (λ y. IsPickedIn y p) (sym e) h

  pub finder_after : (p : Picked) (along over : ℕ → List ℕ) (near : ℕ → ℕ → Type 0) → IsFinder x p along over near → IsFinder now p along over near
  finder_after p along over near h = subst (λ y. IsFinder y p along over near) (sym e)
      (record { outlines = h.outlines; once = h.once; outlines_over = h.outlines_over; once_over = h.once_over; changing = h.changing; passing = h.passing; covering = h.covering })

  pub rests_after : (edge : ℕ) (at_b : Bool) (r : Sides) → AreRests x edge at_b r → AreRests now edge at_b r
  rests_after edge at_b r h = subst (λ y. AreRests y edge at_b r) (sym e) (record { on_left = h.on_left; on_right = h.on_right })

  pub rests_before : (edge : ℕ) (at_b : Bool) (r : Sides) → AreRests now edge at_b r → AreRests x edge at_b r
  rests_before edge at_b r h =
      let back : AreRests (with_tests n x) edge at_b r = subst (λ y. AreRests y edge at_b r) e h in
      record { on_left = back.on_left; on_right = back.on_right }

  pub same_part : now.part ≡ x.part
  same_part = ap (λ y. y.part) e

-- ---- what was found so far
-- what was found at this place is right
pub record IsDoneAt (x : SightState) (p : Picked) (entries : List EdgeSpans) (ends : List Ends) (place : ℕ) : Type 0 where
  pub edge : ℕ
  pub entry : EdgeSpans
  pub kept : Ends
  pub drawn : slice_get p.drawn.items place ≡ Some edge
  pub entered : slice_get entries place ≡ Some entry
  pub listed : slice_get ends place ≡ Some kept
  pub right : IsEntry x edge entry
  pub first : AreRests x edge false kept.first
  pub second : AreRests x edge true kept.second

pub record AreStepsSoFar (x : SightState) (p : Picked) (steps : List Step) (k : ℕ) (now : SightState) (entries : List EdgeSpans) (ends : List Ends) : Type 0 where
  pub tested : (counts : List ℕ) → AllZip (IsEndCount x.part x.halves) p.drawn.items counts
      → IsTested (cost_so_far (length x.part.triangles) (length p.outlines.items) counts steps k) x now
  pub entries_long : length entries ≡ length p.drawn.items
  pub ends_long : length ends ≡ length p.drawn.items
  pub done : (j : ℕ) (step : Step) → j < k → slice_get steps j ≡ Some step → IsDoneAt x p entries ends step.to.place

pub steps_none : (x : SightState) (p : Picked) (steps : List Step) (entries : List EdgeSpans) (ends : List Ends) → length entries ≡ length p.drawn.items → length ends ≡ length p.drawn.items
    → AreStepsSoFar x p steps 0 x entries ends
steps_none x p steps entries ends entries_long ends_long = record {
  tested = λ counts are. (0, omega arith, no_tests x);
  entries_long = entries_long;
  ends_long = ends_long;
  done = λ j step before at. absurd (omega arith);
}

-- what is kept for an end that was come to
kept_of : (x : SightState) (p : Picked) (entries : List EdgeSpans) (ends : List Ends) (end : DrawnEnd) (place : ℕ) → place ≡ end.place → IsDoneAt x p entries ends place → IsKept x p ends end
kept_of x p entries ends end place same done =
    let here : IsDoneAt x p entries ends end.place = subst (IsDoneAt x p entries ends) same done in
    record { edge = here.edge; kept = here.kept; drawn = here.drawn; listed = here.listed; rests = by here.edge here.kept here.first here.second end.at_b }
  where
    by : (edge : ℕ) (kept : Ends) → AreRests x edge false kept.first → AreRests x edge true kept.second → (at_b : Bool) → AreRests x edge at_b (kept_at kept at_b)
    by edge kept first second false = first
    by edge kept first second true = second

-- ---- one more place
same_or : (m n : ℕ) → (m ≡ n) ⊎ (m ≡ n → ⊥)
same_or m n = grind arith

module _ (x : SightState) (p : Picked) (entries : List EdgeSpans) (ends : List Ends) (place edge : ℕ) (entry : EdgeSpans) (kept : Ends) (drawn : slice_get p.drawn.items place ≡ Some edge)
    (entries_long : length entries ≡ length p.drawn.items) (ends_long : length ends ≡ length p.drawn.items)
    (right : IsEntry x edge entry) (first : AreRests x edge false kept.first) (second : AreRests x edge true kept.second) where
  within : place < length p.drawn.items
  within = slice_get_within p.drawn.items place edge drawn

  pub done_here : IsDoneAt x p (set entries place entry) (set ends place kept) place
  done_here = record {
    edge = edge;
    entry = entry;
    kept = kept;
    drawn = drawn;
    entered = slice_get-set_same entries place entry (omega (arith, within, entries_long));
    listed = slice_get-set_same ends place kept (omega (arith, within, ends_long));
    right = right;
    first = first;
    second = second;
  }

  pub done_still : (other : ℕ) → IsDoneAt x p entries ends other → IsDoneAt x p (set entries place entry) (set ends place kept) other
  done_still other d =
      elim (same_or other place) [
        | inl same ↦ subst (IsDoneAt x p (set entries place entry) (set ends place kept)) (sym same) done_here
        | inr apart ↦ record {
          edge = d.edge;
          entry = d.entry;
          kept = d.kept;
          drawn = d.drawn;
          entered = slice_get-set_other entries place other entry d.entry apart d.entered;
          listed = slice_get-set_other ends place other kept d.kept apart d.listed;
          right = d.right;
          first = d.first;
          second = d.second;
        }
      ]

-- what is read past the end of a list of steps
abbrev pub no_step : Step
no_step = record { to = record { place = 0; at_b = false }; from = None }

pub step_at : (steps : List Step) (k : ℕ) → k < length steps → slice_get steps k ≡ Some (get_or steps k no_step)
step_at steps k before = slice_get-get_or steps k no_step before

pub same_steps : {x : SightState} {p : Picked} {steps given : List Step} → steps ≡ given → AreSteps x p given → AreSteps x p steps
same_steps {x} {p} e are = subst (AreSteps x p) (sym e) are

-- ---- a step
module _ {x : SightState} {p : Picked} {steps : List Step} (are : AreSteps x p steps) {k : ℕ} {now : SightState} {entries : List EdgeSpans} {ends : List Ends}
    (known : AreStepsSoFar x p steps k now entries ends) {bound : ℕ} (b : IsBound x.part x.halves p bound) where
  abbrev so_far : IsTested (costs_to x p steps are bound b k) x now
  so_far = known.tested b.ends b.are_ends

  pub tests_of : IsTested bound x now
  tests_of = (so_far.0, let all = within_bound x p steps are bound b k in let few = so_far.1 in omega arith, so_far.2)

  module _ {step : Step} (at : slice_get steps k ≡ Some step) where
    pub step_place : step.to.place < length p.drawn.items
    step_place = place_within x p steps are k step at

    pub step_ready : IsReady now p ends step.to step.from
    step_ready = by step.from (are.from k step at)
      where
        by : (from : Option DrawnEnd) → ComesFrom x p steps k step.to from → IsReady now p ends step.to from
        by None h = tt
        by (Some from) (before, corner) =
            let there = kept_of x p entries ends from before.step.to.place before.same (known.done before.at before.step before.before before.listed) in (
              subst (λ y. AreAtOneCorner y p from step.to) (sym so_far.2) corner,
              record { edge = there.edge; kept = there.kept; drawn = there.drawn; listed = there.listed; rests = rests_after x now so_far.0 so_far.2 there.edge from.at_b (kept_at there.kept from.at_b) there.rests },
            )

    -- the cost is that of the step
    cost_is : (edge ends' : ℕ) → slice_get p.drawn.items step.to.place ≡ Some edge → IsEndCount now.part now.halves edge ends'
        → cost_of (length now.part.triangles) (length p.outlines.items) ends' step.from ≡ step_cost (length x.part.triangles) (length p.outlines.items) b.ends step
    cost_is edge ends' drawn count =
        let counted : IsEndCount x.part x.halves edge ends' = subst (λ y. IsEndCount y.part y.halves edge ends') so_far.2 count in
        let same = end_one x.part x.halves edge ends' (get_or b.ends step.to.place 0) counted (zip_at (IsEndCount x.part x.halves) p.drawn.items b.ends b.are_ends step.to.place edge 0 drawn) in
        ap (λ (s : Part). cost_of (length s.triangles) (length p.outlines.items) ends' step.from) (same_part x now so_far.0 so_far.2)
        ∙ ap (λ (n : ℕ). cost_of (length x.part.triangles) (length p.outlines.items) n step.from) same

    pub step_room : x.tests + bound < 2 ^ 64 → (edge ends' : ℕ) → slice_get p.drawn.items step.to.place ≡ Some edge → IsEndCount now.part now.halves edge ends'
        → now.tests + cost_of (length now.part.triangles) (length p.outlines.items) ends' step.from < 2 ^ 64
    step_room room edge ends' drawn count =
        subst (λ y. y.tests + cost_of (length now.part.triangles) (length p.outlines.items) ends' step.from < 2 ^ 64) (sym so_far.2)
        (fits x.tests so_far.0 _ _ (step_cost (length x.part.triangles) (length p.outlines.items) b.ends step) _ bound so_far.1 (cost_is edge ends' drawn count)
        (cost_more (length x.part.triangles) (length p.outlines.items) b.ends steps k step at) (within_bound x p steps are bound b (k + 1)) room)
      where
        fits : (t n old cost c new bound : ℕ) → n ≤ old → cost ≡ c → new ≡ old + c → new ≤ bound → t + bound < 2 ^ 64 → (t + n) + cost < 2 ^ 64
        fits t n old cost c new bound p q r s u = omega arith

    module _ (edge : ℕ) (drawn : slice_get p.drawn.items step.to.place ≡ Some edge) (new : SightState)
        (walk : (ends' : ℕ) → IsEndCount now.part now.halves edge ends' → IsTested (cost_of (length now.part.triangles) (length p.outlines.items) ends' step.from) now new) where
      more_tested : (counts : List ℕ) → AllZip (IsEndCount x.part x.halves) p.drawn.items counts
          → IsTested (cost_so_far (length x.part.triangles) (length p.outlines.items) counts steps (k + 1)) x new
      more_tested counts zipped =
          let (n, few, is) = known.tested counts zipped in
          let c = get_or counts step.to.place 0 in
          let counted : IsEndCount now.part now.halves edge c = subst (λ y. IsEndCount y.part y.halves edge c) (sym is) (zip_at (IsEndCount x.part x.halves) p.drawn.items counts zipped step.to.place edge 0 drawn) in
          let (m, less, was) = walk c counted in (
            n + m,
            fits n m _ _ (step_cost (length x.part.triangles) (length p.outlines.items) counts step) _ few less
                (ap (λ (s : Part). cost_of (length s.triangles) (length p.outlines.items) c step.from) (same_part x now n is))
                (cost_more (length x.part.triangles) (length p.outlines.items) counts steps k step at),
            tests_after_tests x now new n m is was,
          )
        where
          fits : (n m old cost c new : ℕ) → n ≤ old → m ≤ cost → cost ≡ c → new ≡ old + c → n + m ≤ new
          fits n m old cost c new p q r s = omega arith

      pub walk_tested : IsTested bound x new
      walk_tested = let (n, few, is) = more_tested b.ends b.are_ends in (n, let all = within_bound x p steps are bound b (k + 1) in omega arith, is)

      module _ (walked : Walked) (found : IsWalked now edge walked) where
        abbrev entry : EdgeSpans
        entry = record { edge = edge; spans = walked.spans }

        abbrev kept : Ends
        kept = record { first = walked.first; second = walked.second }

        right : IsEntry x edge entry
        right = record { edge = refl; spans = subst (λ y. (e : Edge y.part) → IsNumbered y.halves edge e → AreCountSpans y.direction e walked.spans.items) so_far.2 found.spans }

        first : AreRests x edge false kept.first
        first = rests_before x now so_far.0 so_far.2 edge false walked.first found.first

        second : AreRests x edge true kept.second
        second = rests_before x now so_far.0 so_far.2 edge true walked.second found.second

        done_now : (j : ℕ) (s : Step) → j < k + 1 → slice_get steps j ≡ Some s → IsDoneAt x p (set entries step.to.place entry) (set ends step.to.place kept) s.to.place
        done_now j s before listed =
            elim (same_or j k) [
              | inl same ↦
                  subst (λ (t : Step). IsDoneAt x p (set entries step.to.place entry) (set ends step.to.place kept) t.to.place)
                  (same_Some step s (sym at ∙ ap (λ (i : ℕ). slice_get steps i) (sym same) ∙ listed))
                  (done_here x p entries ends step.to.place edge entry kept drawn known.entries_long known.ends_long right first second)
              | inr apart ↦
                  done_still x p entries ends step.to.place edge entry kept drawn known.entries_long known.ends_long right first second s.to.place (known.done j s (omega arith) listed)
            ]

        steps_more : AreStepsSoFar x p steps (k + 1) new (set entries step.to.place entry) (set ends step.to.place kept)
        steps_more = record {
          tested = more_tested;
          entries_long = length-set entries step.to.place entry ∙ known.entries_long;
          ends_long = length-set ends step.to.place kept ∙ known.ends_long;
          done = done_now;
        }

        pub steps_put : (new_entries : List EdgeSpans) (new_ends : List Ends) → new_entries ≡ set entries step.to.place (record { edge = edge; spans = walked.spans })
            → new_ends ≡ set ends step.to.place (record { first = walked.first; second = walked.second }) → AreStepsSoFar x p steps (k + 1) new new_entries new_ends
        steps_put new_entries new_ends entered listed =
            subst (λ (es : List EdgeSpans). AreStepsSoFar x p steps (k + 1) new es new_ends) (sym entered)
            (subst (λ (es : List Ends). AreStepsSoFar x p steps (k + 1) new (set entries step.to.place entry) es) (sym listed) steps_more)

  -- ---- all steps
  pub all_entries : length steps ≤ k → AllZip (IsEntry x) p.drawn.items entries
  all_entries all =
      zip_each (IsEntry x) p.drawn.items entries known.entries_long (λ i edge entry at entered.
      let (j, step, listed, same) = each_gone_to x p steps are i (slice_get_within p.drawn.items i edge at) in
      let within = slice_get_within steps j step listed in
      let d : IsDoneAt x p entries ends i = subst (IsDoneAt x p entries ends) same (known.done j step (omega arith) listed) in
      subst (IsEntry x edge) (same_Some d.entry entry (sym d.entered ∙ entered)) (subst (λ (n : ℕ). IsEntry x n d.entry) (same_Some d.edge edge (sym d.drawn ∙ at)) d.right))

-- for each number that is the bound
pub for_each_bound : (x : SightState) (p : Picked) (bound : ℕ) → IsBound x.part x.halves p bound → (new : SightState) → IsTested bound x new → (other : ℕ) → IsBound x.part x.halves p other → IsTested other x new
for_each_bound x p bound b new tested other c = subst (λ (n : ℕ). IsTested n x new) (bound_one x.part x.halves p bound other b c) tested

pub none_tested : (x : SightState) (most : ℕ) → IsTested most x x
none_tested x most = (0, omega arith, no_tests x)
