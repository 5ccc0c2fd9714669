-- The tests of a step, and of all steps so far.
use Rattle.std.proofs.Common.{◌≡◌, ℕ, ◌+◌, ◌<◌, ◌≤◌, false, true, List, [], ◌∷◌, ◌++◌, length, take, refl, sym, subst, ap, ◌∙◌}
use Rattle.std.specs.Prelude.{Option, None, Some, slice_get, sum}
use Rattle.std.specs.List.{AllZip}
use Rattle.std.proofs.lemmas.List.{take_all}
use Rattle.std.proofs.lemmas.List.Sums.{sum_by_push}
use Rattle.geometry.specs.Parts.{Edge, IsNumbered}
use Rattle.geometry.specs.Turns.{number_at}
use Rattle.edge_pick.specs.declared.Picked.{Picked}
use Rattle.edge_pick.specs.declared.order.DrawnEnd.{DrawnEnd}
use Rattle.edge_pick.specs.declared.order.Step.{Step}
use Rattle.cross_find.specs.Sights.{SightState, IsSeen}
use Rattle.span_count.specs.Bounds.{IsEndCount}
use Rattle.span_count.specs.Orders.{AreSteps}
use Rattle.span_count.specs.Tests.{with_tests, AreNearAmong, AreCornerTests, AreStepTests, AreAllTested}
use Rattle.span_count.proofs.Lists.{front_get, all_zip_push}
use Rattle.span_count.proofs.Stars.{corner_count, end_count}
use Rattle.span_count.proofs.Walks.{no_tests, tests_after_tests}

-- there are so many triangles at its two ends
pub some_ends : (x : SightState) (edge : ℕ) → IsSeen x → edge < length x.halves → (ends : ℕ) × IsEndCount x.part x.halves edge ends
some_ends x edge seen within =
    let (m, here) = corner_count x edge seen within false in
    let (n, far) = corner_count x edge seen within true in
    (m + n, end_count x edge false m n here far)

-- ---- the tests of one step
module _ (x : SightState) (p : Picked) (along over : ℕ → List ℕ) (near : ℕ → ℕ → Type 0) (step : Step) where
  module _ (edge : ℕ) (drawn : slice_get p.drawn.items step.to.place ≡ Some edge) (e : Edge x.part) (numbered : IsNumbered x.halves edge e) (ends : ℕ) (at_ends : IsEndCount x.part x.halves edge ends) where
    step_tests : (before : ℕ) → AreCornerTests over near e step.to step.from before → AreStepTests x p along over near step (before + (length (along edge) + ends))
    step_tests before at_corner = record { edge = edge; drawn = drawn; e = e; numbered = numbered; before = before; at_corner = at_corner; ends = ends; at_ends = at_ends; number = refl }

    pub first_tests : step.from ≡ None → (triangles : ℕ) → triangles ≡ length x.part.triangles → (before : ℕ) → AreNearAmong (near (number_at e false)) triangles before
        → AreStepTests x p along over near step (before + (length (along edge) + ends))
    first_tests none triangles same before are =
        step_tests before (subst (λ (from : Option DrawnEnd). AreCornerTests over near e step.to from before) (sym none) (subst (λ (n : ℕ). AreNearAmong (near (number_at e false)) n before) same are))

    pub next_tests : (from : DrawnEnd) → step.from ≡ Some from → AreStepTests x p along over near step (length (over (number_at e step.to.at_b)) + (length (along edge) + ends))
    next_tests from some =
        step_tests (length (over (number_at e step.to.at_b))) (subst (λ (o : Option DrawnEnd). AreCornerTests over near e step.to o (length (over (number_at e step.to.at_b)))) (sym some) refl)

  -- they are those of the same view, before other tests were made
  tests_before : (now : SightState) (m n : ℕ) → now ≡ with_tests m x → AreStepTests now p along over near step n → AreStepTests x p along over near step n
  tests_before now m n e h =
      let back : AreStepTests (with_tests m x) p along over near step n = subst (λ y. AreStepTests y p along over near step n) e h in
      record { edge = back.edge; drawn = back.drawn; e = back.e; numbered = back.numbered; before = back.before; at_corner = back.at_corner; ends = back.ends; at_ends = back.at_ends; number = back.number }

-- ---- the tests of the steps so far
module _ (x : SightState) (p : Picked) (along over : ℕ → List ℕ) (near : ℕ → ℕ → Type 0) (steps : List Step) where
  pub record AreTestsSoFar (k : ℕ) (now : SightState) : Type 0 where
    pub counts : List ℕ
    pub each : AllZip (AreStepTests x p along over near) (take k steps) counts
    pub all : now ≡ with_tests (sum counts) x

  pub tests_none : AreTestsSoFar 0 x
  tests_none = record { counts = []; each = tt; all = no_tests x }

  pub tests_more : (k : ℕ) (now new : SightState) → AreTestsSoFar k now → (step : Step) → slice_get steps k ≡ Some step → (n : ℕ) × AreStepTests now p along over near step n × (new ≡ with_tests n now)
      → AreTestsSoFar (k + 1) new
  tests_more k now new h step at (n, tests, made) = record {
    counts = h.counts ++ n ∷ [];
    each = subst (λ (ss : List Step). AllZip (AreStepTests x p along over near) ss (h.counts ++ n ∷ [])) (front_get steps k step at)
        (all_zip_push (AreStepTests x p along over near) (take k steps) h.counts step n h.each (tests_before x p along over near step now (sum h.counts) n h.all tests));
    all = tests_after_tests x now new (sum h.counts) n h.all made ∙ ap (λ (m : ℕ). with_tests m x) (sym (sum_by_push (λ (m : ℕ). m) h.counts n));
  }

  pub all_of_steps : (k : ℕ) (now : SightState) → AreTestsSoFar k now → length steps ≤ k → AreSteps x p steps → AreAllTested p along over near x now
  all_of_steps k now h past are = record {
    steps = steps;
    are_steps = are;
    counts = h.counts;
    each = subst (λ (ss : List Step). AllZip (AreStepTests x p along over near) ss h.counts) (take_all k steps past) h.each;
    all = h.all;
  }
