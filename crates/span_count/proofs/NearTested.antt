-- Triangles that are tested in rising order: different ones, with each that is near among them.
use Rattle.std.proofs.Common.{◌≡◌, ⊎_elim, ℕ, ◌+◌, ◌<◌, ◌≤◌, List, [], ◌∷◌, ◌++◌, All, AllPairs, Contains, length, sym, subst, ap, ◌∙◌, arith, length-append}
use Rattle.std.specs.Prelude.{◌≢◌}
use Rattle.std.proofs.lemmas.Bool.{cases_lt}
use Rattle.std.proofs.lemmas.List.Elements.{All-push, All-weaker, Contains-append_left, Contains-push}
use Rattle.std.proofs.lemmas.List.Quantifiers.{all_pairs_push}
use Rattle.cross_find.specs.Sights.{SightState, with_test}
use Rattle.span_count.specs.Tests.{with_tests, AreNearAmong}
use Rattle.span_count.proofs.Walks.{no_tests, more_tests}

-- so it is of the triangles below k
pub record AreNearBelow (near : ℕ → Type 0) (k : ℕ) (tested : List ℕ) : Type 0 where
  pub within : All (λ tri. tri < k) tested
  pub once : AllPairs ◌≢◌ tested
  pub all_near : (tri : ℕ) → tri < k → near tri → Contains tested tri

module _ (near : ℕ → Type 0) where
  pub near_none : AreNearBelow near 0 []
  near_none = record { within = λ i d h. absurd (omega (arith, h)); once = λ i j d l h. absurd (omega (arith, h)); all_near = λ tri h n. absurd (omega (arith, h)) }

  -- what is passed over is not near
  pub near_past : (k next : ℕ) (tested : List ℕ) → AreNearBelow near k tested → k ≤ next → ((tri : ℕ) → k ≤ tri → tri < next → ¬ near tri) → AreNearBelow near next tested
  near_past k next tested h up none = record {
    within = All-weaker (λ tri. tri < k) (λ tri. tri < next) (λ tri l. omega (arith, l, up)) tested h.within;
    once = h.once;
    all_near = λ tri l n. ⊎_elim (λ below. h.all_near tri below n) (λ from. absurd (none tri from l n)) (cases_lt tri k);
  }

  pub near_more : (k : ℕ) (tested : List ℕ) → AreNearBelow near k tested → AreNearBelow near (k + 1) (tested ++ k ∷ [])
  near_more k tested h = record {
    within = All-push (λ tri. tri < k + 1) tested k (All-weaker (λ tri. tri < k) (λ tri. tri < k + 1) (λ tri l. omega (arith, l)) tested h.within) (omega arith);
    once = all_pairs_push ◌≢◌ tested k h.once (λ i d l e. let less = h.within i d l in absurd (omega (arith, less, e)));
    all_near = λ tri l n. ⊎_elim (λ below. Contains-append_left tested (k ∷ []) tri (h.all_near tri below n))
        (λ from. let same : k ≡ tri = omega (arith, l, from) in subst (Contains (tested ++ k ∷ [])) same (Contains-push tested k)) (cases_lt tri k);
  }

  pub near_among : (k triangles n : ℕ) (tested : List ℕ) → AreNearBelow near k tested → k ≡ triangles → n ≡ length tested → AreNearAmong near triangles n
  near_among k triangles n tested h all is =
      let whole = subst (λ (m : ℕ). AreNearBelow near m tested) all h in
      record { tested = tested; within = whole.within; once = whole.once; all_near = whole.all_near; number = is }

  -- ---- by tests of a sight
  pub record AreNearSoFar (x : SightState) (k : ℕ) (now : SightState) : Type 0 where
    pub tested : List ℕ
    pub are : AreNearBelow near k tested
    pub made : now ≡ with_tests (length tested) x

  pub so_far_none : (x : SightState) → AreNearSoFar x 0 x
  so_far_none x = record { tested = []; are = near_none; made = no_tests x }

  pub so_far_past : (x : SightState) (k next : ℕ) (now : SightState) → AreNearSoFar x k now → k ≤ next → ((tri : ℕ) → k ≤ tri → tri < next → ¬ near tri) → AreNearSoFar x next now
  so_far_past x k next now h up none = record { tested = h.tested; are = near_past k next h.tested h.are up none; made = h.made }

  pub so_far_more : (x : SightState) (k : ℕ) (now new : SightState) → AreNearSoFar x k now → new ≡ with_test now → AreNearSoFar x (k + 1) new
  so_far_more x k now new h one = record {
    tested = h.tested ++ k ∷ [];
    are = near_more k h.tested h.are;
    made = one ∙ more_tests x now (length h.tested) h.made ∙ ap (λ (n : ℕ). with_tests n x) (sym (length-append h.tested (k ∷ [])));
  }
