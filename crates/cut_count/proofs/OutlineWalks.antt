-- Outlines that are tested one after another along an edge: what they add so far, and how many tests that is.
use Rattle.std.proofs.Common.{◌≡◌, ℕ, ◌+◌, ◌≤◌, List, [], ◌∷◌, ◌++◌, length, take, Option, Some, None, slice_get, refl, sym, subst, ap, ◌∙◌, arith, append-nil, append_assoc}
use Rattle.std.specs.List.{filter_map}
use Rattle.std.proofs.lemmas.Option.{slice_get_within}
use Rattle.lattice.specs.Cuts.{Plane}
use Rattle.geometry.specs.Parts.{Part, Edge, IsNumbered}
use Rattle.cross_find.specs.declared.meter.Crossing.{Crossing}
use Rattle.span_count.proofs.Lists.{front_get, all_zip_push}
use Rattle.span_count.proofs.Sums.{some_push, none_push}
use Rattle.cut_count.specs.Crossings.{IsCutAcross}
use Rattle.cut_count.specs.inner.Walks.{IsOutlineAnswer, AreOutlineCrossings}

-- these crossings behind those that were there
pub record AreAdded (c : Plane) {s : Part} (e : Edge s) (halves outlines : List ℕ) (old crossings : List Crossing) : Type 0 where
  pub here : List Crossing
  pub all : crossings ≡ old ++ here
  pub right : AreOutlineCrossings c e halves outlines here

pub record AreAddedSoFar (c : Plane) (s : Part) (halves : List ℕ) (edge : ℕ) (outlines : List ℕ) (old : List Crossing) (count tests i now : ℕ) (crossings : List Crossing) (long : ℕ) : Type 0 where
  pub tested : now ≡ tests + i
  pub within : i ≤ length outlines
  pub added : (e : Edge s) → IsNumbered halves edge e → AreAdded c e halves (take i outlines) old crossings
  pub few : long ≤ count + i

module _ (c : Plane) (s : Part) (halves : List ℕ) (edge : ℕ) (outlines : List ℕ) (old : List Crossing) (count tests : ℕ) where
  pub added_none : AreAddedSoFar c s halves edge outlines old count tests 0 tests old count
  added_none = record {
    tested = omega arith;
    within = omega arith;
    added = λ e at. record { here = []; all = sym (append-nil old); right = record { answers = []; each = tt; all = refl } };
    few = omega arith;
  }

  -- what the test of an outline says
  abbrev pub CrossSays : ℕ → Option Crossing → Type 0
  CrossSays i answer = (e o : Edge s) → IsNumbered halves edge e → IsNumbered halves i o → IsCutAcross c e o answer

  module _ (i now : ℕ) (crossings : List Crossing) (long : ℕ) (known : AreAddedSoFar c s halves edge outlines old count tests i now crossings long) (o : ℕ) (at : slice_get outlines i ≡ Some o)
      (new : ℕ) (one : new ≡ now + 1) where
    more : (answer : Option Crossing) → CrossSays o answer → (longer : List Crossing) (long' : ℕ) → long' ≤ long + 1
        → ((here : List Crossing) (answers : List (Option Crossing)) → crossings ≡ old ++ here → here ≡ filter_map (λ (a : Option Crossing). a) answers
        → (here' : List Crossing) × (longer ≡ old ++ here') × (here' ≡ filter_map (λ (a : Option Crossing). a) (answers ++ answer ∷ [])))
        → AreAddedSoFar c s halves edge outlines old count tests (i + 1) new longer long'
    more answer says longer long' most grown = record {
      tested = let h = known.tested in omega arith;
      within = let h = slice_get_within outlines i o at in omega arith;
      added = λ e here. subst (λ os. AreAdded c e halves os old longer) (front_get outlines i o at) (pushed e here (known.added e here));
      few = let h = known.few in omega arith;
    }
      where
        pushed : (e : Edge s) → IsNumbered halves edge e → AreAdded c e halves (take i outlines) old crossings → AreAdded c e halves (take i outlines ++ o ∷ []) old longer
        pushed e here a =
            let (here', all, right) = grown a.here a.right.answers a.all a.right.all in
            record {
              here = here';
              all = all;
              right = record {
                answers = a.right.answers ++ answer ∷ [];
                each = all_zip_push (IsOutlineAnswer c e halves) (take i outlines) a.right.answers o answer a.right.each (λ out there. says e out here there);
                all = right;
              };
            }

    pub added_some : (x : Crossing) → CrossSays o (Some x) → (longer : List Crossing) (long' : ℕ) → longer ≡ crossings ++ x ∷ [] → long' ≤ long + 1
        → AreAddedSoFar c s halves edge outlines old count tests (i + 1) new longer long'
    added_some x says longer long' pushed most =
        more (Some x) says longer long' most (λ here answers all right. (here ++ x ∷ [], pushed ∙ ap (λ ys. ys ++ x ∷ []) all ∙ append_assoc old here (x ∷ []), some_push answers here x right))

    pub added_nothing : CrossSays o None → AreAddedSoFar c s halves edge outlines old count tests (i + 1) new crossings long
    added_nothing says = more None says crossings long (omega arith) (λ here answers all right. (here, all, none_push answers here right))
