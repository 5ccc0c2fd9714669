-- Tests that are made one after another: what they found so far, and how many they are.
use Rattle.std.proofs.Common.{◌≡◌, ℕ, zero, suc, ◌+◌, ◌-◌, ◌*◌, ◌<◌, ◌≤◌, ◌^◌, ◌⊎◌, inl, inr, List, [], ◌∷◌, ◌++◌, length, take, Option, Some, slice_get, refl, sym, subst, ap, ◌∙◌, arith, length-append, add-zero, add_assoc}
use Rattle.std.specs.List.{filter_map}
use Rattle.std.proofs.lemmas.List.Sums.{sum_by_push}
use Rattle.std.proofs.lemmas.Option.{slice_get_within}
use Rattle.lattice.specs.Triple.{Triple}
use Rattle.geometry.specs.Parts.{Part, Face, Edge, IsNumbered}
use Rattle.geometry.specs.Views.{IsEndOn, IsOutline}
use Rattle.geometry.specs.Counts.{Side, to_left, to_right}
use Rattle.geometry.specs.Covers.{IsCountedNext, IsOneWhere}
use Rattle.std.specs.Prelude.{ℤ, pos, false, sum}
use Rattle.cross_find.specs.declared.meter.Crossing.{Crossing}
use Rattle.cross_find.specs.Sights.{SightState, with_test}
use Rattle.cross_find.specs.Crossings.{IsAcross}
use Rattle.span_count.specs.inner.Rests.{IsCountNext, AreCountsNext}
use Rattle.span_count.specs.inner.Steps.{IsSeenEdge, AreListed, IsAnswer, AreCrossings}
use Rattle.span_count.specs.declared.step.Sides.{Sides}
use Rattle.span_count.specs.Tests.{with_tests, IsTested}
use Rattle.integers.proofs.Lists.{slice_get_push}
use Rattle.span_count.proofs.Lists.{front_get, all_zip_push}

-- ---- how many tests were made
pub no_tests : (x : SightState) → x ≡ with_tests 0 x
no_tests x = ap (λ n. record x { tests = n }) (sym (add-zero x.tests))

pub more_tests : (x now : SightState) (n : ℕ) → now ≡ with_tests n x → with_test now ≡ with_tests (n + 1) x
more_tests x now n e = ap with_test e ∙ ap (λ k. record x { tests = k }) (add_assoc x.tests n 1)

pub tests_after_tests : (x now new : SightState) (m n : ℕ) → now ≡ with_tests m x → new ≡ with_tests n now → new ≡ with_tests (m + n) x
tests_after_tests x now new m n e f = f ∙ ap (with_tests n) e ∙ ap (λ k. record x { tests = k }) (add_assoc x.tests m n)

-- what one more test needs
module _ (x now : SightState) (n : ℕ) (e : now ≡ with_tests n x) where
  pub still_edge : (edge : ℕ) → edge < length x.halves → edge < length now.halves
  still_edge edge h = subst (λ y. edge < length y.halves) (sym e) h

  pub still_tri : (tri : ℕ) → tri < length x.part.triangles → tri < length now.part.triangles
  still_tri tri h = subst (λ y. tri < length y.part.triangles) (sym e) h

  pub still_seen : (edge : ℕ) → ((e : Edge x.part) → IsNumbered x.halves edge e → ¬ IsEndOn x.direction e) → (e : Edge now.part) → IsNumbered now.halves edge e → ¬ IsEndOn now.direction e
  still_seen edge h = subst (λ y. (e : Edge y.part) → IsNumbered y.halves edge e → ¬ IsEndOn y.direction e) (sym e) h

  pub still_outline : (o : ℕ) → ((e : Edge x.part) → IsNumbered x.halves o e → IsOutline x.direction e) → (e : Edge now.part) → IsNumbered now.halves o e → IsOutline now.direction e
  still_outline o h = subst (λ y. (e : Edge y.part) → IsNumbered y.halves o e → IsOutline y.direction e) (sym e) h

  pub still_room : (most : ℕ) → n < most → x.tests + most < 2 ^ 64 → now.tests + 1 < 2 ^ 64
  still_room most less room = subst (λ y. y.tests + 1 < 2 ^ 64) (sym e) (fits x.tests n most less room)
    where
      fits : (t n most : ℕ) → n < most → t + most < 2 ^ 64 → (t + n) + 1 < 2 ^ 64
      fits t n most less room = omega arith

-- ---- the faces that are counted first
-- what the test of a triangle at the edge's first end says
abbrev pub CoverSays : Side → SightState → ℕ → ℕ → ℕ → Type 0
CoverSays k x edge tri c = (e : Edge x.part) (f : Face x.part) → IsNumbered x.halves edge e → f.number ≡ tri → IsOneWhere (IsCountedNext k x.direction e false f) c

-- the total is the sum of 1 for each of the first n faces that is counted next to the edge's first end
pub record AreCountedFirst (k : Side) (d : Triple) {s : Part} (e : Edge s) (n total : ℕ) : Type 0 where
  pub covers : List ℕ
  pub long : length covers ≡ n
  pub each : (i c : ℕ) → slice_get covers i ≡ Some c → (f : Face s) → f.number ≡ i → IsOneWhere (IsCountedNext k d e false f) c
  pub all : total ≡ sum covers

abbrev pub AreFirst : Side → SightState → ℕ → ℕ → ℕ → Type 0
AreFirst k x edge n total = (e : Edge x.part) → IsNumbered x.halves edge e → AreCountedFirst k x.direction e n total

pub record AreFirstSoFar (x : SightState) (edge n : ℕ) (now : SightState) (left right : ℕ) : Type 0 where
  pub tested : IsTested n x now
  pub on_left : AreFirst to_left x edge n left
  pub on_right : AreFirst to_right x edge n right
  pub left_small : left ≤ 255 * n
  pub right_small : right ≤ 255 * n

counted_none : (k : Side) (x : SightState) (edge : ℕ) → AreFirst k x edge 0 0
counted_none k x edge e at = record { covers = []; long = refl; each = λ i c h. absurd (cc); all = refl }

counted_more : (k : Side) (x : SightState) (edge n total c : ℕ) → AreFirst k x edge n total → CoverSays k x edge n c → AreFirst k x edge (n + 1) (total + c)
counted_more k x edge n total c known says e at = record {
  covers = old.covers ++ c ∷ [];
  long = length-append old.covers (c ∷ []) ∙ ap (λ m. m + 1) old.long;
  each = λ i d h. one i d (slice_get_push old.covers c i d h);
  all = ap (λ m. m + c) old.all ∙ sym (sum_by_push (λ m. m) old.covers c);
}
  where
    old : AreCountedFirst k x.direction e n total
    old = known e at

    one : (i d : ℕ) → (slice_get old.covers i ≡ Some d) ⊎ ((i ≡ length old.covers) × (c ≡ d)) → (f : Face x.part) → f.number ≡ i → IsOneWhere (IsCountedNext k x.direction e false f) d
    one i d (inl h) f is = old.each i d h f is
    one i d (inr h) f is = subst (IsOneWhere (IsCountedNext k x.direction e false f)) h.1 (says e f at (is ∙ h.0 ∙ old.long))

pub first_none : (x : SightState) (edge : ℕ) → AreFirstSoFar x edge 0 x 0 0
first_none x edge = record { tested = (0, omega arith, no_tests x); on_left = counted_none to_left x edge; on_right = counted_none to_right x edge; left_small = omega arith; right_small = omega arith }

pub first_more : (x : SightState) (edge n : ℕ) (now : SightState) (left right : ℕ) → AreFirstSoFar x edge n now left right → (new : SightState) → new ≡ with_test now → (c d : ℕ) → c < 256 → d < 256
    → CoverSays to_left now edge n c → CoverSays to_right now edge n d → AreFirstSoFar x edge (n + 1) new (left + c) (right + d)
first_more x edge n now left right h new e c d c_small d_small says_left says_right = record {
  tested = (h.tested.0 + 1, (let few = h.tested.1 in omega arith), e ∙ more_tests x now h.tested.0 h.tested.2);
  on_left = counted_more to_left x edge n left c h.on_left (subst (λ y. CoverSays to_left y edge n c) h.tested.2 says_left);
  on_right = counted_more to_right x edge n right d h.on_right (subst (λ y. CoverSays to_right y edge n d) h.tested.2 says_right);
  left_small = small left c n h.left_small c_small;
  right_small = small right d n h.right_small d_small;
}
  where
    small : (t c n : ℕ) → t ≤ 255 * n → c < 256 → t + c ≤ 255 * (n + 1)
    small t c n h l = omega arith

-- those that are passed over are not counted
counted_past : (k : Side) (x : SightState) (edge n total gap : ℕ) → AreFirst k x edge n total
    → ((i : ℕ) → n ≤ i → i < n + gap → (e : Edge x.part) (f : Face x.part) → IsNumbered x.halves edge e → f.number ≡ i → ¬ IsCountedNext k x.direction e false f) → AreFirst k x edge (n + gap) total
counted_past k x edge n total zero known none = subst (λ m. AreFirst k x edge m total) (sym (add-zero n)) known
counted_past k x edge n total (suc gap) known none =
    subst (λ m. AreFirst k x edge m total) (add_assoc n gap 1 ∙ ap (λ m. n + m) (one_more gap))
    (subst (λ t. AreFirst k x edge ((n + gap) + 1) t) (add-zero total)
    (counted_more k x edge (n + gap) total 0 (counted_past k x edge n total gap known (λ i l m. none i l (omega arith))) (λ e f at is. inr (refl, none (n + gap) (omega arith) (omega arith) e f at is))))
  where
    one_more : (g : ℕ) → g + 1 ≡ suc g
    one_more g = omega arith

pub first_past : (x : SightState) (edge n m : ℕ) (now : SightState) (left right : ℕ) → AreFirstSoFar x edge n now left right → n ≤ m
    → ((i : ℕ) → n ≤ i → i < m → (k : Side) (e : Edge x.part) (f : Face x.part) → IsNumbered x.halves edge e → f.number ≡ i → ¬ IsCountedNext k x.direction e false f) → AreFirstSoFar x edge m now left right
first_past x edge n m now left right h up none =
    subst (λ l. AreFirstSoFar x edge l now left right) (up_to n m up)
    (record {
      tested = (h.tested.0, (let few = h.tested.1 in omega arith), h.tested.2);
      on_left = counted_past to_left x edge n left (m - n) h.on_left (λ i l b. none i l (below n m i up b) to_left);
      on_right = counted_past to_right x edge n right (m - n) h.on_right (λ i l b. none i l (below n m i up b) to_right);
      left_small = small left n (m - n) h.left_small;
      right_small = small right n (m - n) h.right_small;
    })
  where
    up_to : (n m : ℕ) → n ≤ m → n + (m - n) ≡ m
    up_to n m h = omega arith

    below : (n m i : ℕ) → n ≤ m → i < n + (m - n) → i < m
    below n m i h l = omega arith

    small : (t n gap : ℕ) → t ≤ 255 * n → t ≤ 255 * (n + gap)
    small t n gap h = omega arith

-- all of them
pub first_all : (x : SightState) (edge n : ℕ) (now : SightState) (left right : ℕ) → AreFirstSoFar x edge n now left right → n ≡ length x.part.triangles → (c : Sides) → c.left ≡ pos left → c.right ≡ pos right → AreCountsNext x edge false c
first_all x edge n now left right h all c l r = record { on_left = λ e at. whole to_left e left c.left (h.on_left e at) l; on_right = λ e at. whole to_right e right c.right (h.on_right e at) r }
  where
    whole : (k : Side) (e : Edge x.part) (m : ℕ) (z : ℤ) → AreCountedFirst k x.direction e n m → z ≡ pos m → IsCountNext k x.direction e false z
    whole k e m z g is = record { count = m; counted = record { covers = g.covers; next = record { long = g.long ∙ all; each = g.each }; all = g.all }; all = is }

-- ---- the crossings that are found
-- what the test of an outline says
abbrev pub CrossSays : SightState → ℕ → ℕ → Option Crossing → Type 0
CrossSays x edge i answer = (e o : Edge x.part) → IsNumbered x.halves edge e → IsNumbered x.halves i o → IsAcross x.direction e o answer

abbrev pub AreFound : SightState → ℕ → List ℕ → List Crossing → Type 0
AreFound x edge outlines crossings = (e : Edge x.part) → IsNumbered x.halves edge e → AreCrossings x e outlines crossings

pub record AreFoundSoFar (x : SightState) (edge : ℕ) (outlines : List ℕ) (i : ℕ) (now : SightState) (crossings : List Crossing) (count : ℕ) : Type 0 where
  pub tested : now ≡ with_tests i x
  pub within : i ≤ length outlines
  pub found : AreFound x edge (take i outlines) crossings
  pub few : count ≤ i

pub found_none : (x : SightState) (edge : ℕ) (outlines : List ℕ) (crossings : List Crossing) (count : ℕ) → crossings ≡ [] → count ≡ 0 → AreFoundSoFar x edge outlines 0 x crossings count
found_none x edge outlines crossings count empty none = record {
  tested = no_tests x;
  within = omega arith;
  found = λ e at. record { answers = []; each = tt; all = empty };
  few = omega arith;
}

module _ (x : SightState) (edge : ℕ) (outlines : List ℕ) (i : ℕ) (now : SightState) (crossings : List Crossing) (count : ℕ) (known : AreFoundSoFar x edge outlines i now crossings count)
    (o : ℕ) (at : slice_get outlines i ≡ Some o) (new : SightState) (one : new ≡ with_test now) (answer : Option Crossing) (says : CrossSays now edge o answer) where
  pub found_more : (longer : List Crossing) (more : ℕ) → more ≤ count + 1
      → ((answers : List (Option Crossing)) → crossings ≡ filter_map (λ (a : Option Crossing). a) answers → longer ≡ filter_map (λ (a : Option Crossing). a) (answers ++ answer ∷ []))
      → AreFoundSoFar x edge outlines (i + 1) new longer more
  found_more longer more most grown = record {
    tested = one ∙ more_tests x now i known.tested;
    within = let h = slice_get_within outlines i o at in omega arith;
    found = λ e here. subst (λ (os : List ℕ). AreCrossings x e os longer) (front_get outlines i o at) (pushed e here);
    few = let h = known.few in omega arith;
  }
    where
      said : CrossSays x edge o answer
      said = subst (λ y. CrossSays y edge o answer) known.tested says

      pushed : (e : Edge x.part) → IsNumbered x.halves edge e → AreCrossings x e (take i outlines ++ o ∷ []) longer
      pushed e here = record {
        answers = (known.found e here).answers ++ answer ∷ [];
        each = all_zip_push (IsAnswer x e) (take i outlines) (known.found e here).answers o answer (known.found e here).each (λ out there. said e out here there);
        all = grown (known.found e here).answers (known.found e here).all;
      }

-- ---- one walk after another
pub tested_both : (x now new : SightState) (m most : ℕ) → now ≡ with_tests m x → IsTested most now new → IsTested (m + most) x new
tested_both x now new m most e (n, within, f) = (m + n, let h = within in omega arith, tests_after_tests x now new m n e f)

module _ (x now : SightState) (n : ℕ) (e : now ≡ with_tests n x) (edge : ℕ) (outlines : List ℕ) where
  pub edge_after : IsSeenEdge x edge → IsSeenEdge now edge
  edge_after h = subst (λ y. IsSeenEdge y edge) (sym e) (record { in_range = h.in_range; seen = h.seen })

  pub listed_after : AreListed x edge outlines → AreListed now edge outlines
  listed_after h = subst (λ y. AreListed y edge outlines) (sym e) (record { few = h.few; outline = h.outline; once = h.once; changing = h.changing })
