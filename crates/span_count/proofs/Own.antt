-- What is found so far at a corner: the triangles that have it, next to an end, and the outlines over it.
use Rattle.std.proofs.Common.{◌≡◌, ℕ, ◌+◌, ◌*◌, ◌<◌, ◌≤◌, ◌^◌, Bool, List, [], ◌∷◌, ◌++◌, length, take, Some, slice_get, refl, sym, subst, ap, ◌∙◌, arith, FitsSigned, w8, w64}
use Rattle.std.specs.Prelude.{ℤ, pos, ◌+ℤ◌, ◌≤ℤ◌, neg_ℤ, sum}
use Rattle.std.proofs.lemmas.Int.{ints}
use Rattle.std.proofs.lemmas.List.{take_all}
use Rattle.std.proofs.lemmas.List.Sums.{sum_by_push}
use Rattle.std.proofs.lemmas.Option.{slice_get_within}
use Rattle.geometry.specs.Parts.{Face, Edge, IsNumbered}
use Rattle.geometry.specs.Counts.{Side, to_left, to_right}
use Rattle.geometry.specs.inner.CountsNext.{AreCoversOf}
use Rattle.geometry.specs.Covers.{IsCountedNext, IsOneWhere}
use Rattle.geometry.specs.Turns.{number_at, HasTurnedAt}
use Rattle.solid_mesh.specs.Solids.{AreTrianglesAt}
use Rattle.hiding_laws.specs.Sums.{total}
use Rattle.cross_find.specs.declared.meter.End.{End}
use Rattle.cross_find.specs.Sights.{SightState, with_test}
use Rattle.span_count.specs.declared.step.Sides.{Sides}
use Rattle.span_count.specs.Carries.{IsSmall}
use Rattle.span_count.specs.inner.Rests.{IsOwnCount, AreOwnCounts, IsTurnOver, AreTurnsOver}
use Rattle.span_count.specs.Tests.{with_tests}
use Rattle.span_count.proofs.Lists.{front_get, all_zip_push}
use Rattle.span_count.proofs.Stars.{one_star}
use Rattle.span_count.proofs.Sums.{total_push}
use Rattle.span_count.proofs.Walks.{no_tests, more_tests}

-- ---- the triangles that have the corner
-- what the test of a triangle next to an end says
abbrev pub NextSays : Side → SightState → ℕ → Bool → ℕ → ℕ → Type 0
NextSays k x edge at_b tri c = (e : Edge x.part) (f : Face x.part) → IsNumbered x.halves edge e → f.number ≡ tri → IsOneWhere (IsCountedNext k x.direction e at_b f) c

-- the total is the sum of 1 for each of these triangles that is counted next to the end
abbrev pub AreNext : Side → SightState → ℕ → Bool → List ℕ → ℕ → Type 0
AreNext k x edge at_b numbers total = (e : Edge x.part) → IsNumbered x.halves edge e → (covers : List ℕ) × AreCoversOf k x.direction e at_b numbers covers × (total ≡ sum covers)

pub record AreOwnSoFar (x : SightState) (edge : ℕ) (at_b : Bool) (corner i : ℕ) (now : SightState) (left right : ℕ) : Type 0 where
  pub tested : now ≡ with_tests i x
  pub on_left : (star : List ℕ) → AreTrianglesAt x.part corner star → AreNext to_left x edge at_b (take i star) left
  pub on_right : (star : List ℕ) → AreTrianglesAt x.part corner star → AreNext to_right x edge at_b (take i star) right
  pub left_small : left ≤ 255 * i
  pub right_small : right ≤ 255 * i

pub own_none : (x : SightState) (edge : ℕ) (at_b : Bool) (corner : ℕ) → AreOwnSoFar x edge at_b corner 0 x 0 0
own_none x edge at_b corner = record {
  tested = no_tests x;
  on_left = λ star there e at. ([], tt, refl);
  on_right = λ star there e at. ([], tt, refl);
  left_small = omega arith;
  right_small = omega arith;
}

next_more : (k : Side) (x : SightState) (edge : ℕ) (at_b : Bool) (numbers : List ℕ) (total tri c : ℕ) → AreNext k x edge at_b numbers total → NextSays k x edge at_b tri c → AreNext k x edge at_b (numbers ++ tri ∷ []) (total + c)
next_more k x edge at_b numbers total tri c known says e at =
    let (covers, are, all) = known e at in (
      covers ++ c ∷ [],
      all_zip_push (λ (i : ℕ) (d : ℕ). (f : Face x.part) → f.number ≡ i → IsOneWhere (IsCountedNext k x.direction e at_b f) d) numbers covers tri c are (λ f is. says e f at is),
      ap (λ (m : ℕ). m + c) all ∙ sym (sum_by_push (λ (m : ℕ). m) covers c),
    )

module _ (x : SightState) (edge : ℕ) (at_b : Bool) (corner i : ℕ) (now : SightState) (left right : ℕ) (known : AreOwnSoFar x edge at_b corner i now left right) where
  -- the list that is asked for anew is the same
  pub star_still : (star given : List ℕ) → AreTrianglesAt x.part corner star → AreTrianglesAt now.part corner given → given ≡ star
  star_still star given there h = one_star x.part corner given star (subst (λ y. AreTrianglesAt y.part corner given) known.tested h) there

  pub own_more : (given : List ℕ) → AreTrianglesAt now.part corner given → (tri : ℕ) → slice_get given i ≡ Some tri → (new : SightState) → new ≡ with_test now → (c d : ℕ) → c < 256 → d < 256
      → NextSays to_left now edge at_b tri c → NextSays to_right now edge at_b tri d → AreOwnSoFar x edge at_b corner (i + 1) new (left + c) (right + d)
  own_more given there tri at new one c d c_small d_small says_left says_right = record {
    tested = one ∙ more_tests x now i known.tested;
    on_left = λ star h. subst (λ (xs : List ℕ). AreNext to_left x edge at_b xs (left + c)) (front star h)
        (next_more to_left x edge at_b (take i star) left tri c (known.on_left star h) (subst (λ y. NextSays to_left y edge at_b tri c) known.tested says_left));
    on_right = λ star h. subst (λ (xs : List ℕ). AreNext to_right x edge at_b xs (right + d)) (front star h)
        (next_more to_right x edge at_b (take i star) right tri d (known.on_right star h) (subst (λ y. NextSays to_right y edge at_b tri d) known.tested says_right));
    left_small = small left c i known.left_small c_small;
    right_small = small right d i known.right_small d_small;
  }
    where
      front : (star : List ℕ) → AreTrianglesAt x.part corner star → take i star ++ tri ∷ [] ≡ take (i + 1) star
      front star h = front_get star i tri (subst (λ (xs : List ℕ). slice_get xs i ≡ Some tri) (star_still star given h there) at)

      small : (t c n : ℕ) → t ≤ 255 * n → c < 256 → t + c ≤ 255 * (n + 1)
      small t c n h l = omega arith

  -- all of them
  pub own_all : (star : List ℕ) → AreTrianglesAt x.part corner star → length star ≤ i → ((e : Edge x.part) → IsNumbered x.halves edge e → corner ≡ number_at e at_b)
      → (c : Sides) → c.left ≡ pos left → c.right ≡ pos right → AreOwnCounts x edge at_b c
  own_all star there all is c l r = record { on_left = λ e at. whole to_left e at left c.left (known.on_left star there) l; on_right = λ e at. whole to_right e at right c.right (known.on_right star there) r }
    where
      whole : (k : Side) (e : Edge x.part) → IsNumbered x.halves edge e → (m : ℕ) (z : ℤ) → AreNext k x edge at_b (take i star) m → z ≡ pos m → IsOwnCount k x.direction e at_b z
      whole k e at m z h eq = record {
        own = m;
        of_corner = record {
          star = star;
          covers = (h e at).0;
          at_corner = subst (λ (n : ℕ). AreTrianglesAt x.part n star) (is e at) there;
          next = subst (λ (xs : List ℕ). AreCoversOf k x.direction e at_b xs (h e at).0) (take_all i star all) (h e at).1;
          all = (h e at).2;
        };
        all = eq;
      }

-- so far few are counted
pub few_own : (i n t : ℕ) → i ≤ 255 * n → n ≤ t → t ≤ 20000 → i ≤ 5100000
few_own i n t p q r = omega arith

pub own_small : (z : ℤ) (n : ℕ) → z ≡ pos n → n ≤ 5100000 → IsSmall z
own_small z n is few = (omega (arith, ints), omega (arith, ints))

-- ---- the outlines over the corner
-- what the test of an outline says
abbrev pub TurnSays : Side → SightState → End → End → ℕ → ℤ → Type 0
TurnSays k x from to i z = (e f o : Edge x.part) → IsNumbered x.halves from.edge e → IsNumbered x.halves to.edge f → IsNumbered x.halves i o → HasTurnedAt k x.direction e from.at_b f to.at_b o z

abbrev pub AreTurned : Side → SightState → End → End → List ℕ → ℤ → Type 0
AreTurned k x from to outlines z = (e f : Edge x.part) → IsNumbered x.halves from.edge e → IsNumbered x.halves to.edge f → IsTurnOver k x e from.at_b f to.at_b outlines z

-- at most 128 for each
abbrev pub IsWithin : ℕ → ℤ → Type 0
IsWithin n z = (neg_ℤ (pos (128 * n)) ≤ℤ z) × (z ≤ℤ pos (128 * n))

pub record AreTurnsSoFar (x : SightState) (from to : End) (outlines : List ℕ) (i : ℕ) (now : SightState) (left right : ℤ) : Type 0 where
  pub tested : now ≡ with_tests i x
  pub within : i ≤ length outlines
  pub on_left : AreTurned to_left x from to (take i outlines) left
  pub on_right : AreTurned to_right x from to (take i outlines) right
  pub left_small : IsWithin i left
  pub right_small : IsWithin i right

pub turns_none : (x : SightState) (from to : End) (outlines : List ℕ) → AreTurnsSoFar x from to outlines 0 x (pos 0) (pos 0)
turns_none x from to outlines = record {
  tested = no_tests x;
  within = omega arith;
  on_left = λ e f at there. record { turns = []; each = tt; all = refl };
  on_right = λ e f at there. record { turns = []; each = tt; all = refl };
  left_small = (omega (arith, ints), omega (arith, ints));
  right_small = (omega (arith, ints), omega (arith, ints));
}

turned_more : (k : Side) (x : SightState) (from to : End) (outlines : List ℕ) (sum : ℤ) (o : ℕ) (z : ℤ) → AreTurned k x from to outlines sum → TurnSays k x from to o z → AreTurned k x from to (outlines ++ o ∷ []) (sum +ℤ z)
turned_more k x from to outlines sum o z known says e f at there =
    let old : IsTurnOver k x e from.at_b f to.at_b outlines sum = known e f at there in
    record {
      turns = old.turns ++ z ∷ [];
      each = all_zip_push (λ (i : ℕ) (t : ℤ). (o : Edge x.part) → IsNumbered x.halves i o → HasTurnedAt k x.direction e from.at_b f to.at_b o t) outlines old.turns o z old.each (λ out is. says e f out at there is);
      all = ap (λ t. t +ℤ z) old.all ∙ sym (total_push (λ (t : ℤ). t) old.turns z);
    }

pub in_more : (n : ℕ) (s x : ℤ) → IsWithin n s → FitsSigned w8 x → IsWithin (n + 1) (s +ℤ x)
in_more n s x (p, q) f = (omega (arith, ints), omega (arith, ints))

pub turn_fits : (n : ℕ) (s x : ℤ) → IsWithin n s → n < 2 ^ 32 → FitsSigned w8 x → FitsSigned w64 (s +ℤ x)
turn_fits n s x (p, q) few f = omega (arith, ints)

pub turns_more : (x : SightState) (from to : End) (outlines : List ℕ) (i : ℕ) (now : SightState) (left right : ℤ) → AreTurnsSoFar x from to outlines i now left right → (o : ℕ) → slice_get outlines i ≡ Some o
    → (new : SightState) → new ≡ with_test now → (l r : ℤ) → FitsSigned w8 l → FitsSigned w8 r → TurnSays to_left now from to o l → TurnSays to_right now from to o r → AreTurnsSoFar x from to outlines (i + 1) new (left +ℤ l) (right +ℤ r)
turns_more x from to outlines i now left right known o at new one l r l_fits r_fits says_left says_right = record {
  tested = one ∙ more_tests x now i known.tested;
  within = let h = slice_get_within outlines i o at in omega arith;
  on_left = subst (λ (os : List ℕ). AreTurned to_left x from to os (left +ℤ l)) (front_get outlines i o at)
      (turned_more to_left x from to (take i outlines) left o l known.on_left (subst (λ y. TurnSays to_left y from to o l) known.tested says_left));
  on_right = subst (λ (os : List ℕ). AreTurned to_right x from to os (right +ℤ r)) (front_get outlines i o at)
      (turned_more to_right x from to (take i outlines) right o r known.on_right (subst (λ y. TurnSays to_right y from to o r) known.tested says_right));
  left_small = in_more i left l known.left_small l_fits;
  right_small = in_more i right r known.right_small r_fits;
}

pub turns_all : (x : SightState) (from to : End) (outlines : List ℕ) (i : ℕ) (now : SightState) (left right : ℤ) → AreTurnsSoFar x from to outlines i now left right → length outlines ≤ i
    → (z : Sides) → z.left ≡ left → z.right ≡ right → AreTurnsOver x from to outlines z
turns_all x from to outlines i now left right known all z l r =
    let same = take_all i outlines all in
    record {
      on_left = subst (λ (t : ℤ). AreTurned to_left x from to outlines t) (sym l) (subst (λ (os : List ℕ). AreTurned to_left x from to os left) same known.on_left);
      on_right = subst (λ (t : ℤ). AreTurned to_right x from to outlines t) (sym r) (subst (λ (os : List ℕ). AreTurned to_right x from to os right) same known.on_right);
    }

pub within_small : (n : ℕ) (z : ℤ) → IsWithin n z → n < 2 ^ 32 → IsSmall z
within_small n z (p, q) few = (omega (arith, ints), omega (arith, ints))
