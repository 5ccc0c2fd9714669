-- Sums of what the tests of triangles next to an end of an edge say, one triangle after another.
use Rattle.std.proofs.Common.{◌≡◌, ◌⊎◌, ℕ, zero, suc, ◌+◌, ◌-◌, ◌*◌, ◌<◌, ◌≤◌, ◌^◌, inl, inr, to_z, of_z, List, [], ◌∷◌, ◌++◌, length, Some, Bool, slice_get, refl, sym, subst, ap, ◌∙◌, arith, length-append, add-zero}
use Rattle.std.specs.Prelude.{ℤ, pos, ◌+ℤ◌, ◌≤ℤ◌, ◌<ℤ◌, sum}
use Rattle.std.specs.Int.{w64}
use Rattle.std.proofs.lemmas.Int.{ints}
use Rattle.std.proofs.lemmas.List.Sums.{sum_by_push}
use Rattle.integers.proofs.Lists.{slice_get_push}
use Rattle.lattice.specs.Cuts.{Plane}
use Rattle.geometry.specs.Parts.{Part, Face, Edge, IsNumbered}
use Rattle.geometry.specs.Counts.{Side, to_left, to_right}
use Rattle.geometry.specs.Covers.{IsOneWhere}
use Rattle.cut_count_laws.specs.CutCovers.{IsCutCoveredNext}
use Rattle.cut_count.specs.inner.Walks.{AreCoverCounts}

module _ (c : Plane) (s : Part) (halves : List ℕ) (edge : ℕ) (at_b : Bool) where
  -- what the test of a triangle says
  abbrev pub CoverSays : Side → ℕ → ℕ → Type 0
  CoverSays k tri x = (e : Edge s) (f : Face s) → IsNumbered halves edge e → f.number ≡ tri → IsOneWhere (IsCutCoveredNext k c e at_b f) x

  -- the total is the sum of 1 for each of the first n faces that is counted
  pub record AreCoveredFirst (k : Side) (e : Edge s) (n : ℕ) (total : ℤ) : Type 0 where
    pub covers : List ℕ
    pub long : length covers ≡ n
    pub each : (i x : ℕ) → slice_get covers i ≡ Some x → (f : Face s) → f.number ≡ i → IsOneWhere (IsCutCoveredNext k c e at_b f) x
    pub all : total ≡ pos (sum covers)

  abbrev pub AreFirst : Side → ℕ → ℤ → Type 0
  AreFirst k n total = (e : Edge s) → IsNumbered halves edge e → AreCoveredFirst k e n total

  -- after n triangles, where so many tests were made before and now
  pub record AreCoversSoFar (n before now : ℕ) (left right : ℤ) : Type 0 where
    pub tested : (before ≤ now) × (now ≤ before + n)
    pub on_left : AreFirst to_left n left
    pub on_right : AreFirst to_right n right
    pub left_least : pos 0 ≤ℤ left
    pub left_most : left ≤ℤ pos (255 * n)
    pub right_least : pos 0 ≤ℤ right
    pub right_most : right ≤ℤ pos (255 * n)

  none_yet : (k : Side) → AreFirst k 0 (pos 0)
  none_yet k e at = record { covers = []; long = refl; each = λ i x h. absurd (cc); all = refl }

  one_more : (k : Side) (n : ℕ) (total : ℤ) (x : ℕ) → AreFirst k n total → CoverSays k n x → AreFirst k (n + 1) (total +ℤ pos x)
  one_more k n total x known says e at = record {
    covers = old.covers ++ x ∷ [];
    long = length-append old.covers (x ∷ []) ∙ ap (λ m. m + 1) old.long;
    each = λ i y h. one i y (slice_get_push old.covers x i y h);
    all = plus total (sum old.covers) x old.all ∙ ap (λ (m : ℕ). pos m) (sym (sum_by_push (λ m. m) old.covers x));
  }
    where
      old : AreCoveredFirst k e n total
      old = known e at

      plus : (z : ℤ) (m x : ℕ) → z ≡ pos m → z +ℤ pos x ≡ pos (m + x)
      plus z m x h = omega (arith, ints)

      one : (i y : ℕ) → (slice_get old.covers i ≡ Some y) ⊎ ((i ≡ length old.covers) × (x ≡ y)) → (f : Face s) → f.number ≡ i → IsOneWhere (IsCutCoveredNext k c e at_b f) y
      one i y (inl h) f is = old.each i y h f is
      one i y (inr h) f is = subst (IsOneWhere (IsCutCoveredNext k c e at_b f)) h.1 (says e f at (is ∙ h.0 ∙ old.long))

  pub covers_none : (before : ℕ) → AreCoversSoFar 0 before before (pos 0) (pos 0)
  covers_none before = record {
    tested = (omega arith, omega arith);
    on_left = none_yet to_left;
    on_right = none_yet to_right;
    left_least = omega (arith, ints);
    left_most = omega (arith, ints);
    right_least = omega (arith, ints);
    right_most = omega (arith, ints);
  }

  pub covers_more : (n before now : ℕ) (left right : ℤ) → AreCoversSoFar n before now left right → (new : ℕ) → new ≡ now + 1 → (x y : ℕ) → x < 256 → y < 256
      → CoverSays to_left n x → CoverSays to_right n y → AreCoversSoFar (n + 1) before new (left +ℤ pos x) (right +ℤ pos y)
  covers_more n before now left right h new e x y x_small y_small says_left says_right = record {
    tested = (omega (arith, h.tested.0, e), next before now new n h.tested.1 e);
    on_left = one_more to_left n left x h.on_left says_left;
    on_right = one_more to_right n right y h.on_right says_right;
    left_least = least left x h.left_least;
    left_most = most left x n h.left_most x_small;
    right_least = least right y h.right_least;
    right_most = most right y n h.right_most y_small;
  }
    where
      next : (before now new n : ℕ) → now ≤ before + n → new ≡ now + 1 → new ≤ before + (n + 1)
      next before now new n h e = omega (arith, h, e)

      least : (z : ℤ) (x : ℕ) → pos 0 ≤ℤ z → pos 0 ≤ℤ (z +ℤ pos x)
      least z x h = omega (arith, ints)

      most : (z : ℤ) (x n : ℕ) → z ≤ℤ pos (255 * n) → x < 256 → (z +ℤ pos x) ≤ℤ pos (255 * (n + 1))
      most z x n h l = omega (arith, ints)

  -- those that are passed over are not counted
  past : (k : Side) (n gap : ℕ) (total : ℤ) → AreFirst k n total
      → ((i : ℕ) → n ≤ i → i < n + gap → (e : Edge s) (f : Face s) → IsNumbered halves edge e → f.number ≡ i → ¬ IsCutCoveredNext k c e at_b f) → AreFirst k (n + gap) total
  past k n zero total known none = subst (λ m. AreFirst k m total) (sym (add-zero n)) known
  past k n (suc gap) total known none =
      subst (λ m. AreFirst k m total) (one_further n gap)
      (subst (λ t. AreFirst k ((n + gap) + 1) t) (no_more total)
      (one_more k (n + gap) total 0 (past k n gap total known (λ i l m. none i l (omega arith))) (λ e f at is. inr (refl, none (n + gap) (omega arith) (omega arith) e f at is))))
    where
      one_further : (n gap : ℕ) → (n + gap) + 1 ≡ n + suc gap
      one_further n gap = omega arith

      no_more : (z : ℤ) → z +ℤ pos 0 ≡ z
      no_more z = omega (arith, ints)

  pub covers_past : (n m before now : ℕ) (left right : ℤ) → AreCoversSoFar n before now left right → n ≤ m
      → ((i : ℕ) → n ≤ i → i < m → (k : Side) (e : Edge s) (f : Face s) → IsNumbered halves edge e → f.number ≡ i → ¬ IsCutCoveredNext k c e at_b f) → AreCoversSoFar m before now left right
  covers_past n m before now left right h up none =
      subst (λ l. AreCoversSoFar l before now left right) (up_to n m up)
      (record {
        tested = (h.tested.0, further before now n (m - n) h.tested.1);
        on_left = past to_left n (m - n) left h.on_left (λ i l b. none i l (below n m i up b) to_left);
        on_right = past to_right n (m - n) right h.on_right (λ i l b. none i l (below n m i up b) to_right);
        left_least = h.left_least;
        left_most = most left n (m - n) h.left_most;
        right_least = h.right_least;
        right_most = most right n (m - n) h.right_most;
      })
    where
      up_to : (n m : ℕ) → n ≤ m → n + (m - n) ≡ m
      up_to n m h = omega arith

      below : (n m i : ℕ) → n ≤ m → i < n + (m - n) → i < m
      below n m i h l = omega arith

      further : (before now n gap : ℕ) → now ≤ before + n → now ≤ before + (n + gap)
      further before now n gap h = omega arith

      most : (z : ℤ) (n gap : ℕ) → z ≤ℤ pos (255 * n) → z ≤ℤ pos (255 * (n + gap))
      most z n gap h = omega (arith, ints)

  module _ (n before now : ℕ) (left right : ℤ) (h : AreCoversSoFar n before now left right) (all : n ≡ length s.triangles) where
    pub covers_left : (e : Edge s) → IsNumbered halves edge e → AreCoverCounts to_left c e at_b left
    covers_left e at = let g = h.on_left e at in (g.covers, record { long = g.long ∙ all; each = g.each }, g.all)

    pub covers_right : (e : Edge s) → IsNumbered halves edge e → AreCoverCounts to_right c e at_b right
    covers_right e at = let g = h.on_right e at in (g.covers, record { long = g.long ∙ all; each = g.each }, g.all)

-- a total passes through the machine's numbers
pub total_passed : (n x : ℕ) (z y : ℤ) → n < 2 ^ 32 → pos 0 ≤ℤ z → z ≤ℤ pos (255 * n) → x < 256 → y ≡ pos x → to_z w64 (of_z w64 (z +ℤ to_z w64 (of_z w64 y))) ≡ z +ℤ pos x
total_passed n x z y few least most small is =
    (λ i. to_z w64 (of_z w64 (z +ℤ to_z w64 (of_z w64 (is i))))) ∙ (λ i. to_z w64 (of_z w64 (z +ℤ one x small i))) ∙ sum z x least (below n z few most) small
  where
    below : (n : ℕ) (z : ℤ) → n < 2 ^ 32 → z ≤ℤ pos (255 * n) → z <ℤ pos (2 ^ 40)
    below n z few most = omega (arith, ints)

    one : (x : ℕ) → x < 256 → to_z w64 (of_z w64 (pos x)) ≡ pos x
    one x small = omega (arith, ints)

    sum : (z : ℤ) (x : ℕ) → pos 0 ≤ℤ z → z <ℤ pos (2 ^ 40) → x < 256 → to_z w64 (of_z w64 (z +ℤ pos x)) ≡ z +ℤ pos x
    sum z x least most small = omega (arith, ints)
