-- What a corner sees of its face, by the triangles of its fan so far.
use Rattle.std.proofs.Common.{◌≡◌, ℕ, ◌+◌, ◌-◌, ◌<◌, ◌≤◌, ◌⊎◌, inl, inr, ◌↔◌, Bool, true, false, List, length, get_or, slice_get, Some, refl, sym, subst, ◌∙◌, arith, true≢false, below_more}
use Rattle.std.specs.List.{Any}
use Rattle.std.proofs.lemmas.Option.{slice_get-get_or, get_or_from_slice_get, slice_get_within}
use Rattle.lattice.specs.Triple.{Triple}
use Rattle.off_reader.specs.Fans.{corners_at, vector_area, fan_from, HasTwoEqual, IsTurnedAs, SeesWhole}
use Rattle.off_reader.specs.inner.Fans.{twice}
use Rattle.off_reader.proofs.Areas.{long_corners}
use Rattle.off_reader.proofs.Around.{at_fan_from, long_fan_from}

-- three corners
abbrev Corners : Type 0
Corners = Triple × Triple × Triple

-- the triangles of a fan, by the numbers of the face
module _ (vertices : List Triple) (numbers : List ℕ) (j : ℕ) (place : j < length numbers) where
  pub triangle_at : (i : ℕ) → i < length numbers - 2 → (a b c : Triple) → slice_get (twice (corners_at vertices numbers)) j ≡ Some a
      → slice_get (twice (corners_at vertices numbers)) (j + i + 1) ≡ Some b → slice_get (twice (corners_at vertices numbers)) (j + i + 2) ≡ Some c
      → slice_get (fan_from (corners_at vertices numbers) j) i ≡ Some (a, b, c)
  triangle_at i h a b c first second third =
      let long = long_corners vertices numbers in
      at_fan_from (λ a b c. (a, b, c)) (corners_at vertices numbers) j i a b c (omega (arith, long, place)) (omega (arith, long, h)) first second third

  pub all_triangles : 3 < length numbers → (i : ℕ) → length numbers - 2 ≤ i → length (fan_from (corners_at vertices numbers) j) ≤ i
  all_triangles some i h =
      let long = long_corners vertices numbers in
      let count = long_fan_from {Y = Corners} (λ a b c. (a, b, c)) (corners_at vertices numbers) j (omega (arith, long, some)) (omega (arith, long, place)) in
      omega (arith, long, count, h)

module _ (corners : List Triple) (j : ℕ) where
  -- a corner stands in it twice
  abbrev pub Repeats : Corners → Type 0
  Repeats t = HasTwoEqual t.0 t.1 t.2

  -- it is turned as the face is
  abbrev pub IsTurned : Corners → Type 0
  IsTurned t = IsTurnedAs (vector_area corners) t.0 t.1 t.2

  -- of the first i triangles each is seen, and some is turned as the face is where `some` says so
  pub record IsSeen (i : ℕ) (some : Bool) : Type 0 where
    pub passed : (k : ℕ) → k < i → (t : Corners) → slice_get (fan_from corners j) k ≡ Some t → Repeats t ⊎ IsTurned t
    pub found : some ≡ true → Any IsTurned (fan_from corners j)
    pub lone : some ≡ false → (k : ℕ) → k < i → (t : Corners) → slice_get (fan_from corners j) k ≡ Some t → ¬ IsTurned t

  pub seen_none : IsSeen 0 false
  seen_none = record {
    passed = λ k h t at. absurd (omega arith);
    found = λ e. absurd (true≢false (sym e));
    lone = λ e k h t at turned. absurd (omega arith);
  }

  module _ (i : ℕ) (t : Corners) (at : slice_get (fan_from corners j) i ≡ Some t) where
    here : (u : Corners) → slice_get (fan_from corners j) i ≡ Some u → t ≡ u
    here u h = some_of (sym at ∙ h)
      where
        some_of : {x y : Corners} → Some x ≡ Some y → x ≡ y
        some_of h = cc

    pub seen_turned : (some : Bool) → IsTurned t → IsSeen i some → IsSeen (i + 1) true
    seen_turned some turned seen = record {
      passed = below_more _ _ seen.passed (λ u h. inr (subst IsTurned (here u h) turned));
      found = λ e. (i, t, slice_get_within (fan_from corners j) i t at, get_or_from_slice_get (fan_from corners j) i t t at, turned);
      lone = λ e. absurd (true≢false e);
    }

    pub seen_repeat : (some : Bool) → ¬ IsTurned t → Repeats t → IsSeen i some → IsSeen (i + 1) some
    seen_repeat some apart repeats seen = record {
      passed = below_more _ _ seen.passed (λ u h. inl (subst Repeats (here u h) repeats));
      found = seen.found;
      lone = λ e. below_more _ _ (seen.lone e) (λ u h turned. apart (subst IsTurned (sym (here u h)) turned));
    }

    pub unseen : ¬ IsTurned t → ¬ Repeats t → ¬ SeesWhole corners j
    unseen apart distinct sees =
        let either = sees.all i t (slice_get_within (fan_from corners j) i t at) in
        let same = get_or_from_slice_get (fan_from corners j) i t t at in
        by (subst (λ (u : Corners). Repeats u ⊎ IsTurned u) same either)
      where
        by : Repeats t ⊎ IsTurned t → ⊥
        by (inl repeats) = distinct repeats
        by (inr turned) = apart turned

  pub seen_all : (i : ℕ) (some : Bool) → length (fan_from corners j) ≤ i → IsSeen i some → (some ≡ true) ↔ SeesWhole corners j
  seen_all i some all seen = (
    (λ e. record {
      all = λ k d h. seen.passed k (omega arith) (get_or (fan_from corners j) k d) (slice_get-get_or (fan_from corners j) k d h);
      some = seen.found e;
    }),
    (λ sees. by some seen sees.some),
  )
    where
      by : (some : Bool) → IsSeen i some → Any IsTurned (fan_from corners j) → some ≡ true
      by true s h = refl
      by false s (k, t, within, is, turned) = absurd (s.lone refl k (omega arith) t (slice_get-get_or (fan_from corners j) k t within ∙ (λ n. Some (is n))) turned)
