-- The first box with a suffix, and which boxes names choose one after the other.
use Rattle.std.proofs.Common.{◌≡◌, ◌≢◌, ◌<◌, ℕ, zero, suc, ◌+◌, List, [], ◌∷◌, ◌++◌, take, drop, map, get_or, Option, Some, None, option_map, Bool, true, false, cond, refl, ap, sym, ◌∙◌, add-one, arith}
use Rattle.std.specs.Prelude.{slice_get, IsSome}
use Rattle.std.specs.List.{AllPairs, find}
use Rattle.std.specs.Str.{bytes_eq}
use Rattle.std.proofs.lemmas.List.{map_more, map-append}
use Rattle.std.proofs.lemmas.Option.{get_or_from_slice_get, slice_get_within}
use Rattle.std.proofs.lemmas.Slice.Eq.{bytes_eq-Decides}
use Rattle.plot_rack.specs.Choices.{first_with, AreChosen, IsFirstMissing}
use Rattle.plot_rack.specs.inner.Places.{IsFirstPlace}

-- ---- the first that passes a test
module _ {B : Type 0} (p : B → Bool) where
  -- one that fails goes on to the later ones
  passes : (b : Bool) (y : B) (before later : Option B) (held : Option B) → cond b (Some y) before ≡ None →
      (before ≡ None → later ≡ held) → cond b (Some y) later ≡ held
  passes true y before later held none goes = absurd (cc)
  passes false y before later held none goes = goes none

  none_after : (xs : List B) (i : ℕ) (x : B) → find p (take i xs) ≡ None → slice_get xs i ≡ Some x → p x ≡ false → find p (take (suc i) xs) ≡ None
  none_after [] i x before here fails = refl
  none_after (y ∷ ys) zero x before here fails = let same : y ≡ x = cc in rw (ap p same ∙ fails) refl
  none_after (y ∷ ys) (suc i) x before here fails = passes (p y) y _ _ _ before (λ none. none_after ys i x none here fails)

  -- the first n fail, and so does one more
  pub none_more : (xs : List B) (i : ℕ) (x : B) → find p (take i xs) ≡ None → slice_get xs i ≡ Some x → p x ≡ false → find p (take (i + 1) xs) ≡ None
  none_more xs i x before here fails = rw add-one (none_after xs i x before here fails)

  -- the first one that passes
  pub found_at : (xs : List B) (i : ℕ) (x : B) → find p (take i xs) ≡ None → slice_get xs i ≡ Some x → p x ≡ true → find p xs ≡ Some x
  found_at [] i x before here is = absurd (cc)
  found_at (y ∷ ys) zero x before here is = let same : y ≡ x = cc in rw same (rw is refl)
  found_at (y ∷ ys) (suc i) x before here is = passes (p y) y _ _ _ before (λ none. found_at ys i x none here is)

  removed_at : (xs : List B) (i : ℕ) (x : B) → slice_get xs i ≡ Some x → p x ≡ false → find p (take i xs ++ drop (suc i) xs) ≡ find p xs
  removed_at [] i x here fails = absurd (cc)
  removed_at (y ∷ ys) zero x here fails = let same : y ≡ x = cc in rw (ap p same ∙ fails) refl
  removed_at (y ∷ ys) (suc i) x here fails = ap (λ (o : Option B). cond (p y) (Some y) o) (removed_at ys i x here fails)

  -- without one that fails the first is the same
  pub removed : (xs : List B) (i : ℕ) (x : B) → slice_get xs i ≡ Some x → p x ≡ false → find p (take i xs ++ drop (i + 1) xs) ≡ find p xs
  removed xs i x here fails = rw add-one (removed_at xs i x here fails)

-- ---- the first with a suffix
module _ {B : Type 0} (suffix_of : B → List ℕ) where
  -- what stands at the first place
  stands : (boxes : List B) (name : List ℕ) (i : ℕ) (b : B) → IsFirstPlace suffix_of boxes name i → b ≡ get_or boxes i b →
      (slice_get boxes i ≡ Some b) × (bytes_eq (suffix_of b) name ≡ true)
  stands boxes name i b place read = go (slice_get boxes i) refl place.here
    where
      go : (o : Option B) → slice_get boxes i ≡ o → option_map (λ (x : B). bytes_eq (suffix_of x) name) o ≡ Some true →
          (slice_get boxes i ≡ Some b) × (bytes_eq (suffix_of b) name ≡ true)
      go None is has = absurd (cc)
      go (Some x) is has =
          let same : b ≡ x = read ∙ get_or_from_slice_get boxes i x b is in
          (is ∙ ap Some (sym same), rw same (cc))

  -- it is the first with that suffix
  pub first_is : (boxes : List B) (name : List ℕ) (i : ℕ) (b : B) → IsFirstPlace suffix_of boxes name i → b ≡ get_or boxes i b →
      Some b ≡ first_with suffix_of boxes name
  first_is boxes name i b place read =
      let here = stands boxes name i b place read in
      sym (found_at _ boxes i b place.before here.0 here.1)

  -- and without it the first with another suffix is the same
  pub others_are : (boxes : List B) (name : List ℕ) (i : ℕ) (b : B) → IsFirstPlace suffix_of boxes name i → b ≡ get_or boxes i b →
      (other : List ℕ) → other ≢ name → first_with suffix_of (take i boxes ++ drop (i + 1) boxes) other ≡ first_with suffix_of boxes other
  others_are boxes name i b place read other unlike =
      let here = stands boxes name i b place read in
      removed _ boxes i b here.0 (fails (bytes_eq (suffix_of b) other) (bytes_eq-Decides (suffix_of b) other).0 ((bytes_eq-Decides (suffix_of b) name).0 here.1))
    where
      fails : (e : Bool) → (e ≡ true → suffix_of b ≡ other) → suffix_of b ≡ name → e ≡ false
      fails true same is = absurd (unlike (sym (same refl) ∙ is))
      fails false same is = refl

-- ---- one name after the other
module _ {B : Type 0} (suffix_of : B → List ℕ) (boxes : List B) (names : List (List ℕ)) where
  -- a name that isn't among the first i
  abbrev IsLater : ℕ → List ℕ → Type 0
  IsLater i name = (k : ℕ) (other : List ℕ) → k < i → slice_get names k ≡ Some other → name ≢ other

  -- where the boxes of the first i are taken out, the first with another suffix is still there
  abbrev Stay : ℕ → List B → Type 0
  Stay i left = (name : List ℕ) → IsLater i name → first_with suffix_of left name ≡ first_with suffix_of boxes name

  is_later : (i : ℕ) (name : List ℕ) → AllPairs (λ (a b : List ℕ). a ≢ b) names → slice_get names i ≡ Some name → IsLater i name
  is_later i name different here k other before there same =
      different k i name before (slice_get_within names i name here)
      (get_or_from_slice_get names k other name there ∙ sym same ∙ sym (get_or_from_slice_get names i name name here))

  -- one name more
  pub chosen_more : (i : ℕ) (name text : List ℕ) (left chosen new : List B) (b : B) → AllPairs (λ (x y : List ℕ). x ≢ y) names → slice_get names i ≡ Some name
      → AreChosen suffix_of boxes (take i names) chosen → Stay i left → text ≡ name → Some b ≡ first_with suffix_of left text → new ≡ chosen ++ b ∷ []
      → AreChosen suffix_of boxes (take (i + 1) names) new
  chosen_more i name text left chosen new b different here done rest same first grown =
      let at = ap (first_with suffix_of boxes) (get_or_from_slice_get names i name name here) in
      let is = first ∙ ap (first_with suffix_of left) same ∙ rest name (is_later i name different here) in
      map_more (first_with suffix_of boxes) names i name (slice_get_within names i name here)
      ∙ (λ j. done j ++ (at ∙ sym is) j ∷ [])
      ∙ sym (map-append Some chosen (b ∷ []))
      ∙ ap (map Some) (sym grown)

  pub stay_more : (i : ℕ) (name text : List ℕ) (left new : List B) → slice_get names i ≡ Some name → Stay i left → text ≡ name
      → ((other : List ℕ) → other ≢ text → first_with suffix_of new other ≡ first_with suffix_of left other) → Stay (i + 1) new
  stay_more i name text left new here rest same others other later =
      others other (λ e. later i name (omega arith) here (e ∙ same))
      ∙ rest other (λ k another before there. later k another (omega arith) there)

  -- for each name so far there is one
  found : {A C : Type 0} (f : A → Option C) (i k : ℕ) (xs : List A) (ys : List C) (x : A) → map f (take i xs) ≡ map Some ys → k < i → slice_get xs k ≡ Some x → IsSome (f x)
  found f i k [] ys x done before here = absurd (cc)
  found f zero k (y ∷ rest) ys x done before here = absurd (omega arith)
  found f (suc i) k (y ∷ rest) [] x done before here = absurd (cc)
  found f (suc i) zero (y ∷ rest) (z ∷ zs) x done before here =
      let same : y ≡ x = cc in
      let is : f y ≡ Some z = cc in
      rw (← same, is) refl
  found f (suc i) (suc k) (y ∷ rest) (z ∷ zs) x done before here =
      let tail : map f (take i rest) ≡ map Some zs = cc in
      found f i k rest zs x tail (omega arith) here

  -- the first name without a box
  pub is_missing : (i : ℕ) (name text : List ℕ) (left chosen : List B) → AllPairs (λ (x y : List ℕ). x ≢ y) names → slice_get names i ≡ Some name
      → AreChosen suffix_of boxes (take i names) chosen → Stay i left → text ≡ name → None ≡ first_with suffix_of left text → IsFirstMissing suffix_of boxes names i
  is_missing i name text left chosen different here done rest same none =
      record {
        missing = rw here (ap Some (sym (none ∙ ap (first_with suffix_of left) same ∙ rest name (is_later i name different here))));
        earlier = λ k other before there. found (first_with suffix_of boxes) i k names chosen other done before there;
      }
