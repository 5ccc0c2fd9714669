-- The first with a name, among named things.
use Rattle.std.proofs.Common.{◌≡◌, ◌≢◌, ℕ, zero, suc, ◌+◌, List, [], ◌∷◌, ◌++◌, take, set, get_or, Option, Some, None, option_map, Bool, true, false, refl, ap, sym, ◌∙◌, add-one}
use Rattle.std.specs.Prelude.{if◌then◌else◌, slice_get, Vec}
use Rattle.std.specs.Str.{bytes_eq}
use Rattle.std.specs.declared.alloc.Global.{Global}
use Rattle.std.proofs.lemmas.Option.{get_or_from_slice_get}
use Rattle.std.proofs.lemmas.Slice.Eq.{bytes_eq-Decides}
use Rattle.desk.specs.Files.{Keeps, named_at, file_at}
use Rattle.desk.specs.inner.Places.{IsPlaceOf}

-- this is found under the name, and under each other name what was found before
pub record IsPut {V : Type 0} (old new : List ℕ → Option V) (name : List ℕ) (v : V) : Type 0 where
  pub holds : new name ≡ Some v
  pub others : (other : List ℕ) → other ≢ name → new other ≡ old other

pub differs : (name other : List ℕ) → other ≢ name → bytes_eq name other ≡ false
differs name other unlike = go (bytes_eq name other) (bytes_eq-Decides name other).0
  where
    go : (b : Bool) → (b ≡ true → name ≡ other) → b ≡ false
    go true same = absurd (unlike (sym (same refl)))
    go false same = refl

module _ {V : Type 0} where
  -- a name that none before has goes on to the later ones
  passes : (b : Bool) (v : V) (before later there : Option V) → (if b then Some v else before) ≡ None →
      (before ≡ None → later ≡ there) → (if b then Some v else later) ≡ there
  passes true v before later there none goes = absurd (cc)
  passes false v before later there none goes = goes none

  -- one more without the name
  none_after : (named : List (List ℕ × V)) (name : List ℕ) (i : ℕ) (one : List ℕ × V) → named_at (take i named) name ≡ None →
      slice_get named i ≡ Some one → bytes_eq one.0 name ≡ false → named_at (take (suc i) named) name ≡ None
  none_after [] name i one before here unlike = refl
  none_after (x ∷ xs) name zero one before here unlike =
      let same : x ≡ one = cc in rw (ap (λ (y : List ℕ × V). bytes_eq y.0 name) same ∙ unlike) refl
  none_after (x ∷ xs) name (suc i) one before here unlike =
      passes (bytes_eq x.0 name) _ _ _ _ before (λ none. none_after xs name i one none here unlike)

  pub none_more : (named : List (List ℕ × V)) (name text : List ℕ) (i : ℕ) (one : List ℕ × V) → named_at (take i named) name ≡ None →
      slice_get named i ≡ Some one → text ≡ one.0 → bytes_eq text name ≡ false → named_at (take (i + 1) named) name ≡ None
  none_more named name text i one before here same unlike =
      rw add-one (none_after named name i one before here (ap (λ (n : List ℕ). bytes_eq n name) (sym same) ∙ unlike))

  pub place_at : (named : List (List ℕ × V)) (name text : List ℕ) (i : ℕ) (one : List ℕ × V) → named_at (take i named) name ≡ None →
      slice_get named i ≡ Some one → text ≡ one.0 → bytes_eq text name ≡ true → IsPlaceOf named name i
  place_at named name text i one before here same is =
      record { before = before; here = rw here (ap Some (sym same ∙ (bytes_eq-Decides text name).0 is)) }

  -- what stands at that place is what is under the name
  found_at : (named : List (List ℕ × V)) (name : List ℕ) (i : ℕ) (one : List ℕ × V) → named_at (take i named) name ≡ None →
      slice_get named i ≡ Some one → one.0 ≡ name → named_at named name ≡ Some one.1
  found_at [] name i one before here same = absurd (cc)
  found_at (x ∷ xs) name zero one before here same =
      let is : x ≡ one = cc in
      rw is (rw ((bytes_eq-Decides one.0 name).1 same) refl)
  found_at (x ∷ xs) name (suc i) one before here same =
      passes (bytes_eq x.0 name) _ _ _ _ before (λ none. found_at xs name i one none here same)

  -- another at that place is under the name
  holds_at : (named : List (List ℕ × V)) (name : List ℕ) (i : ℕ) (v : V) → named_at (take i named) name ≡ None →
      option_map (λ (one : List ℕ × V). one.0) (slice_get named i) ≡ Some name → named_at (set named i (name, v)) name ≡ Some v
  holds_at [] name i v before here = absurd (cc)
  holds_at (x ∷ xs) name zero v before here = rw ((bytes_eq-Decides name name).1 refl) refl
  holds_at (x ∷ xs) name (suc i) v before here =
      passes (bytes_eq x.0 name) _ _ _ _ before (λ none. holds_at xs name i v none here)

  -- and under each other name is what was there
  others_at : (named : List (List ℕ × V)) (name other : List ℕ) (i : ℕ) (v : V) → other ≢ name →
      option_map (λ (one : List ℕ × V). one.0) (slice_get named i) ≡ Some name → named_at (set named i (name, v)) other ≡ named_at named other
  others_at [] name other i v unlike here = refl
  others_at (x ∷ xs) name other zero v unlike here =
      let same : x.0 ≡ name = cc in
      rw (differs name other unlike, ap (λ (n : List ℕ). bytes_eq n other) same ∙ differs name other unlike) refl
  others_at (x ∷ xs) name other (suc i) v unlike here =
      ap (λ (o : Option V). if bytes_eq x.0 other then Some x.1 else o) (others_at xs name other i v unlike here)

  holds_last : (named : List (List ℕ × V)) (name : List ℕ) (v : V) → named_at named name ≡ None →
      named_at (named ++ (name, v) ∷ []) name ≡ Some v
  holds_last [] name v none = rw ((bytes_eq-Decides name name).1 refl) refl
  holds_last (x ∷ xs) name v none = passes (bytes_eq x.0 name) _ _ _ _ none (holds_last xs name v)

  others_last : (named : List (List ℕ × V)) (name other : List ℕ) (v : V) → other ≢ name →
      named_at (named ++ (name, v) ∷ []) other ≡ named_at named other
  others_last [] name other v unlike = rw (differs name other unlike) refl
  others_last (x ∷ xs) name other v unlike =
      ap (λ (o : Option V). if bytes_eq x.0 other then Some x.1 else o) (others_last xs name other v unlike)

  -- what is read at the place of a name
  pub read_at : (named : List (List ℕ × V)) (name : List ℕ) (i : ℕ) (one : List ℕ × V) → IsPlaceOf named name i → one ≡ get_or named i one →
      slice_get named i ≡ Some one
  read_at named name i one place read = go (slice_get named i) refl place.here
    where
      go : (o : Option (List ℕ × V)) → slice_get named i ≡ o → option_map (λ (x : List ℕ × V). x.0) o ≡ Some name → slice_get named i ≡ Some one
      go None is has = absurd (cc)
      go (Some x) is has = is ∙ ap Some (sym (get_or_from_slice_get named i x one is) ∙ sym read)

  -- it has this name
  named_so : (named : List (List ℕ × V)) (name : List ℕ) (i : ℕ) (one : List ℕ × V) → IsPlaceOf named name i → slice_get named i ≡ Some one → one.0 ≡ name
  named_so named name i one place here = go (slice_get named i) here place.here
    where
      go : (o : Option (List ℕ × V)) → o ≡ Some one → option_map (λ (x : List ℕ × V). x.0) o ≡ Some name → one.0 ≡ name
      go None is has = absurd (cc)
      go (Some x) is has = cc

  -- and is what is under the name
  pub found : (named : List (List ℕ × V)) (name : List ℕ) (i : ℕ) (one : List ℕ × V) → IsPlaceOf named name i → one ≡ get_or named i one →
      named_at named name ≡ Some one.1
  found named name i one place read =
      let here : slice_get named i ≡ Some one = read_at named name i one place read in
      found_at named name i one place.before here (named_so named name i one place here)

  -- what stands at the place of a name is replaced
  pub put_at : (named : List (List ℕ × V)) (name : List ℕ) (i : ℕ) (one : List ℕ × V) (v : V) → IsPlaceOf named name i →
      one ≡ get_or named i one → IsPut (named_at named) (named_at (set named i (one.0, v))) name v
  put_at named name i one v place read =
      let is : one.0 ≡ name = named_so named name i one place (read_at named name i one place read) in
      rw is (record {
        holds = holds_at named name i v place.before place.here;
        others = λ other unlike. others_at named name other i v unlike place.here;
      })

  -- one is added under a name that had none
  pub put_last : (named new : List (List ℕ × V)) (name text : List ℕ) (v : V) → named_at named name ≡ None →
      text ≡ name → new ≡ named ++ (text, v) ∷ [] → IsPut (named_at named) (named_at new) name v
  put_last named new name text v none same new_is = rw (new_is, same) (record {
    holds = holds_last named name v none;
    others = λ other unlike. others_last named name other v unlike;
  })

-- a file that was put is kept
pub kept : (files new : List (List ℕ × Vec ℕ Global)) (name bytes : List ℕ) (v : Vec ℕ Global) → v.items ≡ bytes →
    IsPut (named_at files) (named_at new) name v → Keeps (file_at files) (file_at new) name bytes
kept files new name bytes v same put = record {
  holds = ap (option_map (λ (w : Vec ℕ Global). w.items)) put.holds ∙ ap Some same;
  others = λ other unlike. ap (option_map (λ (w : Vec ℕ Global). w.items)) (put.others other unlike);
}
