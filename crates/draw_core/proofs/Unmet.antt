-- Which outputs of a job have plotters.
use Rattle.std.proofs.Common.{◌≡◌, ◌≢◌, ◌<◌, ℕ, zero, suc, List, [], ◌∷◌, length, map, Option, Some, None, option_map, Bool, true, false, cond, refl, sym, ap, ◌∙◌, subst, arith, ◌⊎◌, inl, inr}
use Rattle.std.specs.Prelude.{slice_get, is_some, IsTrue, ◌&&◌, ◌||◌, not, if◌then◌else◌, nat_le}
use Rattle.std.specs.List.{AllPairs, find, list_any, list_all, slice_index_or}
use Rattle.std.specs.Str.{bytes_eq}
use Rattle.std.proofs.lemmas.Option.{slice_get_within}
use Rattle.std.proofs.lemmas.Slice.Eq.{bytes_eq-Decides}
use Rattle.job_file.specs.Documents.{JobValues}
use Rattle.job_file.specs.Texts.{are_different, are_outputs, is_output}
use Rattle.plot_rack.specs.Choices.{first_with, AreChosen, IsFirstMissing}
use Rattle.draw_core.specs.Outputs.{first_unmet}
use Rattle.part_input.specs.Steps.{Refuses}
use Rattle.draw_core.specs.Run.{HasPlotters, IsOfJob}
use Rattle.part_input.specs.Jobs.{IsOfUsualJob}
use Rattle.draw_core.specs.inner.Faults.{IsOfOutputs}
use Rattle.part_input.specs.declared.fault.Fault.{Fault}
use Rattle.part_input.specs.declared.fault.Fault.TheVariants.{NoPlotter, Memory}

-- ---- names and suffixes
cond_map : {A B : Type 0} (f : A → B) (b : Bool) (x : A) (mapped : Option B) (plain : Option A) → mapped ≡ option_map f plain → cond b (Some (f x)) mapped ≡ option_map f (cond b (Some x) plain)
cond_map f true x mapped plain same = refl
cond_map f false x mapped plain same = same

-- the first that passes a test among values made of others
pub find_map : {A B : Type 0} (f : A → B) (p : B → Bool) (xs : List A) → find p (map f xs) ≡ option_map f (find (λ x. p (f x)) xs)
find_map f p [] = refl
find_map f p (x ∷ xs) = cond_map f (p (f x)) x (find p (map f xs)) (find (λ y. p (f y)) xs) (find_map f p xs)

some_map : {A B : Type 0} (f : A → B) (o : Option A) → is_some (option_map f o) ≡ is_some o
some_map f None = refl
some_map f (Some x) = refl

module _ {B : Type 0} (suffix_of : B → List ℕ) (boxes : List B) where
  met_as : (name : List ℕ) → is_some (first_with (λ suffix. suffix) (map suffix_of boxes) name) ≡ is_some (first_with suffix_of boxes name)
  met_as name = ap is_some (find_map suffix_of (λ suffix. bytes_eq suffix name) boxes) ∙ some_map suffix_of (first_with suffix_of boxes name)

  met : (name : List ℕ) (names : List (List ℕ)) → is_some (first_with suffix_of boxes name) ≡ true → first_unmet (map suffix_of boxes) (name ∷ names) ≡ first_unmet (map suffix_of boxes) names
  met name names is = ap (λ (b : Bool). if b then first_unmet (map suffix_of boxes) names else Some name) (met_as name ∙ is)

  unmet : (name : List ℕ) (names : List (List ℕ)) → is_some (first_with suffix_of boxes name) ≡ false → first_unmet (map suffix_of boxes) (name ∷ names) ≡ Some name
  unmet name names is = ap (λ (b : Bool). if b then first_unmet (map suffix_of boxes) names else Some name) (met_as name ∙ is)

  -- where all are chosen none is unmet
  pub all_met : (names : List (List ℕ)) (chosen : List B) → AreChosen suffix_of boxes names chosen → first_unmet (map suffix_of boxes) names ≡ None
  all_met [] chosen done = refl
  all_met (name ∷ names) [] done = absurd (cc)
  all_met (name ∷ names) (b ∷ bs) done =
      let first : first_with suffix_of boxes name ≡ Some b = cc in
      let rest : map (first_with suffix_of boxes) names ≡ map Some bs = cc in
      met name names (ap is_some first) ∙ all_met names bs rest

  -- the first missing one is the first unmet one
  pub unmet_at : (names : List (List ℕ)) (place : ℕ) (name : List ℕ) → IsFirstMissing suffix_of boxes names place → slice_get names place ≡ Some name → first_unmet (map suffix_of boxes) names ≡ Some name
  unmet_at [] place name m here = absurd (cc)
  unmet_at (other ∷ names) zero name m here =
      let same : other ≡ name = cc in
      let none : first_with suffix_of boxes other ≡ None = cc (m.missing) in
      unmet other names (ap is_some none) ∙ ap Some same
  unmet_at (other ∷ names) (suc place) name m here =
      let shifted : IsFirstMissing suffix_of boxes names place = record {
        missing = m.missing;
        earlier = λ k text before there. m.earlier (suc k) text (omega arith) there;
      } in
      met other names (m.earlier 0 other (omega arith) refl) ∙ unmet_at names place name shifted here

  -- it is one of the names
  pub named_at : (names : List (List ℕ)) (place : ℕ) → IsFirstMissing suffix_of boxes names place → (name : List ℕ) × (slice_get names place ≡ Some name)
  named_at names place m = go (slice_get names place) refl m.missing
    where
      go : (o : Option (List ℕ)) → slice_get names place ≡ o → option_map (first_with suffix_of boxes) o ≡ Some None → (name : List ℕ) × (slice_get names place ≡ Some name)
      go None is h = absurd (cc)
      go (Some name) is h = (name, is)

  pub missing_within : (names : List (List ℕ)) (place : ℕ) → IsFirstMissing suffix_of boxes names place → place < length names
  missing_within names place m = let (name, here) = named_at names place m in slice_get_within names place name here

-- ---- the outputs of a job differ
pub and_left : (a b : Bool) → (a && b) ≡ true → a ≡ true
and_left true b h = refl
and_left false b h = absurd (cc)

pub and_right : (a b : Bool) → (a && b) ≡ true → b ≡ true
and_right true b h = h
and_right false b h = absurd (cc)

or_left : (a b : Bool) → (a || b) ≡ false → a ≡ false
or_left true b h = absurd (cc)
or_left false b h = refl

or_right : (a b : Bool) → (a || b) ≡ false → b ≡ false
or_right true b h = absurd (cc)
or_right false b h = h

pub not_true : (a : Bool) → not a ≡ true → a ≡ false
not_true true h = absurd (cc)
not_true false h = refl

apart : (text : List ℕ) (texts : List (List ℕ)) (j : ℕ) (d : List ℕ) → list_any (bytes_eq text) texts ≡ false → j < length texts → text ≢ slice_index_or texts j d
apart text [] j d none within same = absurd (omega arith)
apart text (u ∷ us) zero d none within same =
    let yes : bytes_eq text u ≡ true = (bytes_eq-Decides text u).1 same in
    let no : bytes_eq text u ≡ false = or_left (bytes_eq text u) (list_any (bytes_eq text) us) none in
    absurd (cc)
apart text (u ∷ us) (suc j) d none within same = apart text us j d (or_right (bytes_eq text u) (list_any (bytes_eq text) us) none) (omega arith) same

differ : (texts : List (List ℕ)) → are_different texts ≡ true → AllPairs (λ (a b : List ℕ). a ≢ b) texts
differ [] h i j d before within = absurd (omega arith)
differ (text ∷ texts) h i zero d before within = absurd (omega arith)
differ (text ∷ texts) h zero (suc j) d before within =
    apart text texts j d (not_true _ (and_left (not (list_any (bytes_eq text) texts)) (are_different texts) h)) (omega arith)
differ (text ∷ texts) h (suc i) (suc j) d before within =
    differ texts (and_right (not (list_any (bytes_eq text) texts)) (are_different texts) h) i j d (omega arith) (omega arith)

pub outputs_differ : (texts : List (List ℕ)) → IsTrue (are_outputs texts) → AllPairs (λ (a b : List ℕ). a ≢ b) texts
outputs_differ texts h = differ texts (and_right (nat_le (length texts) 8 && list_all is_output texts) (are_different texts) h)

-- ---- the fault of an output without a plotter
pub refuses_output : (suffixes : List (List ℕ)) (job : JobValues) (name : List ℕ) (e : Fault) → first_unmet suffixes job.outputs ≡ Some name
    → (e ≡ NoPlotter name) ⊎ (e ≡ Memory) → Refuses (HasPlotters suffixes job) e
refuses_output suffixes job name e is (inl same) = subst (Refuses (HasPlotters suffixes job)) (sym same) (name, refl, is)
refuses_output suffixes job name e is (inr same) = subst (Refuses (HasPlotters suffixes job)) (sym same) tt

pub of_outputs : (name : List ℕ) (e : Fault) → (e ≡ NoPlotter name) ⊎ (e ≡ Memory) → IsOfOutputs e
of_outputs name e (inl same) = subst IsOfOutputs (sym same) tt
of_outputs name e (inr same) = subst IsOfOutputs (sym same) tt

-- a job that isn't named is the usual one
pub of_rack : (named : Option (List ℕ)) (e : Fault) → IsOfOutputs e → (named ≡ None → IsOfUsualJob e) → IsOfJob named e
of_rack None e h usual = usual refl
of_rack (Some text) (NoPlotter name) h usual = tt
of_rack (Some text) Memory h usual = tt
of_rack (Some text) e h usual = absurd h
