-- What each job keeps, as the values that contracts see of it.
use Rattle.std.proofs.Common.{◌≡◌, ℕ, ◌+◌, ◌^◌, ◌<◌, ◌≤◌, unsigned_abs, true, false, ◌==◌, List, [], ◌∷◌, ◌++◌, length, get_or, map, suc, if◌then◌else◌, AllPairs, Option, Some, None, option_map, IsUtf8, refl, sym, ap, subst, ◌∙◌, inl, inr, arith, append_assoc, eqb-true, length-append}
use Rattle.std.proofs.lemmas.Bool.{cases_Bool}
use Rattle.std.proofs.lemmas.List.{get_or_append_left, map-append, length-map}
use Rattle.std.proofs.lemmas.Option.{none-some, same_Some}
use Rattle.std.proofs.Math.Seq.{get_or-append_seam}
use Rattle.std.specs.List.{list_any}
use Rattle.std.specs.Option.{ForSome}
use Rattle.lattice.specs.Triple.{Triple}
use Rattle.lattice.specs.declared.pieces.ViewSpec.{ViewSpec}
use Rattle.lattice.specs.declared.pieces.ViewSpec.TheVariants.{Plain, Section}
use Rattle.job_file.specs.Documents.{JobValues}
use Rattle.job_file.specs.Names.{direction_of}
use Rattle.job_file.specs.Scales.{is_scale}
use Rattle.job_file.specs.Seen.{shown, scale_seen, view_seen, job_seen}
use Rattle.job_file.specs.Texts.{is_title, are_outputs}
use Rattle.job_file.specs.ViewKeys.{number_of, is_named}
use Rattle.job_file.specs.ViewValues.{Shown, ViewValues, whole, behind}
use Rattle.job_file.specs.Views.{plain_direction, AreNamedApart}
use Rattle.job_file.specs.declared.job.Job.{Job}
use Rattle.job_file.specs.declared.job.Scale.{Scale}
use Rattle.job_file.specs.declared.view.JobView.{JobView}
use Rattle.job_file.specs.declared.view.Principal.{Principal}
use Rattle.job_file.specs.declared.view.Principal.TheVariants.{Front, Back, Left, Right, Above, Below}

-- ---- one view
pub record IsDirection (d : Triple) : Type 0 where
  pub x : unsigned_abs d.x ≤ 9
  pub y : unsigned_abs d.y ≤ 9
  pub z : unsigned_abs d.z ≤ 9
  pub some : 0 < unsigned_abs d.x + unsigned_abs d.y + unsigned_abs d.z

-- a named view has its name's direction
abbrev pub IsShown : Option Principal → Shown → Type 0
IsShown (Some name) shows = shows ≡ whole (direction_of name)
IsShown None (whole d) = IsDirection d
IsShown None (behind plane) = unsigned_abs plane.at ≤ 2 ^ 20

is_shown : (named : Option Principal) (spec : ViewSpec) → ForSome named (λ name. plain_direction spec ≡ Some (direction_of name)) → IsShown named (shown spec)
is_shown (Some name) (Plain d) directed = ap whole (same_Some _ _ (directed name refl))
is_shown (Some name) (Section cut) directed = absurd (none-some _ (directed name refl))
is_shown None (Plain d) directed = record { x = d.x_in_range; y = d.y_in_range; z = d.z_in_range; some = d.not_zero }
is_shown None (Section cut) directed = cut.in_range

abbrev pub AreShown : List ViewValues → Type 0
AreShown [] = Unit {0}
AreShown (v ∷ vs) = IsShown v.named v.shows × AreShown vs

are_shown : (views : List JobView) → AreShown (map view_seen views)
are_shown [] = tt
are_shown (v ∷ vs) = (is_shown v.named v.spec v.directed, are_shown vs)

-- ---- names
-- no earlier view has the name
abbrev pub IsNew : List ViewValues → Option Principal → Type 0
IsNew earlier None = Unit {0}
IsNew earlier (Some name) = list_any (λ v. is_named name v.named) earlier ≡ false

abbrev pub AreNew : List ViewValues → List ViewValues → Type 0
AreNew earlier [] = Unit {0}
AreNew earlier (v ∷ vs) = IsNew earlier v.named × AreNew (earlier ++ v ∷ []) vs

-- the name with a number
abbrev name_at : ℕ → Principal
name_at n = if n == 0 then Front else if n == 1 then Back else if n == 2 then Left else if n == 3 then Right else if n == 4 then Above else Below

at_number : (name : Principal) → name_at (number_of name) ≡ name
at_number Front = refl
at_number Back = refl
at_number Left = refl
at_number Right = refl
at_number Above = refl
at_number Below = refl

one_name : (p q : Principal) → (number_of p == number_of q) ≡ true → q ≡ p
one_name p q e = sym (at_number q) ∙ sym (ap name_at (eqb-true (number_of p) (number_of q) e)) ∙ at_number p

other_name : (p : Principal) (named : Option Principal) → AreNamedApart named (Some p) → is_named p named ≡ false
other_name p None apart = refl
other_name p (Some q) apart =
    elim (cases_Bool (number_of p == number_of q)) [
      | inl same ↦ absurd (apart p (ap Some (one_name p q same)) refl)
      | inr other ↦ other
    ]

untaken : (p : Principal) (views : List JobView) (d : JobView) → ((i : ℕ) → i < length views → AreNamedApart (get_or views i d).named (Some p)) → list_any (λ v. is_named p v.named) (map view_seen views) ≡ false
untaken p [] d apart = refl
untaken p (v ∷ vs) d apart = rw (other_name p v.named (apart 0 (omega arith))) (untaken p vs d (λ i inside. apart (suc i) (omega (arith, inside))))

is_new : (before : List JobView) (v : JobView) (named : Option Principal) → v.named ≡ named → ((i : ℕ) → i < length before → AreNamedApart (get_or before i v).named v.named) → IsNew (map view_seen before) named
is_new before v None is apart = tt
is_new before v (Some p) is apart = untaken p before v (λ i inside. subst (AreNamedApart (get_or before i v).named) is (apart i inside))

are_new : (before views : List JobView) → AllPairs (λ v w. AreNamedApart v.named w.named) (before ++ views) → AreNew (map view_seen before) (map view_seen views)
are_new before [] apart = tt
are_new before (v ∷ vs) apart =
    let all = before ++ v ∷ vs in
    let here : (i : ℕ) → i < length before → AreNamedApart (get_or before i v).named v.named = λ i inside.
    let far = apart i (length before) v inside (omega (arith, length-append before (v ∷ vs))) in
    subst (λ (w : JobView). AreNamedApart w.named v.named) (get_or_append_left before (v ∷ vs) v i inside)
    (subst (λ (w : JobView). AreNamedApart (get_or all i v).named w.named) (get_or-append_seam before v vs v) far) in
    let more = are_new (before ++ v ∷ []) vs (subst (AllPairs (λ v w. AreNamedApart v.named w.named)) (sym (append_assoc before (v ∷ []) vs)) apart) in
    (is_new before v v.named refl here, subst (λ (earlier : List ViewValues). AreNew earlier (map view_seen vs)) (map-append view_seen before (v ∷ [])) more)

-- ---- all of a job
pub record IsProper (job : JobValues) : Type 0 where
  pub few_decimals : job.decimals ≤ 6
  pub scaled : ForSome job.scale (λ scale. is_scale scale.0 scale.1 ≡ true)
  pub utf8 : IsUtf8 job.title
  pub title : is_title job.title ≡ true
  pub outputs : are_outputs job.outputs ≡ true
  pub some_views : 1 ≤ length job.views
  pub few_views : length job.views ≤ 12
  pub shown : AreShown job.views
  pub new : AreNew [] job.views

scaled_of : (scale : Option Scale) → ForSome (option_map scale_seen scale) (λ s. is_scale s.0 s.1 ≡ true)
scaled_of None s is = absurd (none-some s is)
scaled_of (Some scale) s is = subst (λ (s : ℕ × ℕ). is_scale s.0 s.1 ≡ true) (same_Some _ _ is) scale.listed

pub proper : (job : Job) → IsUtf8 job.title → IsProper (job_seen job)
proper job utf8 = record {
  few_decimals = job.few_decimals;
  scaled = scaled_of job.scale;
  utf8 = utf8;
  title = job.proper_title;
  outputs = job.proper_outputs;
  some_views = rw (length-map job.views.items view_seen) job.some_views;
  few_views = rw (length-map job.views.items view_seen) job.few_views;
  shown = are_shown job.views.items;
  new = are_new [] job.views.items job.named_apart;
}
