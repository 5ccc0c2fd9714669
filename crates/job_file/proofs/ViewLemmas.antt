-- Views that don't have one name.
use Rattle.std.proofs.Common.{◌≡◌, ℕ, ◌+◌, ◌<◌, zero, suc, false, true, List, [], ◌∷◌, ◌++◌, length, get_or, drop, map, Option, Some, Result, Ok, refl, sym, ap, ◌∙◌, arith}
use Rattle.std.proofs.lemmas.Bool.{false≢true}
use Rattle.std.proofs.lemmas.List.{at_drop_more, map-append}
use Rattle.std.proofs.lemmas.Bool.Decides.{nat_tests}
use Rattle.std.specs.List.{list_any}
use Rattle.toml.specs.declared.value.Value.{Value}
use Rattle.toml.specs.View.{view}
use Rattle.job_file.specs.declared.fault.JobFault.{JobFault}
use Rattle.job_file.specs.Seen.{view_seen}
use Rattle.job_file.specs.Steps.{◌>>=◌}
use Rattle.job_file.specs.ViewKeys.{is_named, view_of, views_after}
use Rattle.job_file.specs.ViewValues.{ViewValues}
use Rattle.job_file.specs.Views.{AreNamedApart}
use Rattle.job_file.specs.declared.view.JobView.{JobView}
use Rattle.job_file.specs.declared.view.Principal.{Principal}
use Rattle.job_file.specs.declared.view.Principal.TheVariants.{Front, Back, Left, Right, Above, Below}

-- a name is itself
same : (p : Principal) → is_named p (Some p) ≡ true
same Front = refl
same Back = refl
same Left = refl
same Right = refl
same Above = refl
same Below = refl

-- another name
apart : (p : Principal) (m : Option Principal) → is_named p m ≡ false → AreNamedApart m (Some p)
apart p m other = λ q mq pq. false≢true (sym other ∙ ap (is_named p) (mq ∙ sym pq) ∙ same p)

-- a name that no view has
pub untaken : (p : Principal) (vs : List JobView) (k : ℕ) (d : JobView) → list_any (λ v. is_named p v.named) (map view_seen vs) ≡ false → k < length vs → AreNamedApart (get_or vs k d).named (Some p)
untaken p [] k d none h = absurd (omega (arith, h))
untaken p (v ∷ vs) zero d none h =
    let here : is_named p v.named ≡ false = grind (arith, nat_tests) in
    apart p v.named here
untaken p (v ∷ vs) (suc k) d none h =
    let more : list_any (λ v. is_named p v.named) (map view_seen vs) ≡ false = grind (arith, nat_tests) in
    untaken p vs k d more (omega (arith, h))

-- one more view
pub views_after-more : (earlier : List JobView) (values : List Value) (i : ℕ) (value : Value) (v : JobView) → i < length values → value ≡ get_or values i value
    → view_of (map view_seen earlier) (view value) ≡ Ok (view_seen v)
    → views_after (map view_seen (earlier ++ v ∷ [])) (map view (drop (i + 1) values)) ≡ views_after (map view_seen earlier) (map view (drop i values))
views_after-more earlier values i value v h is said =
    let after : List ViewValues → Result (List ViewValues) JobFault = λ es. views_after es (map view (drop (i + 1) values)) in
    let rest : ViewValues → Result (List ViewValues) JobFault = λ w. after (map view_seen earlier ++ w ∷ []) in
    ap after (map-append view_seen earlier (v ∷ []))
    ∙ sym (at_drop_more (λ xs. views_after (map view_seen earlier) (map view xs)) values i value h
    ∙ ap (λ x. view_of (map view_seen earlier) (view x) >>= rest) (sym is)
    ∙ ap (λ r. r >>= rest) said)
