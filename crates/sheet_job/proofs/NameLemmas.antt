-- Views that don't have one name.
use Rattle.std.proofs.Common.{◌≡◌, ℕ, ◌+◌, ◌<◌, zero, suc, false, true, List, [], ◌∷◌, ◌++◌, length, get_or, drop, map, Option, Some, Result, Ok, refl, sym, ap, ◌∙◌, arith}
use Rattle.std.proofs.lemmas.Bool.{false≢true}
use Rattle.std.proofs.lemmas.List.{at_drop_more, map-append}
use Rattle.std.proofs.lemmas.Bool.Decides.{nat_tests}
use Rattle.std.proofs.lemmas.List.Elements.{All-push}
use Rattle.std.specs.List.{All, list_any}
use Rattle.job_file.specs.ViewKeys.{is_named}
use Rattle.job_file.specs.Views.{AreNamedApart}
use Rattle.job_file.specs.declared.view.Principal.{Principal}
use Rattle.job_file.specs.declared.view.Principal.TheVariants.{Front, Back, Left, Right, Above, Below}
use Rattle.job_tables.specs.Seen.{table_seen}
use Rattle.job_tables.specs.declared.table.JobTable.{JobTable}
use Rattle.sheet_job.specs.SheetFaults.{OwnFault, ◌>>=◌}
use Rattle.sheet_job.specs.SheetSeen.{sheet_view_seen}
use Rattle.sheet_job.specs.SheetViews.{SheetViewValues, sheet_view_of, sheet_views_after}
use Rattle.sheet_job.specs.declared.view.SheetView.{SheetView}

-- a name is itself
same : (p : Principal) → is_named p (Some p) ≡ true
same Front = refl
same Back = refl
same Left = refl
same Right = refl
same Above = refl
same Below = refl

-- another name
apart : (p : Principal) (m : Option Principal) → is_named p m ≡ false → AreNamedApart m (Some p)
apart p m other = λ q mq pq. false≢true (sym other ∙ ap (is_named p) (mq ∙ sym pq) ∙ same p)

-- a name that no view has
pub untaken : (p : Principal) (vs : List SheetView) (k : ℕ) (d : SheetView) → list_any (λ v. is_named p v.named) (map sheet_view_seen vs) ≡ false → k < length vs → AreNamedApart (get_or vs k d).named (Some p)
untaken p [] k d none h = absurd (omega (arith, h))
untaken p (v ∷ vs) zero d none h =
    let here : is_named p v.named ≡ false = grind (arith, nat_tests) in
    apart p v.named here
untaken p (v ∷ vs) (suc k) d none h =
    let more : list_any (λ v. is_named p v.named) (map sheet_view_seen vs) ≡ false = grind (arith, nat_tests) in
    untaken p vs k d more (omega (arith, h))

-- one more view
pub views_after-more : (earlier : List SheetView) (tables : List JobTable) (i : ℕ) (table : JobTable) (v : SheetView) → i < length tables → table ≡ get_or tables i table
    → sheet_view_of (map sheet_view_seen earlier) (table_seen table) ≡ Ok (sheet_view_seen v)
    → sheet_views_after (map sheet_view_seen (earlier ++ v ∷ [])) (map table_seen (drop (i + 1) tables)) ≡ sheet_views_after (map sheet_view_seen earlier) (map table_seen (drop i tables))
views_after-more earlier tables i table v h is said =
    let after : List SheetViewValues → Result (List SheetViewValues) (OwnFault × ℕ) = λ es. sheet_views_after es (map table_seen (drop (i + 1) tables)) in
    let rest : SheetViewValues → Result (List SheetViewValues) (OwnFault × ℕ) = λ w. after (map sheet_view_seen earlier ++ w ∷ []) in
    ap after (map-append sheet_view_seen earlier (v ∷ []))
    ∙ sym (at_drop_more (λ xs. sheet_views_after (map sheet_view_seen earlier) (map table_seen xs)) tables i table h
    ∙ ap (λ x. sheet_view_of (map sheet_view_seen earlier) (table_seen x) >>= rest) (sym is)
    ∙ ap (λ r. r >>= rest) said)

-- ---- three of them
none_at_all : {X : Type 0} (P : X → Type 0) → All P []
none_at_all P = λ k d h. absurd (omega (arith, h))

pub all_three : {X : Type 0} (P : X → Type 0) (a b c : X) → P a → P b → P c → All P (a ∷ b ∷ c ∷ [])
all_three P a b c pa pb pc = All-push P (a ∷ b ∷ []) c (All-push P (a ∷ []) b (All-push P [] a (none_at_all P) pa) pb) pc
